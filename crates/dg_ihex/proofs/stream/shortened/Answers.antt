use Rattle.std.proofs.Common.{arith, length, ◌+◌, ◌-◌, ◌*◌, ◌/◌}
use Rattle.dg_ihex.proofs.LongLemmas.{line_short}
use Rattle.dg_ihex.proofs.stream.shortened.Goals as goal

pub returns : goal.returns
returns c =
    let line = c.args.line.now in
    line_short line c.in_ok-short.short.items c.extend_from_slice.new.self.items ((length line - 2) / 2 * 2 + 1) c.in_ok-short.ensures
    (omega arith) (omega (arith, c.requires)) c.in_ok-extend_from_slice.ensures.items

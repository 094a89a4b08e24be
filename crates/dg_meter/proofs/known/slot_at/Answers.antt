use Rattle.std.proofs.Common.{◌/◌, ◌%◌, arith}
use Rattle.dg_meter.proofs.PageLemmas.{one_there}
use Rattle.dg_meter.proofs.known.slot_at.Goals as goal

pub returns : goal.returns
returns c =
    let q = c.args.at / 2048 in
    let o = c.args.at % 2048 in
    one_there c.slot_of.result c.args.at c.args.count q o (omega arith) c.requires.in_sector (omega (arith, c.if-offset-gt-HEADER_PAGES.false)) (omega (arith, c.if-offset-count.false)) c.slot_of.ensures.here c.slot_of.ensures.others

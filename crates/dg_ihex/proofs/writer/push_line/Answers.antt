use Rattle.std.proofs.Common.{◌/◌, ◌%◌, ◌∷◌, [], length}
use Rattle.dg_ihex.specs.Written.{line_of_record}
use Rattle.dg_ihex.proofs.WriterLemmas.{line_pushed}
use Rattle.dg_ihex.proofs.writer.push_line.Goals as goal

pub returns : goal.returns
unfolding line_of_record
returns c =
    let head = length c.args.bytes.now ∷ c.args.offset / 256 ∷ c.args.offset % 256 ∷ c.args.kind ∷ [] in
    line_pushed c.args.text.now.items c.push.new.self.items c.push_upper.new.text.items c.push_upper-2.new.text.items c.push_upper-3.new.text.items c.push-2.new.self.items head c.args.bytes.now c.checksum.result
    c.in_ok-push.ensures.items c.in_ok-push_upper.ensures c.in_ok-push_upper-2.ensures c.in_ok-push_upper-3.ensures c.in_ok-push-2.ensures.items c.checksum.ensures

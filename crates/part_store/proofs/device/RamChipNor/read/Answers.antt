use Rattle.std.proofs.Common.{◌+◌, length, ap, ◌∙◌, arith}
use Rattle.dg_words.specs.Cells.{part}
use Rattle.dg_words.proofs.CellLemmas.{between-part}
use Rattle.part_store.proofs.device.RamChipNor.read.Goals as goal

pub returns-clause-bytes : goal.returns-clause-bytes
returns-clause-bytes c =
    let at = c.args.at in
    let n = length c.args.into.now in
    c.copy_from_slice.ensures.after ∙ between-part c.deref.result.now at (at + n) n (omega arith) ∙ ap (λ xs. part xs at n) c.deref.ensures.value

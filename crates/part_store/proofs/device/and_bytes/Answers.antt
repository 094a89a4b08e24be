use Rattle.std.proofs.Common.{sym, ◌∙◌, arith}
use Rattle.std.proofs.lemmas.Grind.{same_number_lists}
use Rattle.dg_nor.proofs.ChipLemmas.{length-and_each, get_or-and_each}
use Rattle.dg_nor.specs.Chip.{and_each}
use Rattle.part_store.proofs.device.and_bytes.Goals as goal

pub returns : goal.returns
returns c =
    let n = length-and_each c.args.cells.now c.args.bytes.now c.requires in
    same_number_lists c.loop-i.cells (and_each c.args.cells.now c.args.bytes.now) (omega arith) (λ k h.
    c.loop-i.invariant.done k (omega arith) ∙ sym (get_or-and_each c.args.cells.now c.args.bytes.now k (omega arith) (omega arith)))

use Rattle.std.proofs.Common.{ℕ, List, ◌++◌, sym, ap, subst, ◌∙◌, arith, refl, vec_len}
use Rattle.dg_words.proofs.CellLemmas.{AreBytes_fits}
use Rattle.dg_nor.specs.Chip.{IsChip}
use Rattle.dg_inspect.proofs.FilledLemmas.{filled}
use Rattle.dg_inspect.proofs.FilledLemmas.{IsChip-filled}
use Rattle.dg_inspect.proofs.SeenLemmas.{lengthened}
use Rattle.dg_inspect.proofs.chip.StillChip.new.Goals as goal

pub invariant_of-result : goal.invariant_of-result
invariant_of-result c =
    let held = c.in_ok-extend_from_slice.ensures.items ∙ ap (λ (xs : List ℕ). xs ++ c.args.bytes.now) c.in_ok-cells.ensures.items in
    let image = lengthened c.args.bytes.now c.extend_from_slice.new.self.items c.resize.new.self.items 1085440 (vec_len c.extend_from_slice.new.self) refl (omega arith) c.requires held c.in_ok-resize.ensures.items in
    record { chip = subst IsChip (sym image) (IsChip-filled c.args.bytes.now (omega arith) (AreBytes_fits c.args.bytes.now c.type_inv.bytes)) }

pub returns-clause-image : goal.returns-clause-image
unfolding filled
returns-clause-image c =
    let held = c.in_ok-extend_from_slice.ensures.items ∙ ap (λ (xs : List ℕ). xs ++ c.args.bytes.now) c.in_ok-cells.ensures.items in
    lengthened c.args.bytes.now c.extend_from_slice.new.self.items c.resize.new.self.items 1085440 (vec_len c.extend_from_slice.new.self) refl (omega arith) c.requires held c.in_ok-resize.ensures.items

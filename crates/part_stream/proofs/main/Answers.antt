use Rattle.std.proofs.Common.{◌≡◌, ℕ, true, false, sym, ap, subst}
use Rattle.std.specs.Prelude.{slice_index_or}
use Rattle.dg_object.specs.Object.{Outline}
use Rattle.part_stream.proofs.main.Goals as goal

pub put_back-requires : goal.put_back-requires
put_back-requires c =
    subst (λ (i : ℕ). slice_index_or c.take.new.self.lent i false ≡ true) (sym (ap (λ (o : Outline). o.image) c.loop-page.invariant)) c.in_ok-slot.ensures.open.2

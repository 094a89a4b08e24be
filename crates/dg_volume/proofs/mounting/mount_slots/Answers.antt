use Rattle.std.proofs.Common.{◌≢◌, ℕ, ◌<◌, length, subst, ◌∙◌, List, None, arith, get_or, below_more, get_or-set_other, get_or-set_same}
use Rattle.std.proofs.Math.ListN.{length-set}
use Rattle.dg_nor.proofs.ReadLemmas.{Looked_then}
use Rattle.dg_volume.proofs.ReadLemmas.{mount_after}
use Rattle.dg_control.specs.declared.snapshot.SlotState.TheVariants.{Dirty}
use Rattle.dg_volume.specs.Reading.{SlotKeeps}
use Rattle.dg_volume.proofs.mounting.mount_slots.Goals as goal

pub loop-image-preserved : goal.loop-image-preserved
loop-image-preserved g c =
    let before = c.loop-image.invariant in
    let i = c.loop-image.image in
    let kept = c.loop-image.kept in
    let found = c.in_ok-kept.ensures.kept in
    let same = before.looked.same_image in
    let within : i < length kept = omega (arith, before.long, c.loop-image-test.true) in
    record {
      found = below_more _ _
          (λ j h.
          let was = before.found j h in
          let other : j ≢ i = omega arith in
          (was.0, was.1, get_or-set_other kept i j _ None other ∙ was.2))
          (found.0, subst (λ (x : List ℕ). SlotKeeps x i (get_or c.args.snapshot.now.slots i Dirty) found.0) same found.1, get_or-set_same kept i _ None within ∙ found.2);
      long = length-set kept i _ ∙ before.long;
      looked = Looked_then before.looked c.in_ok-kept.ensures.ends;
    }

pub returns-in_err-kept-clause-ends : goal.returns-in_err-kept-clause-ends
returns-in_err-kept-clause-ends g c = mount_after c.from_residual.result c.mount_slot.result _ _ _ _ c.from_residual.ensures.1 c.in_err-kept.was c.loop-image.invariant.looked c.mount_slot.ensures.ends

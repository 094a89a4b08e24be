use Rattle.std.proofs.Common.{◌≢◌, ℕ, ◌<◌, length, subst, sym, ◌∙◌, List, None, arith, get_or, below_more, get_or-set_other, get_or-set_same}
use Rattle.std.proofs.Math.ListN.{length-set}
use Rattle.dg_nor.proofs.ReadLemmas.{ReadEnds_err, Looked_then, ReadStopped_after}
use Rattle.dg_volume.proofs.RemountLemmas.{took_slot, took_stopped, took_slots, awake_after}
use Rattle.dg_control.specs.declared.snapshot.SlotState.TheVariants.{Dirty}
use Rattle.dg_volume.specs.Reading.{SlotKeeps}
use Rattle.dg_volume.proofs.remounting.remount_slots.Goals as goal

pub remount_slot-requires-clause-keeps : goal.remount_slot-requires-clause-keeps
remount_slot-requires-clause-keeps g c =
    let i = c.loop-image.image in
    let keeps = c.requires.keeps i (omega (arith, c.loop-image-test.true)) in
    (keeps.0, subst (λ (x : List ℕ). SlotKeeps x i (get_or c.args.snapshot.now.slots i Dirty) keeps.0) (sym c.loop-image.invariant.looked.same_image) keeps.1)

pub returns-in_err-kept-clause-took : goal.returns-in_err-kept-clause-took
returns-in_err-kept-clause-took g c =
    took_stopped c.args.snapshot.now.slots c.loop-image.image (omega (arith, c.args.snapshot.now.slot_count, c.loop-image-test.true)) c.loop-image.invariant.took c.in_err-kept.ensures.took

pub loop-image-preserved : goal.loop-image-preserved
loop-image-preserved g c =
    let before = c.loop-image.invariant in
    let i = c.loop-image.image in
    let kept = c.loop-image.kept in
    let slots = c.args.snapshot.now.slots in
    let found = c.in_ok-kept.ensures.kept in
    let same = before.looked.same_image in
    let within : i < length kept = omega (arith, before.long, c.loop-image-test.true) in
    record {
      found = below_more _ _
          (λ j h.
          let was = before.found j h in
          let other : j ≢ i = omega arith in
          (was.0, was.1, get_or-set_other kept i j _ None other ∙ was.2))
          (found.0, subst (λ (x : List ℕ). SlotKeeps x i (get_or slots i Dirty) found.0) same found.1, get_or-set_same kept i _ None within ∙ found.2);
      long = length-set kept i _ ∙ before.long;
      looked = Looked_then before.looked c.in_ok-kept.ensures.ends;
      awake = λ some golden. awake_after slots i _ _ before.awake before.looked.ran.stopped c.in_ok-kept.ensures.awake golden;
      took = took_slot slots i (omega (arith, c.args.snapshot.now.slot_count, c.loop-image-test.true)) before.took c.in_ok-kept.ensures.took;
    }

pub returns-clause-took : goal.returns-clause-took
returns-clause-took g c = took_slots c.args.snapshot.now.slots c.loop-image.image c.loop-image.invariant.took

pub returns-clause-awake : goal.returns-clause-awake
returns-clause-awake g c golden = c.loop-image.invariant.awake (omega (arith, c.loop-image-test.false)) golden

pub returns-in_err-kept-clause-ends : goal.returns-in_err-kept-clause-ends
returns-in_err-kept-clause-ends g c = ReadEnds_err _ c.from_residual.result _ _ c.from_residual.ensures.1 (ReadStopped_after c.loop-image.invariant.looked c.in_err-kept.ensures.ends)

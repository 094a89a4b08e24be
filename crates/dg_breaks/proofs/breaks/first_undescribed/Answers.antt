use Rattle.std.proofs.Common.{ℕ, List, subst, below_more}
use Rattle.dg_nor.proofs.ReadLemmas.{Looked_then, ReadStopped_after, ReadEnds_err}
use Rattle.dg_breaks.specs.Breaks.{slot_state, HoldsDescriptor}
use Rattle.dg_breaks.proofs.breaks.first_undescribed.Goals as goal

pub loop-image-preserved : goal.loop-image-preserved
loop-image-preserved g c =
    let before = c.loop-image.invariant in
    let i = c.loop-image.image in
    let p = c.args.snapshot.now in
    let image = (g.N.Nor.device c.args.nor.now).image in
    let here : HoldsDescriptor (g.N.Nor.device c.loop-image.nor).image i (slot_state p i) = c.in_ok-holds_descriptor.ensures.holds.0 c.if-not-branch.false in
    record {
      before = below_more (λ j. HoldsDescriptor image j (slot_state p j)) i before.before (subst (λ (x : List ℕ). HoldsDescriptor x i (slot_state p i)) before.looked.same_image here);
      looked = Looked_then before.looked c.in_ok-holds_descriptor.ensures.ends;
    }

pub returns-in_err-holds_descriptor-clause-ends : goal.returns-in_err-holds_descriptor-clause-ends
returns-in_err-holds_descriptor-clause-ends g c =
    ReadEnds_err _ c.from_residual.result _ _ c.from_residual.ensures.1 (ReadStopped_after c.loop-image.invariant.looked c.in_err-holds_descriptor.ensures.ends)

pub returns-then-not-branch-clause-ends : goal.returns-then-not-branch-clause-ends
returns-then-not-branch-clause-ends g c = Looked_then c.loop-image.invariant.looked c.in_ok-holds_descriptor.ensures.ends

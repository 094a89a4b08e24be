use Rattle.std.proofs.Common.{refl}
use Rattle.dg_cost_text.proofs.MomentLemmas.{none_yet, none_then}
use Rattle.dg_cost.proofs.frame_rows.unheard_rows.Goals as goal

pub loop-kind-init : goal.loop-kind-init
loop-kind-init c = none_yet c.new-rows.ensures

pub loop-kind-preserved : goal.loop-kind-preserved
loop-kind-preserved c = none_then _ c.loop-kind.invariant c.in_ok-push_ended.ensures.rows refl

use Rattle.dg_layout.proofs.EachLemmas.{begun, grown}
use Rattle.dg_picture.proofs.axis.push_ticks.Goals as goal

pub loop-tick-init : goal.loop-tick-init
loop-tick-init c = begun _ _

pub loop-tick-preserved : goal.loop-tick-preserved
loop-tick-preserved c = grown _ _ _ _ _ c.loop-tick.invariant c.in_ok-push_tick.ensures

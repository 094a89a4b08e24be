use Rattle.dg_layout.proofs.EachLemmas.{begun, grown}
use Rattle.dg_layout.proofs.changing.keep_mote.Goals as goal

pub loop-before-init : goal.loop-before-init
loop-before-init c = begun _ _

pub loop-before-preserved : goal.loop-before-preserved
loop-before-preserved c = grown _ _ _ _ _ c.loop-before.invariant c.in_ok-keep_first.ensures

use Rattle.dg_layout.proofs.EachLemmas.{begun, grown}
use Rattle.dg_layout.proofs.changing.keep_firsts.Goals as goal

pub loop-mote-init : goal.loop-mote-init
loop-mote-init c = begun _ _

pub loop-mote-preserved : goal.loop-mote-preserved
loop-mote-preserved c = grown _ _ _ _ _ c.loop-mote.invariant c.in_ok-keep_mote.ensures

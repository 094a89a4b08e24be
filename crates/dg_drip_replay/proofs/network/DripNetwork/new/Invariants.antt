use Rattle.dg_drip_replay.proofs.StartLemmas.{AreNew}
use Rattle.dg_drip_replay.proofs.network.DripNetwork.new.Given as goal

abbrev pub invariant-loop-id : goal.invariant-loop-id
invariant-loop-id l = AreNew l.nodes.items l.id

use Rattle.dg_mote.proofs.RoundServe.{serves_all}
use Rattle.dg_mote.proofs.rounds.a_drained_mote_serves.Goals as goal

pub returns : goal.returns
returns c = serves_all

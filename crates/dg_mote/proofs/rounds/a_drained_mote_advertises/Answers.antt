use Rattle.dg_mote.proofs.RoundAdvert.{advertises}
use Rattle.dg_mote.proofs.rounds.a_drained_mote_advertises.Goals as goal

pub returns : goal.returns
returns c = advertises

use Rattle.dg_mote.proofs.RoundAdvert.{rests}
use Rattle.dg_mote.proofs.rounds.a_drained_mote_rests.Goals as goal

pub returns : goal.returns
returns c = rests

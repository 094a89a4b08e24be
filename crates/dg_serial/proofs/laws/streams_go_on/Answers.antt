use Rattle.dg_serial.proofs.FrontLemmas.{front_stays}
use Rattle.dg_serial.proofs.laws.streams_go_on.Goals as goal

pub returns : goal.returns
returns c = front_stays

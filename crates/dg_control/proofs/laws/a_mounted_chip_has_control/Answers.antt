use Rattle.dg_control.proofs.CommitLemmas.{control_stands}
use Rattle.dg_control.proofs.laws.a_mounted_chip_has_control.Goals as goal

pub returns : goal.returns
returns c = control_stands

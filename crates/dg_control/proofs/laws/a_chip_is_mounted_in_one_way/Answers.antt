use Rattle.dg_control.proofs.RemountLemmas.{one_mounted}
use Rattle.dg_control.proofs.laws.a_chip_is_mounted_in_one_way.Goals as goal

pub returns : goal.returns
returns c = one_mounted

use Rattle.dg_volume.proofs.EndLemmas.{boot_boots}
use Rattle.dg_volume.proofs.laws.a_start_ends.Goals as goal

pub returns : goal.returns
returns c = boot_boots

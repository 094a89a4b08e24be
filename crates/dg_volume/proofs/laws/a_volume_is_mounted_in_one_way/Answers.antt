use Rattle.dg_volume.proofs.RemountLemmas.{same_control, same_kept}
use Rattle.dg_volume.proofs.laws.a_volume_is_mounted_in_one_way.Goals as goal

pub returns : goal.returns
returns c = record { control = same_control; kept = same_kept }

use Rattle.dg_volume.proofs.RemountLemmas.{some_bytes, one_bytes}
use Rattle.dg_volume.proofs.laws.a_volume_bounds_a_remount.Goals as goal

pub returns : goal.returns
returns c = record { some = some_bytes; one = one_bytes }

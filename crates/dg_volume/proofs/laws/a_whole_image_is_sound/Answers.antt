use Rattle.dg_volume.proofs.WholeLemmas.{row_laws}
use Rattle.dg_volume.proofs.laws.a_whole_image_is_sound.Goals as goal

pub returns : goal.returns
returns c = row_laws

use Rattle.dg_volume.proofs.ShapedLemmas.{shaped}
use Rattle.dg_volume.proofs.laws.a_chip_stands_for_a_shaped_store.Goals as goal

pub returns : goal.returns
returns c = shaped

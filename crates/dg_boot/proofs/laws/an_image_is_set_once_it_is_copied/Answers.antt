use Rattle.dg_boot.proofs.LawLemmas.{set_last}
use Rattle.dg_boot.proofs.laws.an_image_is_set_once_it_is_copied.Goals as goal

pub returns : goal.returns
returns c cause s t k early leaves = set_last cause s k t early leaves

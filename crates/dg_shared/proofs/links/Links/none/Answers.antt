use Rattle.std.proofs.Common.{[], refl}
use Rattle.dg_shared.proofs.LinkLemmas.{none_known}
use Rattle.dg_shared.proofs.links.Links.none.Goals as goal

pub returns : goal.returns
returns c = none_known _ c.none.result [] c.none.ensures refl refl

-- What the motes of a world share, by the rules (docs/ARCHITECTURE.md, "The way of a script line").
use Rattle.std.specs.Prelude.{◌≡◌}
use Rattle.dg_rules.specs.World.{World as RuleWorld}
use Rattle.dg_shared.specs.Airs.{Carries}
use Rattle.dg_shared.specs.Images.{Declares}
use Rattle.dg_shared.specs.Neighbours.{KnowsLinks}
use Rattle.dg_shared.specs.declared.shared.Shared.{Shared}

pub record IsShared (v : Shared) (w : RuleWorld) : Type 0 where
  pub declared : Declares v.images w.declared
  pub links : KnowsLinks v.links.neighbours w.links
  pub narrow : w.narrow ≡ v.narrow
  pub sent : Carries v.air w.sent

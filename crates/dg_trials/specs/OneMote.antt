-- A world of one mote over its board, for the tests of this crate.
use Rattle.std.specs.Prelude.{◌≡◌, ◌≤◌, List, length}
use Rattle.dg_nor.specs.Device.{Device}
use Rattle.dg_volume.specs.Store.{Store}
use Rattle.dg_rules.specs.World.{World as RuleWorld}
use Rattle.dg_world.specs.Mounted.{StandFor}
use Rattle.dg_world.specs.Worlds.{IsWorld}
use Rattle.dg_world.specs.declared.world.World.{World}

-- the first board is a volume
pub record IsOneVolume (boards : List Device) : Type 0 where
  pub stores : List Store
  pub stands : StandFor 1 stores boards
  pub enough : 1 ≤ length boards

-- the boards stand for a world of one mote
pub record IsOneMote (v : World) (boards : List Device) : Type 0 where
  pub world : RuleWorld
  pub is : IsWorld v boards world
  pub one : length world.sites ≡ 1

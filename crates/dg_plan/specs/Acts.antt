-- What a list of commands is to the act that was planned (docs/C.md, "Plans").
use Rattle.std.specs.Prelude.{◌≡◌, ℕ, ◌+◌, ◌-◌, length}
use Rattle.dg_nor.specs.Trail.{Trail, operations, last}
use Rattle.dg_volume.specs.Store.{Store}
use Rattle.dg_volume.specs.Stands.{Stands}
use Rattle.dg_plan.specs.declared.plan.Plan.{Plan}
use Rattle.dg_plan.specs.Plans.{planned, commands_of, chip_of}

-- the commands for which there is room
abbrev pub room_left : Plan → ℕ
room_left p = length p.commands.now - p.count

-- The commands are the operations of the act, one each: carried out in their order on the chip that was handed in, they make one
-- that stands for the store at its end.
pub record IsPlanOf (t : Trail Store) (old new : Plan) : Type 0 where
  pub stands : Stands (planned new) (last t)
  pub room : room_left old ≡ operations t + room_left new
  pub count : length (commands_of new) ≡ length (commands_of old) + operations t
  pub chip : chip_of new ≡ chip_of old

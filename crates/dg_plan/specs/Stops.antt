-- What a chip is if its driver stopped between two commands (docs/C.md, "Plans").
use Rattle.std.specs.Prelude.{ℕ, take}
use Rattle.dg_nor.specs.Trail.{Trail, MayLeave}
use Rattle.dg_volume.specs.Store.{Store, IsNear}
use Rattle.dg_volume.specs.Stands.{Stands}
use Rattle.dg_plan.specs.declared.plan.Plan.{Plan}
use Rattle.dg_plan.specs.Commands.{carried_out}
use Rattle.dg_plan.specs.Plans.{commands_of, bytes_of_plan, chip_of}

-- The first k commands, carried out on the chip that was handed in, leave one that a stop of the act may leave.
abbrev pub StopsAt : Trail Store → Plan → ℕ → Type 0
StopsAt t p k = MayLeave Stands IsNear t k (carried_out (bytes_of_plan p) (take k (commands_of p)) (chip_of p))

-- A plan as a device: the chip that was handed in, as the commands so far leave it (docs/C.md, "Plans").
use Rattle.std.specs.Prelude.{ℕ, ◌-◌, ◌||◌, if◌then◌else◌, List, [], ◌∷◌, Some, None, length, take}
use Rattle.std.specs.Borrow.{GName}
use Rattle.dg_nor.specs.Device.{Device}
use Rattle.dg_plan.specs.declared.command.Command.{Command}
use Rattle.dg_plan.specs.declared.plan.Plan.{Plan}
use Rattle.dg_plan.specs.Commands.{carried_out}

-- the commands so far, in their order
abbrev pub commands_of : Plan → List Command
commands_of p = take p.count p.commands.now

-- the bytes that they program
abbrev pub bytes_of_plan : Plan → List ℕ
bytes_of_plan p = p.bytes.now

-- the chip that was handed in
abbrev pub chip_of : Plan → List ℕ
chip_of p = p.chip.now

-- the chip that they make of it
abbrev pub planned : Plan → List ℕ
planned p = carried_out (bytes_of_plan p) (commands_of p) (chip_of p)

-- the references to the two lists, which are the caller's
abbrev pub lists_of : Plan → List GName
lists_of p = p.commands.ghost_name ∷ p.bytes.ghost_name ∷ []

-- what no call on a plan changes: the references to the two lists, how long the lists are, and the chip that was handed in
abbrev pub lent_of : Plan → List ℕ
lent_of p = p.commands.ghost_name ∷ p.bytes.ghost_name ∷ length p.commands.now ∷ length p.bytes.now ∷ chip_of p

-- It is stopped if a command or its bytes had no room.
abbrev pub plan_device : Plan → Device
plan_device p = record {
  image = planned p;
  stopped = p.full || p.short;
  faults = if p.full || p.short then 1 else 0;
  left = Some (length p.commands.now - p.count);
  taken = None;
  blown = p.full;
  made = None;
  references = lent_of p;
  beneath = None;
}

-- Why an event was not done, by the faults of a node.
use Rattle.std.specs.Prelude.{ℕ, List, Option, None, Result, Ok, Err}
use Rattle.dg_boot.specs.declared.BootFault.{BootFault}
use Rattle.dg_boot.specs.declared.BootFault.TheVariants as boot_fault
use Rattle.dg_volume.specs.declared.volume.MountFault.{MountFault}
use Rattle.dg_volume.specs.declared.volume.MountFault.TheVariants as mount_fault
use Rattle.dg_node.specs.declared.answers.TickFault.{TickFault}
use Rattle.dg_node.specs.declared.answers.TickFault.TheVariants as tick_fault
use Rattle.dg_node.specs.Ends.{NodeEnd, Quiet, Sent, Starts, Stopped, NotAVolume, NoImage}
use Rattle.dg_world.specs.inner.EventOutcomes.{EventOutcome, Halt}
use Rattle.dg_world.specs.inner.EventOutcomes as event
use Rattle.dg_world.specs.inner.OutcomeEndings.{outcome_sent}
use Rattle.dg_world.specs.declared.outcome.Fault.{Fault}
use Rattle.dg_world.specs.declared.outcome.Fault.TheVariants as fault

abbrev pub fault_of_start : BootFault → Fault
fault_of_start boot_fault.Stopped = fault.Stopped
fault_of_start boot_fault.NotAVolume = fault.NotAVolume
fault_of_start boot_fault.NoImage = fault.NoImage

abbrev pub fault_of_mount : MountFault → Fault
fault_of_mount mount_fault.Stopped = fault.Stopped
fault_of_mount mount_fault.NotAVolume = fault.NotAVolume

abbrev pub fault_of_tick : TickFault → Fault
fault_of_tick tick_fault.Stopped = fault.Stopped
fault_of_tick tick_fault.NoImage = fault.NoImage

-- what is reported of a node's event that changes neither what its chip keeps nor its order, by how it ended
abbrev pub outcome_by_end : NodeEnd → (frame : Option (List ℕ)) → Result EventOutcome Halt
outcome_by_end Quiet frame = Ok (outcome_sent frame)
outcome_by_end Sent frame = Ok (outcome_sent frame)
outcome_by_end (Starts image) frame = Ok (event.Starts image)
outcome_by_end Stopped frame = Err (event.Stopped None)
outcome_by_end NotAVolume frame = Err event.NotAVolume
outcome_by_end NoImage frame = Err event.NoImage

-- What the parts of a mount find, and how they end (docs/IMAGES.md, "Stores").
use Rattle.std.specs.Prelude.{◌≡◌, ℕ, List, Option, IfSome, Result, Ok, Err}
use Rattle.dg_nor.specs.Device.{Device}
use Rattle.dg_nor.specs.Reads.{Looked, ReadStopped}
use Rattle.dg_control.specs.declared.snapshot.Program.{Program}
use Rattle.dg_control.specs.declared.snapshot.SlotState.{SlotState}
use Rattle.dg_control.specs.declared.faults.MountFault.{MountFault as ControlFault}
use Rattle.dg_control.specs.declared.faults.MountFault.TheVariants as control
use Rattle.dg_slot.specs.Kept.{Held, KeepsImage}
use Rattle.dg_volume.specs.Store.{App}
use Rattle.dg_volume.specs.Told.{slot_told, program_told}
use Rattle.dg_volume.specs.Stands.{HoldsApp}
use Rattle.dg_volume.specs.declared.volume.MountFault.{MountFault}
use Rattle.dg_volume.specs.declared.volume.MountFault.TheVariants as mount

-- a slot in this state keeps this
pub record SlotKeeps (c : List ℕ) (i : ℕ) (x : SlotState) (h : Option Held) : Type 0 where
  pub state : x ≡ slot_told h
  pub keeps : IfSome h (KeepsImage c i)

-- program memory in this state holds this
pub record ProgramHolds (c : List ℕ) (p : Program) (app : Option App) : Type 0 where
  pub state : p ≡ program_told app
  pub holds : IfSome app (HoldsApp c)

abbrev pub MountEnds : {T : Type 0} → Result T MountFault → Device → Device → Type 0
MountEnds (Ok x) old new = Looked old new
MountEnds (Err mount.NotAVolume) old new = Looked old new
MountEnds (Err mount.Stopped) old new = ReadStopped old new

-- a chip whose control could not be mounted
abbrev pub volume_mount_fault : ControlFault → MountFault
volume_mount_fault control.Stopped = mount.Stopped
volume_mount_fault control.NotAVolume = mount.NotAVolume

-- Faults that are forwarded, and their texts (docs/IMAGES.md, "The start").
use Rattle.std.specs.Prelude.{ℕ, List, codes}
use Rattle.dg_volume.specs.declared.volume.MountFault.{MountFault}
use Rattle.dg_volume.specs.declared.volume.MountFault.TheVariants as mount_fault
use Rattle.dg_boot.specs.declared.BootFault.{BootFault}
use Rattle.dg_boot.specs.declared.BootFault.TheVariants as boot_fault

-- a start that could not mount the chip
abbrev pub boot_fault_of : MountFault → BootFault
boot_fault_of mount_fault.Stopped = boot_fault.Stopped
boot_fault_of mount_fault.NotAVolume = boot_fault.NotAVolume

abbrev pub boot_fault_text : BootFault → List ℕ
boot_fault_text boot_fault.Stopped = codes "the flash chip is stopped"
boot_fault_text boot_fault.NotAVolume = codes "the flash chip holds no volume"
boot_fault_text boot_fault.NoImage = codes "there is no image to start"

-- The texts of the faults of a volume (docs/IMAGES.md, "Stores").
use Rattle.std.specs.Prelude.{ℕ, List, ◌++◌, codes, decimal}
use Rattle.dg_volume.specs.declared.volume.FormatFault.{FormatFault}
use Rattle.dg_volume.specs.declared.volume.FormatFault.TheVariants as format_fault
use Rattle.dg_volume.specs.declared.volume.MountFault.{MountFault}
use Rattle.dg_volume.specs.declared.volume.MountFault.TheVariants as mount_fault
use Rattle.dg_volume.specs.declared.volume.TakeFault.{TakeFault}
use Rattle.dg_volume.specs.declared.volume.TakeFault.TheVariants as take_fault
use Rattle.dg_volume.specs.declared.volume.InjectFault.{InjectFault}
use Rattle.dg_volume.specs.declared.volume.InjectFault.TheVariants as inject_fault
use Rattle.dg_volume.specs.declared.volume.OrderFault.{OrderFault}
use Rattle.dg_volume.specs.declared.volume.OrderFault.TheVariants as order_fault

abbrev stopped_text : List ℕ
stopped_text = codes "the flash chip is stopped"

abbrev worn_text : ℕ → List ℕ
worn_text room = codes "the flash chip has room for " ++ (decimal room ++ codes " commits")

abbrev pub format_fault_text : FormatFault → List ℕ
format_fault_text format_fault.Stopped = stopped_text
format_fault_text format_fault.Empty = codes "the golden image is empty"
format_fault_text format_fault.TooLarge = codes "the golden image is too large"

abbrev pub volume_mount_text : MountFault → List ℕ
volume_mount_text mount_fault.Stopped = stopped_text
volume_mount_text mount_fault.NotAVolume = codes "the flash chip holds no volume"

abbrev pub take_fault_text : TakeFault → List ℕ
take_fault_text take_fault.Stopped = stopped_text
take_fault_text (take_fault.Stale kept) = codes "version " ++ (decimal kept ++ codes " is kept")
take_fault_text take_fault.Reserved = codes "image 0 is golden"
take_fault_text (take_fault.Worn room) = worn_text room

abbrev pub inject_fault_text : InjectFault → List ℕ
inject_fault_text inject_fault.Stopped = stopped_text
inject_fault_text inject_fault.Empty = codes "the image is empty"
inject_fault_text inject_fault.TooLarge = codes "the image is too large"
inject_fault_text (inject_fault.Stale kept) = codes "version " ++ (decimal kept ++ codes " is kept, which is larger")
inject_fault_text inject_fault.Reserved = codes "image 0 is golden"
inject_fault_text (inject_fault.Worn room) = worn_text room
inject_fault_text inject_fault.Taken = codes "this version is kept with other content"

abbrev pub order_fault_text : OrderFault → List ℕ
order_fault_text order_fault.Stopped = stopped_text
order_fault_text (order_fault.Worn room) = worn_text room
order_fault_text (order_fault.OldOrder kept) = codes "an order with number " ++ (decimal kept ++ codes " is kept")

-- How the faults of the layers below end a command (docs/COMMANDS.md, "How a command ends").
use Rattle.std.specs.Prelude.{ℕ}
use Rattle.dg_boot.specs.declared.BootFault.{BootFault}
use Rattle.dg_boot.specs.declared.BootFault.TheVariants as boot
use Rattle.dg_chain.specs.declared.checking.ChainFault.{ChainFault}
use Rattle.dg_chain.specs.declared.checking.ChainFault.TheVariants as chain
use Rattle.dg_chain.specs.declared.wrapping.WrapFault.{WrapFault}
use Rattle.dg_chain.specs.declared.wrapping.WrapFault.TheVariants as wrap
use Rattle.dg_control.specs.declared.faults.CommitFault.{CommitFault}
use Rattle.dg_control.specs.declared.faults.CommitFault.TheVariants as commit
use Rattle.dg_ihex.specs.declared.faults.HexFileFault.{HexFileFault}
use Rattle.dg_ihex.specs.declared.faults.HexCause.{HexCause}
use Rattle.dg_ihex.specs.declared.faults.HexCause.TheVariants as causes
use Rattle.dg_input.specs.declared.ReadStop.{ReadStop}
use Rattle.dg_input.specs.declared.ReadStop.TheVariants as read
use Rattle.dg_netcfg.specs.declared.profile.ProfileFault.{ProfileFault}
use Rattle.dg_netcfg.specs.declared.profile.ProfileFault.TheVariants as profile
use Rattle.dg_volume.specs.declared.volume.FormatFault.{FormatFault}
use Rattle.dg_volume.specs.declared.volume.FormatFault.TheVariants as format
use Rattle.dg_volume.specs.declared.volume.InjectFault.{InjectFault}
use Rattle.dg_volume.specs.declared.volume.InjectFault.TheVariants as inject
use Rattle.dg_volume.specs.declared.volume.MountFault.{MountFault}
use Rattle.dg_volume.specs.declared.volume.MountFault.TheVariants as mount
use Rattle.dg_volume.specs.declared.volume.OrderFault.{OrderFault}
use Rattle.dg_volume.specs.declared.volume.OrderFault.TheVariants as order
use Rattle.dg_volume.specs.declared.volume.TakeFault.{TakeFault}
use Rattle.dg_volume.specs.declared.volume.TakeFault.TheVariants as take
use Rattle.dg_end.specs.declared.refusal.Refusal.TheVariants as refusals
use Rattle.dg_end.specs.declared.ends.End.{End}
use Rattle.dg_end.specs.declared.ends.End.TheVariants as ends

abbrev pub end_of_read : ReadStop → End
end_of_read read.Memory = ends.Memory
end_of_read read.ReadFault = ends.ReadFault

abbrev pub end_of_mount : MountFault → End
end_of_mount mount.Stopped = ends.FlashFault
end_of_mount mount.NotAVolume = ends.NotAVolume

abbrev pub end_of_boot : BootFault → End
end_of_boot boot.Stopped = ends.FlashFault
end_of_boot boot.NotAVolume = ends.NotAVolume
end_of_boot boot.NoImage = ends.NoImage

abbrev pub end_of_order : OrderFault → End
end_of_order order.Stopped = ends.FlashFault
end_of_order (order.Worn room) = ends.Refused (refusals.Worn room)
end_of_order (order.OldOrder kept) = ends.Refused (refusals.OldOrder kept)

-- of an image of this many bytes
abbrev pub end_of_injection : (size : ℕ) → InjectFault → End
end_of_injection size inject.Stopped = ends.FlashFault
end_of_injection size inject.Empty = ends.Refused refusals.Empty
end_of_injection size inject.TooLarge = ends.Refused (refusals.TooLarge size)
end_of_injection size (inject.Stale kept) = ends.Refused (refusals.Stale kept)
end_of_injection size inject.Reserved = ends.Refused refusals.Reserved
end_of_injection size (inject.Worn room) = ends.Refused (refusals.Worn room)
end_of_injection size inject.Taken = ends.Refused refusals.Taken

abbrev pub end_of_format : (size : ℕ) → FormatFault → End
end_of_format size format.Stopped = ends.FlashFault
end_of_format size format.Empty = ends.Refused refusals.Empty
end_of_format size format.TooLarge = ends.Refused (refusals.TooLarge size)

-- a commit is refused where no room is left
abbrev pub end_of_commit : CommitFault → End
end_of_commit commit.Stopped = ends.FlashFault
end_of_commit commit.Worn = ends.Refused (refusals.Worn 0)

abbrev pub end_of_profile : ProfileFault → End
end_of_profile profile.Memory = ends.Memory
end_of_profile fault = ends.BadProfile fault

abbrev pub end_by : HexCause → HexFileFault → End
end_by causes.Memory fault = ends.Memory
end_by cause fault = ends.BadHex fault

abbrev pub end_of_hex : HexFileFault → End
end_of_hex fault = end_by fault.cause fault

abbrev pub end_of_take : TakeFault → End
end_of_take take.Stopped = ends.FlashFault
end_of_take (take.Stale kept) = ends.Refused (refusals.Stale kept)
end_of_take take.Reserved = ends.Refused refusals.Reserved
end_of_take (take.Worn room) = ends.Refused (refusals.Worn room)

-- of a payload that is not wrapped
abbrev pub end_of_wrap : WrapFault → End
end_of_wrap wrap.Memory = ends.Memory
end_of_wrap wrap.Empty = ends.Refused refusals.Empty
end_of_wrap (wrap.TooLarge length) = ends.Refused (refusals.TooLarge length)

-- of data pages that are not those of a root
abbrev pub end_of_chain : ChainFault → End
end_of_chain chain.Stopped = ends.FlashFault
end_of_chain (chain.Broken page kept found) = ends.Refused (refusals.Broken page kept found)
end_of_chain chain.Shape = ends.Refused refusals.Shape

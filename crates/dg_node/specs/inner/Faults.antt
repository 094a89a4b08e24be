-- What a node answers, by the faults of the crates below it.
use Rattle.std.specs.Prelude.{Bool, Some, Result, Ok, Err}
use Rattle.dg_volume.specs.declared.volume.InjectFault.{InjectFault}
use Rattle.dg_volume.specs.declared.volume.InjectFault.TheVariants as inject
use Rattle.dg_volume.specs.declared.volume.OrderFault.{OrderFault}
use Rattle.dg_volume.specs.declared.volume.OrderFault.TheVariants as order_fault
use Rattle.dg_node.specs.declared.report.ChipReport.{ChipReport}
use Rattle.dg_node.specs.declared.acts.ActFault.{ActFault}
use Rattle.dg_node.specs.declared.acts.ActFault.TheVariants as act_fault
use Rattle.dg_node.specs.declared.acts.Ordered.{Ordered}
use Rattle.dg_node.specs.declared.acts.Ordered.TheVariants as ordered
use Rattle.dg_node.specs.declared.acts.Injected.{Injected}
use Rattle.dg_node.specs.declared.acts.Injected.TheVariants as injected
use Rattle.dg_boot.specs.declared.BootFault.{BootFault}
use Rattle.dg_boot.specs.declared.BootFault.TheVariants as boot_fault
use Rattle.dg_node.specs.declared.answers.TickFault.{TickFault}
use Rattle.dg_node.specs.declared.answers.TickFault.TheVariants as tick_fault

-- why a restart failed, at a board that is a volume
abbrev pub restart_fault : BootFault → TickFault
restart_fault boot_fault.Stopped = tick_fault.Stopped
restart_fault boot_fault.NotAVolume = tick_fault.Stopped
restart_fault boot_fault.NoImage = tick_fault.NoImage

abbrev pub order_failed : OrderFault → ChipReport → Bool → Result Ordered ActFault
order_failed order_fault.Stopped before orderly = Err (act_fault.Stopped (Some before))
order_failed why before orderly = Ok (ordered.Refused why orderly)

abbrev pub inject_failed : InjectFault → ChipReport → Bool → Result Injected ActFault
inject_failed inject.Stopped before orderly = Err (act_fault.Stopped (Some before))
inject_failed why before orderly = Ok (injected.Refused why orderly)

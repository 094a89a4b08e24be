-- What an injection or an order did, as an outcome (docs/ARCHITECTURE.md, "The way of a script line").
use Rattle.std.specs.Prelude.{Option, Some, None, Result, Ok, Err}
use Rattle.dg_object.specs.Object.{Row}
use Rattle.dg_rules.specs.Events.{order_cause, inject_cause}
use Rattle.dg_script.specs.declared.report.Cause.{Cause}
use Rattle.dg_node.specs.declared.acts.ActFault.{ActFault}
use Rattle.dg_node.specs.declared.acts.ActFault.TheVariants as act_fault
use Rattle.dg_node.specs.declared.acts.Ordered.{Ordered}
use Rattle.dg_node.specs.declared.acts.Ordered.TheVariants as ordered
use Rattle.dg_node.specs.declared.acts.Injected.{Injected}
use Rattle.dg_node.specs.declared.acts.Injected.TheVariants as injected
use Rattle.dg_world.specs.inner.EventOutcomes.{EventOutcome, Halt, Refused, Changes, Stopped, NotAVolume}

abbrev pub ordered_outcome : Ordered → EventOutcome
ordered_outcome (ordered.Kept x) = Changes x.before x.after
ordered_outcome (ordered.Refused why orderly) = Refused (order_cause why)

abbrev pub injected_outcome : Row → Injected → EventOutcome
injected_outcome row (injected.Kept x) = Changes x.before x.after
injected_outcome row (injected.Refused why orderly) = Refused (inject_cause row why)

abbrev pub injected_refusal : Row → Injected → Option Cause
injected_refusal row (injected.Kept x) = None
injected_refusal row (injected.Refused why orderly) = Some (inject_cause row why)

abbrev pub halt_of_act : ActFault → Halt
halt_of_act (act_fault.Stopped before) = Stopped before
halt_of_act act_fault.NotAVolume = NotAVolume

abbrev pub order_outcome : Result Ordered ActFault → Result EventOutcome Halt
order_outcome (Ok x) = Ok (ordered_outcome x)
order_outcome (Err f) = Err (halt_of_act f)

abbrev pub inject_outcome : Row → Result Injected ActFault → Result EventOutcome Halt
inject_outcome row (Ok x) = Ok (injected_outcome row x)
inject_outcome row (Err f) = Err (halt_of_act f)

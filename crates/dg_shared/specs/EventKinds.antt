-- The kind of an event, as it is told apart once.
use Rattle.std.specs.Prelude.{◌≡◌}
use Rattle.dg_base.specs.declared.events.Event.{Event}
use Rattle.dg_base.specs.declared.events.Event.TheVariants.{Tick, Last}
use Rattle.dg_shared.specs.declared.events.EventKind.{EventKind}
use Rattle.dg_shared.specs.declared.events.EventKind.TheVariants as kind

-- a kind with fields has those of the event
abbrev pub IsEventKind : EventKind → Event → Type 0
IsEventKind (kind.Tick mote dt word) event = event ≡ Tick mote dt word
IsEventKind (kind.Last from to dt word) event = event ≡ Last from to dt word
IsEventKind kind.Other event = Unit {0}

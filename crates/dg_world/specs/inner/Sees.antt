-- What an event sees and reads of a board that is known.
use Rattle.std.specs.Prelude.{◌≡◌, ◌≢◌, ◌↔◌, ◌+◌, ℕ, Bool, true, List, Option, Some, None}
use Rattle.dg_nor.specs.Device.{Device, Took}
use Rattle.dg_volume.specs.Remount.{RemountBytes}
use Rattle.dg_control.specs.Store.{IsOrderlyChip}
use Rattle.dg_control.specs.Mounted.{IsControlOf}
use Rattle.dg_volume.specs.Stands.{control_of}
use Rattle.dg_mote.specs.Motes.{volume_of}
use Rattle.dg_rules.specs.World.{World as RuleWorld}
use Rattle.dg_base.specs.declared.events.Event.{Event}
use Rattle.dg_base.specs.declared.events.Event.TheVariants.{Tick, Hear, Last, Reset, Inject, Order as OrderEvent, Frame}
use Rattle.dg_script.specs.declared.report.Cause.{Cause}
use Rattle.dg_script.specs.declared.report.Cause.TheVariants as cause
use Rattle.dg_node.specs.Known.{SeesOrder, OrderReads}
use Rattle.dg_world.specs.Known.{beyond}
use Rattle.dg_shared.specs.LookedInto.{MakesKnown}
use Rattle.dg_world.specs.inner.EventOutcomes.{EventOutcome, Refused, Unreported, Sends, Changes, Starts}
use Rattle.dg_world.specs.inner.Outcomes.{outcome_of}
use Rattle.dg_world.specs.declared.outcome.Outcome.{Outcome}
use Rattle.dg_node.specs.declared.node.Node.{Node}

-- refused without a look at the chip, as an injection or an order may be
abbrev pub IsUndeclared : EventOutcome → Type 0
IsUndeclared (Refused cause.Image) = Unit {0}
IsUndeclared (Refused cause.Reserved) = Unit {0}
IsUndeclared (Refused cause.Off) = ⊥
IsUndeclared (Refused cause.Frame) = ⊥
IsUndeclared (Refused cause.Link) = ⊥
IsUndeclared (Refused cause.Empty) = ⊥
IsUndeclared (Refused (cause.TooLarge length)) = ⊥
IsUndeclared (Refused (cause.Stale version)) = ⊥
IsUndeclared (Refused cause.Taken) = ⊥
IsUndeclared (Refused (cause.Worn room)) = ⊥
IsUndeclared (Refused (cause.OldOrder number)) = ⊥
IsUndeclared Unreported = ⊥
IsUndeclared (Sends bytes) = ⊥
IsUndeclared (Changes old new) = ⊥
IsUndeclared (Starts line) = ⊥

-- an injection or an order reports whether the chip is orderly, or did not look at it
abbrev pub SeesInjected : Option Bool → EventOutcome → List ℕ → List ℕ → Type 0
SeesInjected (Some orderly) outcome c d = SeesOrder orderly d
SeesInjected None outcome c d = (d ≡ c) × IsUndeclared outcome

-- what a mote does by itself does not report whether the chip is orderly, and a mote that is off does nothing
pub record SeesMote (t : Outcome) (u : Option Node) (c d : List ℕ) : Type 0 where
  pub untold : t.orderly ≡ None
  pub off : u ≡ None → d ≡ c

pub record SeesStart (t : Outcome) (u : Option Node) : Type 0 where
  pub untold : t.orderly ≡ None
  pub on : u ≢ None

abbrev pub EventSees : Event → Outcome → Option Node → List ℕ → List ℕ → Type 0
EventSees (Tick mote dt word) t u c d = SeesMote t u c d
EventSees (Hear mote dt word frame) t u c d = SeesMote t u c d
EventSees (Last from to dt word) t u c d = SeesMote t u c d
EventSees (Frame mote dt word bytes) t u c d = SeesMote t u c d
EventSees (Reset mote dt word) t u c d = SeesStart t u
EventSees (Inject mote image version dt word) t u c d = SeesInjected t.orderly (outcome_of t) c d
EventSees (OrderEvent mote number image version dt word) t u c d = SeesInjected t.orderly (outcome_of t) c d

-- A step reports whether the chip is orderly. If it does not, and the mote is off after it, then a known board is unchanged,
-- and the event does not make the board known.
abbrev pub StepSees : RuleWorld → Event → Bool → Option Bool → Option Node → List ℕ → List ℕ → Type 0
StepSees w event known (Some orderly) u c d = SeesOrder orderly d
StepSees w event known None u c d = u ≡ None → (known ≡ true → d ≡ c) × (MakesKnown w event → ⊥)

-- what was seen after a cut that fired, of a board that was known or not
abbrev pub SeesCut : RuleWorld → Event → Bool → Option Bool → List ℕ → Type 0
SeesCut w event known (Some orderly) c = SeesOrder orderly c
SeesCut w event known None c = (known ≡ true → ⊥) × (MakesKnown w event → ⊥)

-- Whether a board is known afterwards: by the volume of a mote that is on, else by what was seen, else as before.
abbrev pub KnownAfter : Bool → Option Bool → Option Node → List ℕ → Bool → Type 0
KnownAfter known seen (Some r) c result =
    IsControlOf c (control_of (volume_of r.mote)) → (result ≡ true) ↔ ((known ≡ true) × IsOrderlyChip c)
KnownAfter known (Some orderly) None c result = (result ≡ true) ↔ ((known ≡ true) × (orderly ≡ true))
KnownAfter known None None c result = result ≡ known

-- a refused injection mounts a known board again, and may look at a page
abbrev pub InjectReads : Bool → Option Cause → Device → Device → Type 0
InjectReads known refused a b =
    known ≡ true → (n : ℕ) (why : Cause) → RemountBytes a.image n → refused ≡ Some why → Took (n + beyond why) a b

abbrev pub EventReads : Event → Bool → (done : Type 0) → Option Cause → Device → Device → Type 0
EventReads (Tick mote dt word) known done refused a b = Unit {0}
EventReads (Hear mote dt word frame) known done refused a b = Unit {0}
EventReads (Last from to dt word) known done refused a b = Unit {0}
EventReads (Frame mote dt word bytes) known done refused a b = Unit {0}
EventReads (Reset mote dt word) known done refused a b = Unit {0}
EventReads (Inject mote image version dt word) known done refused a b = done → InjectReads known refused a b
EventReads (OrderEvent mote number image version dt word) known done refused a b = OrderReads known a b

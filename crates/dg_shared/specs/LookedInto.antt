-- Events that look at the chip of their mote, and so make its board known (docs/IMAGES.md, "Mounting again").
use Rattle.std.specs.Prelude.{◌≢◌}
use Rattle.dg_rules.specs.World.{World as RuleWorld}
use Rattle.dg_rules.specs.Events.{Does, Refuses, does}
use Rattle.dg_base.specs.declared.events.Event.{Event}
use Rattle.dg_base.specs.declared.events.Event.TheVariants.{Tick, Hear, Last, Reset, Inject, Order as OrderEvent, Frame}
use Rattle.dg_script.specs.declared.report.Cause.TheVariants as cause

-- an event that is not refused as `reserved` or `image`
pub record IsLookedInto (effect : Does) : Type 0 where
  pub not_reserved : effect ≢ Refuses cause.Reserved
  pub declared : effect ≢ Refuses cause.Image

-- The event makes the board of its mote known, if the board is orderly afterwards: a reset, and an injection or an order that
-- looks at the chip.
abbrev pub MakesKnown : RuleWorld → Event → Type 0
MakesKnown w (Tick mote dt word) = ⊥
MakesKnown w (Hear mote dt word frame) = ⊥
MakesKnown w (Last from to dt word) = ⊥
MakesKnown w (Frame mote dt word bytes) = ⊥
MakesKnown w (Reset mote dt word) = Unit {0}
MakesKnown w (Inject mote image version dt word) = IsLookedInto (does w (Inject mote image version dt word))
MakesKnown w (OrderEvent mote number image version dt word) = IsLookedInto (does w (OrderEvent mote number image version dt word))

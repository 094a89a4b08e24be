-- Which boards a world knows after an event (docs/ARCHITECTURE.md, "The way of a script line").
use Rattle.std.specs.Prelude.{◌≡◌, ◌↔◌, ◌⊎◌, ℕ, ◌<◌, true, List, length, slice_get, Some}
use Rattle.dg_nor.specs.Device.{Device}
use Rattle.dg_control.specs.Store.{IsOrderlyChip}
use Rattle.dg_rules.specs.World.{World as RuleWorld}
use Rattle.dg_rules.specs.Events.{mote_of}
use Rattle.dg_base.specs.declared.events.Event.{Event}
use Rattle.dg_world.specs.Known.{known_of}
use Rattle.dg_shared.specs.LookedInto.{MakesKnown}
use Rattle.dg_world.specs.declared.world.World.{World}

-- the board of a mote was known, or the event made it so
abbrev pub IsMadeKnown : RuleWorld → Event → World → ℕ → Type 0
IsMadeKnown w event v m = (known_of v m ≡ true) ⊎ ((mote_of event ≡ m) × MakesKnown w event)

-- A board is known exactly if it is orderly, and was known or was made known.
pub record KnowsThen (w : RuleWorld) (event : Event) (old new : World) (boards : List Device) : Type 0 where
  pub exactly : (m : ℕ) (d : Device) → m < length w.sites → slice_get boards m ≡ Some d
      → (known_of new m ≡ true) ↔ (IsOrderlyChip d.image × IsMadeKnown w event old m)

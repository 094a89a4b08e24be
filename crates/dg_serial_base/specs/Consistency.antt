-- Base motes over consistent chips, whatever bytes their lines bring (docs/PROMISES.md, "A base mote on a serial line").
use Rattle.std.specs.Prelude.{◌≡◌, ◌≢◌, List, [], ◌∷◌, take, ℕ, Some, IfSome}
use Rattle.dg_base.specs.Sizes.{most_input}
use Rattle.dg_base.specs.declared.answers.Status.{Status}
use Rattle.dg_base.specs.declared.answers.Status.TheVariants as status
use Rattle.dg_object.specs.Object.{Row}
use Rattle.dg_volume.specs.Start.{app_of}
use Rattle.dg_volume.specs.Consistent.{IsSoundApp}
use Rattle.dg_volume.specs.Store.{Store}
use Rattle.dg_mote.specs.Model.{MoteState}
use Rattle.dg_mote.specs.Effects.{Effect}
use Rattle.dg_mote.specs.Consistency.{ChipIsConsistent}
use Rattle.dg_serial_base.specs.BaseEvents.{Base, At, BaseEvent, base_events_of, powered, power_effect, effect_of}
use Rattle.dg_serial_base.specs.BaseEvents.{after_base_event}

-- what an event starts, if anything, is golden byte for byte, or pages that fit the descriptor before them
abbrev pub BaseStartsSound : Row → Effect → Type 0
BaseStartsSound golden e = IfSome e.started (λ r. IsSoundApp golden (app_of r))

-- what each of these events starts is sound, one after another
unfoldable pub AllStartSound : Row → Base → At → List BaseEvent → Type 0
AllStartSound golden b a [] = Unit {0}
AllStartSound golden b a (d ∷ ds) =
    (m : MoteState) → a.mote ≡ Some m → BaseStartsSound golden (effect_of b m a d)
    × AllStartSound golden b (after_base_event b m a d) ds

-- From a chip that stood for s, however the line ended: what power-on and the events of the input start is sound, no start
-- lacked an image, and the chip stands for a consistent store.
pub record BaseStaysConsistent (golden : Row) (answer : Status) (b : Base) (s : Store) (input image : List ℕ) : Type 0 where
  pub power : BaseStartsSound golden (power_effect b s)
  pub base_events : AllStartSound golden b (powered b s) (base_events_of (take most_input input))
  pub found : answer ≢ status.NoImage
  pub chip : ChipIsConsistent golden image

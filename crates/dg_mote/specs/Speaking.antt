-- Motes whose messages fit into frames: what they send is read back unchanged (the type `Mote` of this crate).
use Rattle.std.specs.Prelude.{◌≡◌, ℕ, ◌<◌, ◌^◌, Bool, Ok, IfSome}
use Rattle.dg_nor.specs.Trail.{last}
use Rattle.dg_nor.specs.Through.{Through}
use Rattle.dg_control.specs.declared.snapshot.Order.{Order}
use Rattle.dg_volume.specs.Store.{Store}
use Rattle.dg_frame.specs.Sizes.{wide_images}
use Rattle.dg_frame.specs.Grammar.{message_of}
use Rattle.dg_frame.specs.Ranges.{OrderInRange}
use Rattle.dg_frame.specs.Spelling.{frame_of, FitsTypes}
use Rattle.dg_frame.specs.declared.Message.{Message}
use Rattle.dg_mote.specs.Model.{MoteState, Mode, Maintain, Receive, Transmit, NamesKnown, MoteStep}
use Rattle.dg_mote.specs.Effects.{Effect}
use Rattle.dg_mote.specs.Hears.{source_of}

-- an order that a wide frame can carry
pub record OrderFits (o : Order) : Type 0 where
  pub in_range : OrderInRange wide_images o
  pub number : o.number < 2 ^ 32
  pub version : o.version < 2 ^ 32

-- the server that is asked has an id
abbrev pub ServerFits : Mode → Type 0
ServerFits (Maintain timer) = Unit {0}
ServerFits (Receive r) = r.server < 2 ^ 16
ServerFits (Transmit t) = Unit {0}

-- a mote has an id of two bytes and names only images that its frames can name, and its store has an order that a wide frame
-- can carry
pub record Speaks (m : MoteState) (s : Store) : Type 0 where
  pub id : m.id < 2 ^ 16
  pub server : ServerFits m.mode
  pub known : NamesKnown m.wide m.mode
  pub order : OrderFits s.order

-- the stores of a step have such orders, and the mote keeps its id and its width, and still satisfies `Speaks`
pub record TurnSpeaks {A : Type 0} (id : ℕ) (wide : Bool) (step : MoteStep A) : Type 0 where
  pub way : Through (λ s. OrderFits s.order) step.trail
  pub id_is : step.mote.id ≡ id
  pub wide_is : step.mote.wide ≡ wide
  pub mote : Speaks step.mote (last step.trail)

-- The stores of an event have such orders too, and a mote that was started has the same id and width.
pub record EffectSpeaks (id : ℕ) (wide : Bool) (e : Effect) : Type 0 where
  pub way : Through (λ s. OrderFits s.order) e.trail
  pub mote : IfSome e.mote (λ m. (m.id ≡ id) × (m.wide ≡ wide) × Speaks m (last e.trail))

-- A message of a wide mote, or of a narrow one: it names the mote as its source, and its frame is read as the message by
-- motes of its width.
pub record IsSaid (id : ℕ) (wide : Bool) (message : Message) : Type 0 where
  pub source : source_of message ≡ id
  pub fits : FitsTypes message
  pub is_read : message_of (frame_of message) wide ≡ Ok message

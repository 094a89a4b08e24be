-- What happens to a base mote: it powers on, and then for each item of its line it hears the frame, if the item is one, and
-- ticks (docs/COMMANDS.md, "Base").
use Rattle.std.specs.Prelude.{◌≡◌, ℕ, suc, ◌*◌, true, List, [], ◌∷◌, ◌++◌, map, Option, Some, None}
use Rattle.std.specs.List.{flat_map}
use Rattle.dg_nor.specs.Trail.{last}
use Rattle.dg_volume.specs.Store.{Store}
use Rattle.dg_frame.specs.Spelling.{frame_of}
use Rattle.dg_frame.specs.declared.Message.{Message}
use Rattle.dg_mote.specs.Model.{MoteState}
use Rattle.dg_mote.specs.Effects.{Effect, reset_effect, frame_effect, tick_effect}
use Rattle.dg_seed.specs.Draws.{draw_of}
use Rattle.dg_serial.specs.Line.{SerialItem, Frame, items, stuffed_line}

-- what happens to a mote that is on
pub data BaseEvent : Type 0 where
  Hears : (bytes : List ℕ) → BaseEvent
  Ticks : BaseEvent

abbrev pub base_events_of_item : SerialItem → List BaseEvent
base_events_of_item (Frame bytes) = Hears bytes ∷ Ticks ∷ []
base_events_of_item item = Ticks ∷ []

-- the rest of a stream gives nothing
abbrev pub base_events_of : List ℕ → List BaseEvent
base_events_of stream = flat_map base_events_of_item (items stream)

-- the number of the mote, the milliseconds from each event to the next, and the seed of its draws
pub record Base : Type 0 where
  pub id : ℕ
  pub step : ℕ
  pub seed : ℕ

-- where a mote stands after this many events: its state, None where a start had no image; the store of its chip; what it sent
pub record At : Type 0 where
  pub mote : Option MoteState
  pub store : Store
  pub events : ℕ
  pub sent : List Message

-- the moment of the event after this many
abbrev pub moment_at : Base → ℕ → ℕ
moment_at b events = b.step * suc events

abbrev pub sent_too : List Message → Option Message → List Message
sent_too sent None = sent
sent_too sent (Some message) = sent ++ message ∷ []

-- after an event of this effect
abbrev pub behind_event : Effect → (events : ℕ) → (sent : List Message) → At
behind_event e events sent = record { mote = e.mote; store = last e.trail; events = suc events; sent = sent_too sent e.sent }

-- the chip powers on, in the first event
abbrev pub power_effect : Base → Store → Effect
power_effect b s = reset_effect s b.id true (moment_at b 0) (draw_of b.seed 0)

abbrev pub powered : Base → Store → At
powered b s = behind_event (power_effect b s) 0 []

-- what an event does to a mote that stands there
abbrev pub effect_of : Base → MoteState → At → BaseEvent → Effect
effect_of b m a (Hears bytes) = frame_effect m a.store (moment_at b a.events) (draw_of b.seed a.events) bytes
effect_of b m a Ticks = tick_effect m a.store (moment_at b a.events) (draw_of b.seed a.events)

abbrev pub after_base_event : Base → MoteState → At → BaseEvent → At
after_base_event b m a d = behind_event (effect_of b m a d) a.events a.sent

-- these happen, one after another, and the mote is on before each
unfoldable pub BaseEventsRun : Base → At → List BaseEvent → At → Type 0
BaseEventsRun b a [] z = z ≡ a
BaseEventsRun b a (d ∷ ds) z = (m : MoteState) × (a.mote ≡ Some m) × BaseEventsRun b (after_base_event b m a d) ds z

-- what is on the line of a mote that sent this: the frames of its messages, stuffed, in order
abbrev pub line_sent : At → List ℕ
line_sent a = stuffed_line (map frame_of a.sent)

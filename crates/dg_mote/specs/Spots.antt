-- One mote over the store of its chip, and what ticks and messages make of the two (docs/PROMISES.md, "Laws over the
-- definitions alone").
use Rattle.std.specs.Prelude.{ℕ, zero, suc, ◌+◌, List, [], ◌∷◌, Option, Some, None, Ok}
use Rattle.dg_nor.specs.Trail.{last}
use Rattle.dg_object.specs.Object.{Row}
use Rattle.dg_volume.specs.Store.{Store}
use Rattle.dg_frame.specs.declared.Message.{Message}
pub use Rattle.dg_rounds.specs.Rounds.{pace}
use Rattle.dg_mote.specs.Model.{MoteState}
use Rattle.dg_mote.specs.Hears.{by_message}
use Rattle.dg_mote.specs.Effects.{Effect, tick_effect}
use Rattle.dg_mote.specs.Well.{IsWell}

pub record Spot : Type 0 where
  pub store : Store
  pub mote : MoteState

-- its mote and its store agree with the table and are timely
abbrev pub SpotIsWell : List Row → Spot → (now : ℕ) → Type 0
SpotIsWell table x now = IsWell table x.mote x.store now

abbrev pub mote_or : Option MoteState → MoteState → MoteState
mote_or None before = before
mote_or (Some m) before = m

abbrev pub newer_of : Option Message → Option Message → Option Message
newer_of None before = before
newer_of (Some m) before = Some m

-- a tick with word 0
abbrev pub tick_at : Spot → (now : ℕ) → Effect
tick_at x now = tick_effect x.mote x.store now 0

-- If a start found no image, which no well mote does, the mote stays as before.
unfoldable pub ticked : Spot → (now : ℕ) → Spot
ticked x now = record { store = last (tick_at x now).trail; mote = mote_or (tick_at x now).mote x.mote }

-- n ticks, the first one a pace after `now`
unfoldable pub after_ticks : ℕ → Spot → (now : ℕ) → Spot
after_ticks zero x now = x
after_ticks (suc n) x now = after_ticks n (ticked x (now + pace)) (now + pace)

-- the last message that was sent in these ticks, or before them
unfoldable pub last_sent : ℕ → Spot → (now : ℕ) → Option Message → Option Message
last_sent zero x now before = before
last_sent (suc n) x now before = last_sent n (ticked x (now + pace)) (now + pace) (newer_of (tick_at x (now + pace)).sent before)

-- a message is heard, with word 0
unfoldable pub hears : Spot → (now : ℕ) → Message → Spot
hears x now message = let t = by_message (Ok message) x.mote x.store now 0 in record { store = last t.trail; mote = t.mote }

-- messages are heard one after the other, with a pace before each
unfoldable pub hears_all : List Message → Spot → (now : ℕ) → Spot
hears_all [] x now = x
hears_all (m ∷ ms) x now = hears_all ms (hears x (now + pace) m) (now + pace)

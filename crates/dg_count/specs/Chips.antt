-- The programs and erases that were made on the chips of motes, by their meters.
use Rattle.std.specs.Prelude.{◌≡◌, ◌⊎◌, ℕ, ◌+◌, ◌<◌, false, List, ◌∷◌, slice_get, slice_index_or, Option, Some, None}
use Rattle.dg_nor.specs.Device.{Device, MadeMore}
use Rattle.dg_object.specs.Object.{Row}
use Rattle.dg_meter.specs.Shares.{no_shares}
use Rattle.dg_meter.specs.Tallies.{counts_of}
use Rattle.dg_meter.specs.declared.tally.Tally.{Tally}
use Rattle.dg_base.specs.declared.answers.Status.{Status}
use Rattle.dg_base.specs.declared.answers.Status.TheVariants.{NoImage, WriteFault}
use Rattle.dg_base.specs.declared.events.Step.{Step}
use Rattle.dg_rules.specs.Runs.{Played}
use Rattle.dg_rules.specs.Sizes.{most_motes}
use Rattle.dg_rules.specs.Steps.{EndsRun}
use Rattle.dg_rules.specs.World.{World}
use Rattle.dg_script.specs.Items.{Item, Applies}
use Rattle.dg_script.specs.Script.{Script}
use Rattle.dg_replay.specs.Replayed.{Progress}
use Rattle.dg_events.specs.Made.{item_operations, operations_at}
use Rattle.dg_count.specs.Ended.{event_place}
use Rattle.dg_count.specs.declared.place.EventPlace.{EventPlace}

-- nothing was counted
abbrev pub no_tally : Tally
no_tally = record { operations = 0; programs = no_shares; erases = no_shares; last = None; headers = 0 }

-- how many operations were made in each part of a mote's chip, by the tallies of all
abbrev pub counts_by : List Tally → (mote : ℕ) → List ℕ
counts_by tallies mote = counts_of (slice_index_or tallies mote no_tally)

-- they are those of these boards
abbrev pub AreTallies : List Tally → List Device → Type 0
AreTallies tallies boards = (m : ℕ) (b : Device) → m < most_motes → slice_get boards m ≡ Some b
    → b.made ≡ Some (counts_by tallies m)

-- what a counter knows of the boards as they were placed: how many are used, and their tallies then; and of the end: the event
-- that found no image to start, if one ended the replay
pub record Placement : Type 0 where
  pub motes : ℕ
  pub formatted : List Tally
  pub ended : Option EventPlace

-- So many operations were made on the chips of this many motes since the boards were placed. Nothing is said of a board that is
-- stopped.
abbrev pub ChipsMade : Placement → (motes : ℕ) → (now : List Device) → (made : (mote : ℕ) → ℕ) → Type 0
ChipsMade p motes now made = (m : ℕ) (b : Device) → m < motes → slice_get now m ≡ Some b → b.stopped ≡ false
    → MadeMore (made m) (Some (counts_by p.formatted m)) b.made

-- those of these events, and no event has ended the replay
abbrev pub HaveMade : Placement → (motes : ℕ) → (now : List Device) → (events : List Played) → Type 0
HaveMade p motes now events = (p.ended ≡ None) × ChipsMade p motes now (λ m. operations_at m events)

-- those of these events, and of a step that found no image to start in this world, which ended the replay and was noted
abbrev pub HaveEnded : Placement → (motes : ℕ) → (now : List Device) → (events : List Played) → World → Step → Type 0
HaveEnded p motes now events w step = (p.ended ≡ Some (event_place step.event)) × ((v : World) × EndsRun w step v)
    × ChipsMade p motes now (λ m. operations_at m events + item_operations m (Applies step false) w)

-- ---- the end of a replay

-- the operations of the next of these items, in this world, on the chip of a mote
abbrev pub next_operations : (mote : ℕ) → (last : Option World) → (left : List Item) → ℕ
next_operations mote (Some w) (item ∷ left) = item_operations mote item w
next_operations mote last left = 0

-- the operations of the event that ended a replay on the chip of a mote, if one is noted: it is the next one of the script
abbrev pub made_at_end : {table : List Row} {script : Script} → Option EventPlace → Progress table script → (mote : ℕ) → ℕ
made_at_end None came mote = 0
made_at_end (Some place) came mote = next_operations mote came.last came.left

-- the first of these items is an event that finds no image to start in this world, and it is noted
abbrev pub IsEndThere : (last : Option World) → (left : List Item) → Option EventPlace → Type 0
IsEndThere (Some w) (Applies step reported ∷ left) ended = (ended ≡ Some (event_place step.event))
    × ((v : World) × EndsRun w step v)
IsEndThere last left ended = ⊥

-- With NoImage the event that found no image to start is noted, which is the next one of the script. After a write that failed it
-- is noted if there was one. Else none is.
abbrev pub IsEndNoted : {table : List Row} {script : Script} → Status → Progress table script → Option EventPlace → Type 0
IsEndNoted NoImage came ended = IsEndThere came.last came.left ended
IsEndNoted WriteFault came ended = (ended ≡ None) ⊎ IsEndThere came.last came.left ended
IsEndNoted ran came ended = ended ≡ None

-- Words of private contracts and proofs.
use Rattle.std.specs.Prelude.{ℕ, true, List, [], ◌∷◌, ◌++◌, replicate, slice_set}
use Rattle.std.specs.Prelude.{None}
use Rattle.dg_volume.specs.Store.{fresh, golden_row}
use Rattle.dg_script.specs.Places.{none_narrow}
use Rattle.dg_rules.specs.World.{World, first_world}
use Rattle.dg_replay.specs.Items.{Beginning}
use Rattle.dg_replay.specs.Stages.{BytesTaken}
use Rattle.std.specs.Prelude.{nat_lt, Bool, if◌then◌else◌}
use Rattle.dg_script.specs.Script.{Script}
use Rattle.dg_rules.specs.Sizes.{most_events}
use Rattle.dg_replay.specs.Ending.{Ending, events_in, by_fault, TooManyEvents}
use Rattle.std.specs.Prelude.{slice_get, length, take, Option, option_map}
use Rattle.dg_object.specs.Object.{Row}
use Rattle.dg_script.specs.Items.{items_of}
use Rattle.dg_replay.specs.Replayed.{Progress, played_text}
use Rattle.dg_nor.specs.Device.{Device}
use Rattle.std.specs.Prelude.{◌≡◌, ◌⊎◌}
use Rattle.dg_base.specs.declared.answers.Status.{Status}
use Rattle.dg_base.specs.declared.answers.Status.TheVariants.{Done, Memory}
use Rattle.dg_base.specs.declared.answers.Status.TheVariants.{NoImage}

-- the world in which this many motes begin, whose boards are formatted with golden
abbrev pub golden_world : (motes : ℕ) → (name : List ℕ) → (used : ℕ) → (content : List ℕ) → World
golden_world motes name used content =
    first_world (golden_row name content ∷ []) [] none_narrow (replicate motes (fresh name content used))

-- two motes become neighbours
abbrev pub with_link : (ℕ × ℕ) → World → World
with_link link w = record w { links = w.links ++ link ∷ [] }

-- a mote becomes narrow
abbrev pub with_narrow : ℕ → World → World
with_narrow m w = record w { narrow = slice_set w.narrow m true }

abbrev pub no_beginning : Beginning
no_beginning = record { motes = 0; world = None }

abbrev pub bytes_taken : (bytes : List ℕ) (at_end : Type 0) → BytesTaken
bytes_taken bytes at_end = record { bytes = bytes; at_end = at_end }

abbrev pub by_events : Bool → Script → Ending
by_events over script = if nat_lt most_events (events_in script.lines) then TooManyEvents else by_fault over script.fault

-- the bytes of a board, None if there is no such board
abbrev pub image_at : ℕ → List Device → Option (List ℕ)
image_at m boards = option_map (λ d. d.image) (slice_get boards m)

-- the status of a replay of a script in its limits whose boards do not stop: it is done, or memory ran out, or boards that are
-- used as they are lack an image
abbrev pub IsComplete : (uses : Type 0) → Status → Type 0
IsComplete uses status = (status ≡ Done) ⊎ ((status ≡ Memory) ⊎ ((status ≡ NoImage) × uses))

-- what is reported of this many lines, the first of those that were done
abbrev pub report_of_lines : {table : List Row} {script : Script} → ℕ → Progress table script → List ℕ
report_of_lines n c = played_text (take (length (items_of (take n c.done))) c.played)

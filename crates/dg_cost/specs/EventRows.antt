-- The rows of events in the counts of a run (docs/COMMANDS.md, "What a script costs").
use Rattle.std.specs.Prelude.{◌≡◌, ℕ, ◌+◌, ◌==◌, if◌then◌else◌, List, [], ◌∷◌, ◌++◌, codes, map, slice_index, slice_set, Bool}
use Rattle.std.specs.Prelude.{Option, Some, None}
use Rattle.std.specs.List.{range_with_len}
use Rattle.dg_volume.specs.Sizes.{images}
use Rattle.dg_rules.specs.Runs.{Played}
use Rattle.dg_events.specs.Kinds.{event_names, cause_names}
use Rattle.dg_events.specs.Told.{Happened}
use Rattle.dg_events.specs.Counts.{count_at, has_kind, is_refused, is_cut, is_start_by_power, is_start_by_order}
use Rattle.dg_events.specs.Counts.{is_cut_start_by_power, is_start_of}
use Rattle.dg_events.specs.declared.event_counts.EventCounts.{EventCounts}
use Rattle.dg_cost_text.specs.Table.{named_rows}
use Rattle.dg_count.specs.declared.place.EventPlace.{EventPlace}

-- The table has these rows, one after another.
pub record HasRows (rows table : List (List ℕ × ℕ)) : Type 0 where
  pub before : List (List ℕ × ℕ)
  pub after : List (List ℕ × ℕ)
  pub is : table ≡ before ++ (rows ++ after)

-- the keys of images
abbrev pub image_names : List (List ℕ)
image_names =
    codes "0" ∷ codes "1" ∷ codes "2" ∷ codes "3" ∷ codes "4" ∷ codes "5" ∷ codes "6" ∷ []

-- ---- rows of counts

abbrev pub rows_of_events : (kinds causes : List ℕ) (cuts : ℕ) → List (List ℕ × ℕ)
rows_of_events kinds causes cuts =
    named_rows (codes "events.") [] event_names kinds ++ named_rows (codes "refused.event.") [] cause_names causes
    ++ (codes "cuts", cuts) ∷ []

abbrev pub rows_of_starts : (power order cut : ℕ) → List (List ℕ × ℕ)
rows_of_starts power order cut =
    (codes "starts.power", power) ∷ (codes "starts.order", order) ∷ (codes "starts.cut.power", cut) ∷ []

abbrev pub rows_of_images : (images : List ℕ) → List (List ℕ × ℕ)
rows_of_images images = named_rows (codes "starts.image.") [] image_names images

-- The table of a mote has the rows of these counts.
pub record HasCounts (c : EventCounts) (table : List (List ℕ × ℕ)) : Type 0 where
  pub events : HasRows (rows_of_events c.events c.refused c.cuts) table
  pub starts : HasRows (rows_of_starts c.by_power c.by_order c.cut_by_power) table
  pub images : HasRows (rows_of_images c.of_image) table

-- ---- rows of a run

-- how many events of a mote pass each of the first tests
abbrev pub passing_counts : (mote : ℕ) → (tests : ℕ → Happened → Bool) → (kinds : ℕ) → List Played → List ℕ
passing_counts mote tests kinds played = map (λ k. count_at mote (tests k) played) (range_with_len 0 kinds)

-- the event that found no image to start, and ended the run, counts by its kind at its mote
abbrev pub and_ended : Option EventPlace → (mote : ℕ) → List ℕ → List ℕ
and_ended None mote counts = counts
and_ended (Some place) mote counts =
    if place.mote == mote then slice_set counts place.kind (slice_index counts place.kind + 1) else counts

abbrev pub event_rows : Option EventPlace → (mote : ℕ) → List Played → List (List ℕ × ℕ)
event_rows ended mote played =
    rows_of_events (and_ended ended mote (passing_counts mote has_kind 7 played)) (passing_counts mote is_refused 11 played)
    (count_at mote is_cut played)

abbrev pub start_rows : (mote : ℕ) → List Played → List (List ℕ × ℕ)
start_rows mote played =
    rows_of_starts (count_at mote is_start_by_power played) (count_at mote is_start_by_order played)
    (count_at mote is_cut_start_by_power played)

abbrev pub image_rows : (mote : ℕ) → List Played → List (List ℕ × ℕ)
image_rows mote played = rows_of_images (passing_counts mote is_start_of images played)

-- The table of a mote has the rows of the events that were played there, and of the one that ended the run, if there is one.
pub record HasEvents (ended : Option EventPlace) (mote : ℕ) (played : List Played) (table : List (List ℕ × ℕ)) : Type 0 where
  pub events : HasRows (event_rows ended mote played) table
  pub starts : HasRows (start_rows mote played) table
  pub images : HasRows (image_rows mote played) table

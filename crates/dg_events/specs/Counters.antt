-- What a counter of events has counted (the type `EventCounter`).
use Rattle.std.specs.Prelude.{◌≡◌, ℕ, ◌%◌, ◌^◌, ◌<◌, Bool, List, length, replicate, slice_get, slice_index, Some}
use Rattle.dg_volume.specs.Sizes.{images}
use Rattle.dg_rules.specs.Sizes.{most_motes}
use Rattle.dg_rules.specs.Runs.{Played}
use Rattle.dg_events.specs.Counts.{count_at, count_all, has_kind, is_refused, is_cut, is_start_by_power, is_start_by_order}
use Rattle.dg_events.specs.Counts.{is_cut_start_by_power, is_start_of}
use Rattle.dg_events.specs.Told.{Happened}
use Rattle.dg_events.specs.declared.event_counts.EventCounts.{EventCounts}
use Rattle.dg_events.specs.declared.event_counter.EventCounter.{EventCounter}

-- a number as a u64 holds it, which wraps after the greatest one
abbrev pub as_u64 : ℕ → ℕ
as_u64 n = n % 2 ^ 64

-- how many events at a mote pass a test
abbrev pub told_count : (mote : ℕ) → (Happened → Bool) → List Played → ℕ
told_count mote test played = as_u64 (count_at mote test played)

-- Each count is the number of the mote's events that pass the test of that number.
pub record AreCounts (mote : ℕ) (tests : ℕ → Happened → Bool) (played : List Played) (kinds : ℕ) (counts : List ℕ) : Type 0 where
  pub long : length counts ≡ kinds
  pub each : (k : ℕ) → k < kinds → slice_index counts k ≡ told_count mote (tests k) played

-- The counts of a mote are those of what was played.
pub record CountsAre (mote : ℕ) (played : List Played) (c : EventCounts) : Type 0 where
  pub events : AreCounts mote has_kind played 7 c.events
  pub refused : AreCounts mote is_refused played 11 c.refused
  pub cuts : c.cuts ≡ told_count mote is_cut played
  pub by_power : c.by_power ≡ told_count mote is_start_by_power played
  pub by_order : c.by_order ≡ told_count mote is_start_by_order played
  pub cut_by_power : c.cut_by_power ≡ told_count mote is_cut_start_by_power played
  pub of_image : AreCounts mote is_start_of played images c.of_image

-- nothing was counted
abbrev pub no_counts : EventCounts
no_counts = record {
  events = replicate 7 0;
  refused = replicate 11 0;
  cuts = 0;
  by_power = 0;
  by_order = 0;
  cut_by_power = 0;
  of_image = replicate images 0;
}

-- the counts of each mote are those of what was played
abbrev pub AllCounted : List EventCounts → List Played → Type 0
AllCounted motes played = (m : ℕ) (c : EventCounts) → slice_get motes m ≡ Some c → CountsAre m played c

-- The counter has counted all events, and those at each mote that a script may have.
pub record HasCounted (c : EventCounter) (played : List Played) : Type 0 where
  pub all : c.all ≡ as_u64 (count_all played)
  pub motes : length c.motes ≡ most_motes
  pub each : AllCounted c.motes played

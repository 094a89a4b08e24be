-- The rows of a counter (the types `Counter` and `Counted`).
use Rattle.std.specs.Prelude.{◌≡◌, ℕ, ◌^◌, ◌<◌, Option, Some, None, IfSome, length, slice_get, slice_index_or}
use Rattle.dg_base.specs.declared.answers.Status.{Status}
use Rattle.dg_base.specs.declared.answers.Status.TheVariants.{NoImage}
use Rattle.dg_cost_text.specs.Table.{table_of_rows}
use Rattle.dg_cost_text.specs.declared.rows.Counted.{Counted}
use Rattle.dg_cost_text.specs.declared.rows.Rows.{Rows}
use Rattle.dg_count.specs.Chips.{no_tally}
use Rattle.dg_count.specs.Ended.{counts_at, all_until, times_until}
use Rattle.dg_count.specs.declared.counter.Counter.{Counter}
use Rattle.dg_count.specs.declared.place.EventPlace.{EventPlace}
use Rattle.dg_events.specs.Uptimes.{never_on}
use Rattle.dg_cost.specs.EventRows.{HasCounts, HasRows}
use Rattle.dg_events.specs.FrameCounters.{no_frames, no_outside}
use Rattle.dg_cost.specs.FrameRows.{HasFrameCounts}
use Rattle.dg_cost.specs.FlashRows.{flash_run_rows}
use Rattle.dg_cost.specs.MomentRows.{HasWholeRows, TellsAll}
use Rattle.dg_cost.specs.TimeRows.{rows_of_power, rows_of_moment}

-- the event that found no image to start counts only where a run ended with that status
abbrev pub ended_of : Counter → Status → Option EventPlace
ended_of c NoImage = c.ended
ended_of c status = None

-- A table for each mote whose board is used, with the rows of what the counter counted there. The run ended with this event, if
-- there is one.
pub record IsCountWith (c : Counter) (ended : Option EventPlace) (counted : Counted) : Type 0 where
  pub motes : length counted.motes.items ≡ c.placed
  pub fits : IfSome ended (λ place. place.dt < 2 ^ 32)
  pub last : HasRows (rows_of_moment (all_until ended c.events.all) (times_until ended c.times).ms) (table_of_rows counted.all)
  pub power : (m : ℕ) (rows : Rows) → slice_get counted.motes.items m ≡ Some rows
      → HasRows (rows_of_power (slice_index_or (times_until ended c.times).motes m never_on) (times_until ended c.times).ms)
      (table_of_rows rows)
  pub each : (m : ℕ) (rows : Rows) → slice_get counted.motes.items m ≡ Some rows
      → HasCounts (counts_at ended c.events m) (table_of_rows rows)
  pub frames : (m : ℕ) (rows : Rows) → slice_get counted.motes.items m ≡ Some rows
      → HasFrameCounts (slice_index_or c.frames.motes m no_frames) (slice_index_or c.frames.outside m no_outside)
      (table_of_rows rows)
  pub flash : (m : ℕ) (rows : Rows) → slice_get counted.motes.items m ≡ Some rows
      → HasRows (flash_run_rows (slice_index_or c.formatted m no_tally) (slice_index_or c.settled m no_tally))
      (table_of_rows rows)
  pub wholes : (m : ℕ) (rows : Rows) → slice_get counted.motes.items m ≡ Some rows
      → HasWholeRows m c.wholes.moments (table_of_rows rows)
  pub all_kept : TellsAll c (table_of_rows counted.all)

-- the same in a run that ended with this status
abbrev pub IsCountOf : Counter → (ran : Status) → Counted → Type 0
IsCountOf c ran counted = IsCountWith c (ended_of c ran) counted

use Rattle.std.proofs.Common.{◌≡◌, ℕ, length, Some}
use Rattle.std.specs.Prelude.{slice_get, slice_index_or}
use Rattle.dg_events.specs.Uptimes.{never_on}
use Rattle.dg_cost_text.specs.Table.{table_of_rows}
use Rattle.dg_cost_text.specs.declared.rows.Rows.{Rows}
use Rattle.dg_count.specs.Ended.{counts_at}
use Rattle.dg_cost.specs.EventRows.{HasCounts, HasRows}
use Rattle.dg_cost.specs.TimeRows.{rows_of_power}
use Rattle.dg_events.specs.FrameCounters.{no_frames, no_outside}
use Rattle.dg_cost.specs.FrameRows.{HasFrameCounts}
use Rattle.dg_count.specs.Chips.{no_tally}
use Rattle.dg_cost.specs.FlashRows.{flash_run_rows}
use Rattle.dg_cost.specs.MomentRows.{HasMoments}
use Rattle.dg_cost.proofs.mote_rows.rows_of_motes.Given as goal

-- the motes so far have their rows
abbrev pub invariant-loop-mote : goal.invariant-loop-mote
invariant-loop-mote l = (length l.motes.items ≡ l.mote)
    × ((m : ℕ) (rows : Rows) → slice_get l.motes.items m ≡ Some rows → HasCounts (counts_at l.ended l.counter.events m) (table_of_rows rows))
    × ((m : ℕ) (rows : Rows) → slice_get l.motes.items m ≡ Some rows
    → HasRows (rows_of_power (slice_index_or l.times.motes m never_on) l.times.ms) (table_of_rows rows))
    × ((m : ℕ) (rows : Rows) → slice_get l.motes.items m ≡ Some rows
    → HasFrameCounts (slice_index_or l.counter.frames.motes m no_frames) (slice_index_or l.counter.frames.outside m no_outside) (table_of_rows rows))
    × ((m : ℕ) (rows : Rows) → slice_get l.motes.items m ≡ Some rows
    → HasRows (flash_run_rows (slice_index_or l.counter.formatted m no_tally) (slice_index_or l.counter.settled m no_tally)) (table_of_rows rows))
    × ((m : ℕ) (rows : Rows) → slice_get l.motes.items m ≡ Some rows → HasMoments m l.counter.wholes.moments rows)

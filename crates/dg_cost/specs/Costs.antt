-- All that is promised of a replay that writes what it costs (docs/COMMANDS.md, "What a script costs").
use Rattle.std.specs.Prelude.{◌≡◌, ◌≢◌, false, ◌⊎◌, ℕ, ◌+◌, map, List, [], Some, Option, length, slice_get}
use Rattle.std.specs.List.{range_with_len}
use Rattle.dg_words.specs.Counts.{Rose}
use Rattle.dg_base.specs.Outside.{Puts, PutsPrefix}
use Rattle.dg_base.specs.declared.answers.Status.{Status}
use Rattle.dg_base.specs.declared.answers.Status.TheVariants.{Memory, WriteFault}
use Rattle.dg_nor.specs.Device.{Device}
use Rattle.dg_object.specs.Object.{Row}
use Rattle.dg_rules.specs.Runs.{Played}
use Rattle.dg_script.specs.Script.{Script}
use Rattle.dg_volume.specs.Store.{Store}
use Rattle.dg_outside.specs.Outside.{Outside}
use Rattle.dg_world.specs.Applied.{SameBoards}
use Rattle.dg_replay.specs.Done.{ReplayDone}
use Rattle.dg_replay.specs.Items.{beginning_of}
use Rattle.dg_replay.specs.Shown.{stores_in, events_played}
use Rattle.dg_replay.specs.Replayed.{Progress, Replayed}
use Rattle.dg_cost_text.specs.Csv.{csv}
use Rattle.dg_cost_text.specs.Table.{table_of_rows}
use Rattle.dg_cost_text.specs.declared.moment.Moment.{Moment}
use Rattle.dg_cost_text.specs.Timed.{IsStampedReport}
use Rattle.dg_cost_text.specs.declared.rows.Counted.{Counted}
use Rattle.dg_cost_text.specs.declared.rows.Rows.{Rows}
use Rattle.dg_moments.specs.Moments.{loaded_images, newest_at}
use Rattle.dg_moments.specs.Wholes.{HasWholes}
use Rattle.dg_moments.specs.declared.wholes.Wholes.{Wholes}
use Rattle.dg_events.specs.Made.{operations_at}
use Rattle.dg_count.specs.Chips.{IsEndNoted, made_at_end}
use Rattle.dg_count.specs.declared.place.EventPlace.{EventPlace}
use Rattle.dg_cost.specs.EventRows.{HasRows, HasEvents}
use Rattle.dg_cost.specs.TimeRows.{time_rows, moment_rows}
use Rattle.dg_cost.specs.FrameRows.{HasFrameRows}
use Rattle.dg_cost.specs.FlashRows.{HasFlashRows}
use Rattle.dg_cost.specs.MomentRows.{HasWholeRows, HasAllRows}
use Rattle.dg_cost.specs.declared.call.Form.{Form}
use Rattle.dg_cost.specs.declared.call.Form.TheVariants.{Table, Csv, Json, Timed}

-- The rows of moments are exactly those of these events, of each mote and of all, where the chips began with these stores.
pub record HasMomentRows (stores : List Store) (events : List Played) (counted : Counted) : Type 0 where
  pub wholes : Wholes
  pub kept : wholes.lost ≡ false
  pub noted : HasWholes wholes stores events
  pub motes : (m : ℕ) (rows : Rows) → slice_get counted.motes.items m ≡ Some rows
      → HasWholeRows m wholes.moments (table_of_rows rows)
  pub newest : List (Option Moment)
  pub newest_are : newest ≡ map (λ (i : ℕ). newest_at stores events (i + 1)) (range_with_len 0 loaded_images)
  pub all : HasAllRows wholes.all newest (table_of_rows counted.all)

-- The counts of a replay that ended with this status: a table for each mote whose board was used, with the rows of the events
-- that were played there. Where the replay ended since an event found no image to start, that event counts too. The replay left
-- these boards.
pub record CountsRun {table : List Row} {script : Script} (ran : Status) (came : Progress table script) (boards : List Device)
    (counted : Counted) : Type 0 where
  pub motes : length counted.motes.items ≡ length (stores_in (beginning_of came.ground came.done).world)
  pub ended : Option EventPlace
  pub is_end : IsEndNoted ran came ended
  pub last : HasRows (moment_rows ended came.played) (table_of_rows counted.all)
  pub times : (m : ℕ) (rows : Rows) → slice_get counted.motes.items m ≡ Some rows
      → HasRows (time_rows ended m (events_played came.played)) (table_of_rows rows)
  pub each : (m : ℕ) (rows : Rows) → slice_get counted.motes.items m ≡ Some rows
      → HasEvents ended m came.played (table_of_rows rows)
  pub frames : (m : ℕ) (rows : Rows) → slice_get counted.motes.items m ≡ Some rows
      → HasFrameRows m (events_played came.played) (table_of_rows rows)
  -- the operations of the trails of what was played, and those of the event that ended the run, if it found no image to start:
  -- nothing is said of a mote whose board is stopped
  pub flash : (m : ℕ) (board : Device) (rows : Rows) → slice_get counted.motes.items m ≡ Some rows
      → slice_get boards m ≡ Some board → board.stopped ≡ false
      → HasFlashRows (operations_at m (events_played came.played) + made_at_end ended came m) board.made (table_of_rows rows)
  pub moments : HasMomentRows (stores_in (beginning_of came.ground came.done).world) (events_played came.played) counted

-- whichever table the boards are checked against, these are the counts of that replay
abbrev pub CountsReplay : (ran : Status) → (a b : Outside) → Counted → Type 0
CountsReplay ran a b counted = (table : List Row) → (x : Replayed table ran a b) × CountsRun ran x.came b.boards counted

-- the text that is written in this form, after a replay that wrote this report, with counts of that replay
abbrev pub IsText : Form → (counts : Counted → Type 0) → (report text : List ℕ) → Type 0
IsText (Table model) counts report text = Unit {0}
IsText Csv counts report text = (counted : Counted) × (text ≡ csv counted) × counts counted
IsText (Json model) counts report text = Unit {0}
IsText Timed counts report text = IsStampedReport report text

-- The text was written, and the status is that of the replay; or a prefix of it, since a write failed.
abbrev pub CostWrote : (ran status : Status) → (text : List ℕ) → (a b : Outside) → Type 0
CostWrote ran status text a b = ((status ≡ ran) × Puts a.output.written b.output.written text)
    ⊎ ((status ≡ WriteFault) × PutsPrefix a.output.written b.output.written text
    × Rose a.output.writes b.output.writes)

-- what stands around a replay over these boards whose report is kept: the bytes of the report, and how many writes of it failed
abbrev pub with_report : (report : List ℕ) → (faults : ℕ) → (boards : List Device) → Outside → Outside
with_report report faults devices a =
    record a { output = record { written = Some report; writes = faults }; boards = devices }

-- A script was replayed as `replay` does it, into a report that was kept, and its cost was written.
pub record Rehearsed (asked : Form) (status : Status) (a b : Outside) : Type 0 where
  pub ran : Status
  pub report : List ℕ
  pub faults : ℕ
  pub before : List Device
  pub after : List Device
  -- the boards were only read before the run, and after it
  pub read_first : SameBoards a.boards before
  pub read_last : SameBoards after b.boards
  pub replayed : ReplayDone ran (with_report [] 0 before a) (with_report report faults after b)
  -- all of it was kept
  pub kept : ran ≢ WriteFault
  pub text : List ℕ
  pub is_text : IsText asked
      (CountsReplay ran (with_report [] 0 before a) (with_report report faults after b)) report text
  pub wrote : CostWrote ran status text a b

-- the cost is written, unless memory runs out
abbrev pub CostDone : Form → Status → (a b : Outside) → Type 0
CostDone asked status a b = (status ≡ Memory) ⊎ Rehearsed asked status a b

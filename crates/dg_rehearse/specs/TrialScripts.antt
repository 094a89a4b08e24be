-- The script of a trial: its lines, and that it runs as the trial does (docs/COMMANDS.md, "Trial").
use Rattle.std.specs.Prelude.{◌≡◌, ◌⊎◌, ℕ, ◌≤◌, Option, Some, Result, Ok, Err, Vec, List, [], ◌∷◌, ◌++◌, map, length, codes}
use Rattle.std.specs.List.{flat_map}
use Rattle.dg_base.specs.declared.events.Event.{Event}
use Rattle.dg_base.specs.declared.events.Event.TheVariants.{Inject}
use Rattle.dg_base.specs.declared.events.Step.{Step}
use Rattle.dg_end.specs.declared.ends.End.{End}
use Rattle.dg_end.specs.declared.ends.End.TheVariants as ends
use Rattle.dg_nor.specs.Device.{Device}
use Rattle.dg_object.specs.Object.{Row}
use Rattle.dg_script.specs.Fitting.{FitsLine}
use Rattle.dg_script.specs.Items.{Item, Declares, Applies, items_of}
use Rattle.dg_script.specs.Sizes.{most_motes}
use Rattle.dg_script.specs.Spelling.{IsShort}
use Rattle.dg_script.specs.declared.line.Line.{Line}
use Rattle.dg_script.specs.declared.line.Line.TheVariants.{Motes, Golden, Link, Image, Happens as EventLine, Sweeps}
use Rattle.dg_rules.specs.Runs.{Played}
use Rattle.dg_rules.specs.World.{World}
use Rattle.dg_world.specs.Boards.{WorldStands}
use Rattle.dg_replay.specs.Items.{beginning_of, no_start_state}
use Rattle.dg_replay.specs.Replayed.{item_played, RunsTo}
use Rattle.dg_trial.specs.Schedule.{always, line_links, resets, row_of_seed, opening, shaking, rest_events, schedule, sweep_count}
use Rattle.dg_trial.specs.Playing.{LeadsTo, LeadsBy, StopsInPart}
use Rattle.dg_trial.specs.Trials.{trial_start, StopsFormatting, Front, TrialLacksBoards, Unplayed}
use Rattle.dg_rehearse.specs.Rehearsed.{SpellsScript, step_lines}
use Rattle.dg_rehearse.specs.declared.stop.Stop.{Stop}
use Rattle.dg_rehearse.specs.declared.stop.Stop.TheVariants as stops

-- ---- the lines

abbrev pub link_lines : List (ℕ × ℕ) → List Line
link_lines links = map (λ l. Link l.0 l.1) links

-- each event on a line of its own
abbrev pub event_lines : List Event → List Line
event_lines events = map EventLine events

-- the lines before the first event
abbrev pub head_of_trial : (motes : ℕ) → (links : List (ℕ × ℕ)) → (content : List ℕ) → List Line
head_of_trial motes links content =
    Motes motes ∷ Golden (codes "base") 0 (codes "A") ∷ link_lines links ++ Image 1 1 (codes "trial") content ∷ []

-- All lines. Each mote is started, the image is injected into the first, and the disturbances follow. Then each mote is started
-- again, and the sweeps are one line.
abbrev pub lines_of_trial : (motes : ℕ) → (links : List (ℕ × ℕ)) → (content : List ℕ) → (disturbed : List Step) → (sweeps : ℕ)
    → List Line
lines_of_trial motes links content disturbed sweeps =
    head_of_trial motes links content ++ (event_lines (resets motes ++ Inject 0 1 1 0 0 ∷ [])
    ++ (flat_map step_lines disturbed ++ (event_lines (resets motes) ++ Sweeps sweeps ∷ [])))

-- the lines of the trial of a seed, whose disturbances are these steps
abbrev pub trial_lines : (motes pages seed : ℕ) → List Step → List Line
trial_lines motes pages seed disturbed =
    lines_of_trial motes (line_links motes) (row_of_seed pages seed).bytes disturbed (sweep_count motes pages)

-- a line whose numbers and texts may be written
pub record CanBeWritten (line : Line) : Type 0 where
  pub fits : FitsLine most_motes line
  pub short : IsShort line

-- ---- what a script runs

abbrev pub step_of_item : Item → List Step
step_of_item (Declares row) = []
step_of_item (Applies step reported) = step ∷ []

-- the steps that the lines of a script apply, in their order
abbrev pub steps_of_lines : List Line → List Step
steps_of_lines ls = flat_map step_of_item (items_of ls)

-- The lines of a script may lead to world v: a run of the rules over their items, from the world in which they begin.
abbrev pub LinesLead : List Line → World → Type 0
LinesLead ls v = (played : List Played) × (map item_played played ≡ items_of ls)
    × RunsTo (beginning_of no_start_state ls).world played (Some v)

-- The trial of a seed leads to world v by the steps of these lines, and so do the lines.
pub record RunsAsTrial (motes pages seed : ℕ) (ls : List Line) (v : World) : Type 0 where
  pub trial : LeadsBy (trial_start motes pages seed) (schedule motes pages seed) (steps_of_lines ls) v
  pub script : LinesLead ls v

-- ---- what is promised

-- A trial was written: its disturbances were played, the boards stand for the world after them, and the bytes are a script of the
-- trial's lines. Wherever the rest of the schedule leads from there, the trial leads by the steps of the script, and the script
-- leads.
pub record TrialWritten (motes pages seed : ℕ) (old new : List Device) (script : List ℕ) : Type 0 where
  pub disturbed : List Step
  pub opened : World
  pub last : World
  pub opens : LeadsTo (trial_start motes pages seed) (opening motes) opened
  pub shakes : LeadsBy opened (shaking motes seed) disturbed last
  pub boards : WorldStands last old new
  pub spells : SpellsScript script (trial_lines motes pages seed disturbed)
  pub runs : (v : World) → LeadsTo last (map always (rest_events motes pages)) v
      → RunsAsTrial motes pages seed (trial_lines motes pages seed disturbed) v

-- How writing a trial ends: each answer has its cause.
abbrev pub TrialWriteEnds : {Z : Type 0} → Result (Vec ℕ Z) Stop → (motes pages seed : ℕ) → (old new : List Device) → Type 0
TrialWriteEnds (Ok script) motes pages seed old new = TrialWritten motes pages seed old new script.items
TrialWriteEnds (Err stops.Memory) motes pages seed old new = Unplayed motes pages seed old new
TrialWriteEnds (Err stops.Flash) motes pages seed old new =
    (motes ≤ length old) × (StopsFormatting motes old new ⊎ Front motes pages seed (λ w left. StopsInPart w left old new))
TrialWriteEnds (Err stops.NoBoard) motes pages seed old new = TrialLacksBoards motes old new
TrialWriteEnds (Err stops.NoMote) motes pages seed old new = ⊥
TrialWriteEnds (Err stops.Size) motes pages seed old new = ⊥

-- why a trial is not written that could not be recorded
abbrev pub stop_by : End → Stop
stop_by ends.FlashFault = stops.Flash
stop_by (ends.NoBoard need have) = stops.NoBoard
stop_by end = stops.Memory

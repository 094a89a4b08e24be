-- What a trial did, and what it reports (docs/COMMANDS.md, "Trial").
use Rattle.std.specs.Prelude.{◌≡◌, ◌⊎◌, ℕ, ◌<◌, ◌≤◌, nat_le, false, List, [], ◌∷◌, ◌++◌, length, codes, slice_get, count_by}
use Rattle.std.specs.Prelude.{replicate, Option, Some, Result, Ok, Err}
use Rattle.std.specs.List.{AllByRecursion}
use Rattle.std.specs.Fmt.{decimal}
use Rattle.dg_base.specs.Outside.{Puts}
use Rattle.dg_base.specs.declared.answers.Status.{Status}
use Rattle.dg_nor.specs.Device.{Device}
use Rattle.dg_end.specs.Lines.{Outcome}
use Rattle.dg_end.specs.Writes.{CommandEnds}
use Rattle.dg_end.specs.declared.ends.End.{End}
use Rattle.dg_end.specs.declared.ends.End.TheVariants as ends
use Rattle.dg_object.specs.Object.{Row, row_of}
use Rattle.dg_volume.specs.Store.{held, held_whole}
use Rattle.dg_volume.specs.Stands.{Stands}
use Rattle.dg_object.specs.Sizes.{most_pages}
use Rattle.dg_rules.specs.Sizes.{most_motes}
use Rattle.dg_script.specs.Places.{none_narrow}
use Rattle.dg_rules.specs.World.{World, Site, first_world, store_at}
use Rattle.dg_completion.specs.Completion.{page_count, pages_kept}
use Rattle.dg_world.specs.Counts.{AreSteady}
use Rattle.dg_world.specs.Formatted.{FirstBoards, FormatStops}
use Rattle.dg_outside.specs.Outside.{Outside}
use Rattle.dg_trial.specs.Schedule.{SchedulePart, line_links, row_of_seed, opening, shaking, schedule, sweep_count}
use Rattle.dg_trial.specs.Schedule.{event_count}
use Rattle.dg_trial.specs.declared.recording.TrialRecord.{TrialRecord}
use Rattle.dg_world.specs.Boards.{WorldStands, BoardStopped}
use Rattle.dg_trial.specs.Playing.{LeadsTo, LeadsBy, golden, chip, PartsBegun, StopsInPart, FitsStep}

-- ---- runs

-- the world in which the trial of a seed begins
abbrev pub trial_start : (motes pages seed : ℕ) → World
trial_start motes pages seed =
    let w = first_world (golden ∷ []) (line_links motes) none_narrow (replicate motes chip) in
    record w { declared = row_of_seed pages seed ∷ [] }

-- a whole trial leads to world v
abbrev pub TrialRun : (motes pages seed : ℕ) → World → Type 0
TrialRun motes pages seed v = LeadsTo (trial_start motes pages seed) (schedule motes pages seed) v

-- how many motes keep all pages of a row
abbrev pub wholes : Row → World → ℕ
wholes row w = count_by (λ (x : Site). nat_le (page_count row) (pages_kept x.store row)) w.sites

-- every mote keeps a row whole, page by page
abbrev pub AllKeep : ℕ → Row → World → Type 0
AllKeep motes row w = (m : ℕ) → m < motes → held (store_at w m) row.image ≡ Some (held_whole row)

-- In the world after a trial every mote keeps the image whole, and this many are counted.
abbrev pub WholeLaw : Type 0
WholeLaw = (motes pages seed : ℕ) (v : World) → 2 ≤ motes → motes ≤ most_motes → 2 ≤ pages → pages ≤ most_pages
    → TrialRun motes pages seed v
    → AllKeep motes (row_of_seed pages seed) v × (wholes (row_of_seed pages seed) v ≡ motes)

-- ---- what is reported

abbrev pub summary_line : (motes pages sweeps events whole : ℕ) → List ℕ
summary_line motes pages sweeps events whole =
    codes "trial motes " ++ decimal motes ++ codes " pages " ++ decimal pages ++ codes " sweeps " ++ decimal sweeps
    ++ codes " events " ++ decimal events ++ codes " whole " ++ decimal whole ++ 10 ∷ []

-- of a trial that leads to world v
abbrev pub trial_text : (motes pages seed : ℕ) → World → List ℕ
trial_text motes pages seed v = summary_line motes pages (sweep_count motes pages) v.events (wholes (row_of_seed pages seed) v)

-- ---- what is done

-- The boards of the motes were formatted, and none of them was stopped on entry. All others are as before, and no board stopped.
pub record Formatted (motes : ℕ) (old new : List Device) : Type 0 where
  pub stands : (m : ℕ) (d : Device) → m < motes → slice_get new m ≡ Some d → Stands d.image chip
  pub awake : (m : ℕ) (d : Device) → m < motes → slice_get old m ≡ Some d → d.stopped ≡ false
  pub calm : AreSteady old new
  pub boards : FirstBoards motes old new

-- formatting stopped at a board
abbrev pub StopsFormatting : (motes : ℕ) → (old new : List Device) → Type 0
StopsFormatting motes old new = (board : ℕ) × FormatStops board motes chip old new

-- a prefix of the schedule was played, and P holds of the world after it and of the parts that are left
abbrev pub Front : (motes pages seed : ℕ) → (World → List SchedulePart → Type 0) → Type 0
Front motes pages seed P = PartsBegun (trial_start motes pages seed) (schedule motes pages seed) P

-- The boards' stores are those at the end of a run of the schedule. No board of another mote was used, and no count rose.
pub record TrialPlayed (motes pages seed : ℕ) (old new : List Device) : Type 0 where
  pub last : World
  pub run : TrialRun motes pages seed last
  pub count : length last.sites ≡ motes
  pub boards : WorldStands last old new

-- a board stopped as the boards were read at the end
pub record StopsReading (motes pages seed : ℕ) (old new : List Device) : Type 0 where
  pub last : World
  pub run : TrialRun motes pages seed last
  pub stopped : BoardStopped motes old new
  pub stands : (m : ℕ) (d : Device) → m < motes → slice_get new m ≡ Some d → Stands d.image (store_at last m)
  pub others : (m : ℕ) → motes ≤ m → slice_get new m ≡ slice_get old m

-- what an unfinished trial leaves: a prefix of its schedule was played, or the boards are unchanged
abbrev pub Unplayed : (motes pages seed : ℕ) → (old new : List Device) → Type 0
Unplayed motes pages seed old new = (new ≡ old) ⊎ Front motes pages seed (λ w left. WorldStands w old new)

-- a board stopped: in formatting, in a step, or in the reading at the end
abbrev pub TrialBoardStops : (motes pages seed : ℕ) → (old new : List Device) → Type 0
TrialBoardStops motes pages seed old new =
    ((board : ℕ) × FormatStops board motes chip old new) ⊎ (Front motes pages seed (λ w left. StopsInPart w left old new)
    ⊎ StopsReading motes pages seed old new)

-- ---- how a trial ends

-- there are fewer boards than motes, and none was used
pub record TrialLacksBoards (motes : ℕ) (old new : List Device) : Type 0 where
  pub missing : length old < motes
  pub same : new ≡ old

-- The trial was played to its end, every mote keeps the image whole, and this is its line.
pub record TrialComplete (text : List ℕ) (motes pages seed : ℕ) (old new : List Device) : Type 0 where
  pub boards : motes ≤ length old
  pub played : TrialPlayed motes pages seed old new
  pub kept : AllKeep motes (row_of_seed pages seed) played.last
  pub whole : wholes (row_of_seed pages seed) played.last ≡ motes
  pub line : text ≡ trial_text motes pages seed played.last

-- the line of a trial in which every mote keeps the image whole. Its numbers follow from the motes and the pages
abbrev pub TellsWhole : (motes pages : ℕ) → (before after : Option (List ℕ)) → Type 0
TellsWhole motes pages before after =
    Puts before after (summary_line motes pages (sweep_count motes pages) (event_count motes pages) motes)

-- how a trial ends: with its line, or without one
abbrev pub TrialEnds : Outcome → (motes pages seed : ℕ) → (old new : List Device) → Type 0
TrialEnds (Ok text) motes pages seed old new = TrialComplete text motes pages seed old new
TrialEnds (Err ends.Memory) motes pages seed old new = Unplayed motes pages seed old new
TrialEnds (Err ends.FlashFault) motes pages seed old new = (motes ≤ length old) × TrialBoardStops motes pages seed old new
TrialEnds (Err (ends.NoBoard need have)) motes pages seed old new =
    (length old < motes) × (new ≡ old) × (need ≡ motes) × (have ≡ length old)
TrialEnds (Err end) motes pages seed old new = ⊥

-- The schedule that the seed makes is played over the boards, and nothing is read.
abbrev pub TrialDone : (motes pages seed : ℕ) → Status → Outside → Outside → Type 0
TrialDone motes pages seed status a b =
    CommandEnds status (λ outcome. TrialEnds outcome motes pages seed a.boards b.boards × (b.input ≡ a.input)) a b

-- ---- a trial that is recorded

-- A trial was played up to its last disturbance, and recorded: its links, its image, the disturbances as the steps that were
-- played, and the number of its sweeps. The boards stand for the world after them.
pub record TrialRecorded (motes pages seed : ℕ) (r : TrialRecord) (old new : List Device) : Type 0 where
  pub links : r.links.items ≡ line_links motes
  pub image : row_of 1 1 (codes "trial") r.content ≡ row_of_seed pages seed
  pub sweeps : r.sweeps ≡ sweep_count motes pages
  pub fits : AllByRecursion (FitsStep motes) r.disturbances.items
  pub opened : World
  pub last : World
  pub opens : LeadsTo (trial_start motes pages seed) (opening motes) opened
  pub shakes : LeadsBy opened (shaking motes seed) r.disturbances.items last
  pub boards : WorldStands last old new

-- How recording a trial ends: each answer has its cause.
abbrev pub RecordEnds : Result TrialRecord End → (motes pages seed : ℕ) → (old new : List Device) → Type 0
RecordEnds (Ok r) motes pages seed old new = TrialRecorded motes pages seed r old new
RecordEnds (Err ends.Memory) motes pages seed old new = Unplayed motes pages seed old new
RecordEnds (Err ends.FlashFault) motes pages seed old new =
    (motes ≤ length old) × (StopsFormatting motes old new ⊎ Front motes pages seed (λ w left. StopsInPart w left old new))
RecordEnds (Err (ends.NoBoard need have)) motes pages seed old new =
    TrialLacksBoards motes old new × (need ≡ motes) × (have ≡ length old)
RecordEnds (Err end) motes pages seed old new = ⊥

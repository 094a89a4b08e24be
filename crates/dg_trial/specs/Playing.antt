-- Playing a schedule: runs of its parts, and the boards meanwhile (docs/COMMANDS.md, "Trial").
use Rattle.std.specs.Prelude.{◌≡◌, ◌≢◌, ℕ, ◌+◌, ◌-◌, ◌<◌, ◌≤◌, List, [], ◌∷◌, ◌++◌, length, replicate}
use Rattle.std.specs.Prelude.{slice_get, codes, Some, IfSome, Result, Ok, Err}
use Rattle.std.specs.List.{AllByRecursion}
use Rattle.dg_nor.specs.Device.{Device}
use Rattle.dg_nor.specs.Trail.{operations, MayLeave}
use Rattle.dg_object.specs.Object.{Row}
use Rattle.dg_volume.specs.Store.{Store, IsNear, golden_row, fresh}
use Rattle.dg_volume.specs.Stands.{Stands}
use Rattle.dg_base.specs.declared.events.Step.{Step}
use Rattle.dg_script.specs.Places.{none_narrow}
use Rattle.dg_script.specs.declared.report.Report.{Report}
use Rattle.dg_rules.specs.Sizes.{most_events}
use Rattle.dg_rules.specs.World.{World, store_at, first_world}
use Rattle.dg_rules.specs.Events.{does, mote_of, trail_of}
use Rattle.dg_rules.specs.Steps.{WorldStep}
use Rattle.dg_script.specs.Fitting.{FitsCut, FitsEvent}
use Rattle.dg_script.specs.Ranges.{StepInRange}
use Rattle.dg_rules.specs.Golden.{WorldKeepsGolden}
use Rattle.dg_world.specs.Boards.{WorldStands, BoardStopped}
use Rattle.dg_world.specs.Worlds.{IsWorld}
use Rattle.dg_world.specs.declared.world.World.{World as KeptWorld}
use Rattle.dg_trial.specs.Schedule.{SchedulePart, line_links, opening}
use Rattle.dg_end.specs.declared.ends.End.{End}
use Rattle.dg_end.specs.declared.ends.End.TheVariants as ends

-- ---- runs

-- from world w, this many parts may lead to world v
unfoldable pub LeadsTo : World → List SchedulePart → World → Type 0
LeadsTo w [] v = w ≡ v
LeadsTo w (p ∷ ps) v = (u : World) × (reports : List Report) × WorldStep w (p (length w.sent)) u reports × LeadsTo u ps v

-- So they may, part by part as these steps: each step is its part, after the frames that were sent before it.
unfoldable pub LeadsBy : World → List SchedulePart → List Step → World → Type 0
LeadsBy w [] [] v = w ≡ v
LeadsBy w (p ∷ ps) (x ∷ xs) v =
    (p (length w.sent) ≡ x) × (u : World) × (reports : List Report) × WorldStep w x u reports × LeadsBy u ps xs v
LeadsBy w ps xs v = ⊥

-- golden of a trial, and the chip that was formatted with it
abbrev pub golden : Row
golden = golden_row (codes "base") (codes "A")

abbrev pub chip : Store
chip = fresh (codes "base") (codes "A") 0

-- the world in which a trial begins: wide motes in a line, whose chips were formatted with golden, and an image that is declared
abbrev pub first : (motes : ℕ) → Row → World
first motes row = record (first_world (golden ∷ []) (line_links motes) none_narrow (replicate motes chip)) { declared = row ∷ [] }

-- ---- the boards

-- A board stopped in a step, after this many operations and before any cut. It stands for a store that the event's trail leaves
-- there. All other boards are as they were before the step.
pub record StopsInStep (w : World) (x : Step) (old new : List Device) : Type 0 where
  pub stopped : BoardStopped (length w.sites) old new
  pub at : stopped.board ≡ mote_of x.event
  pub made : ℕ
  pub within : made ≤ operations (trail_of (does w x.event) (store_at w (mote_of x.event)))
  pub uncut : IfSome x.cut (λ cut. made ≤ cut.after - 1)
  pub leaves : MayLeave Stands IsNear (trail_of (does w x.event) (store_at w (mote_of x.event))) made stopped.after.image
  pub stands : (m : ℕ) (d : Device) → m < length w.sites → m ≢ stopped.board → slice_get new m ≡ Some d
      → Stands d.image (store_at w m)
  pub others : (m : ℕ) → length w.sites ≤ m → slice_get new m ≡ slice_get old m

-- ---- the results of playing

-- Parts were played, and the boards, which were `initial` when the trial began, stand for the world after them.
pub record PartsPlayed (w : World) (parts : List SchedulePart) (kept : KeptWorld) (initial now : List Device) : Type 0 where
  pub world : World
  pub run : LeadsTo w parts world
  pub kept_now : IsWorld kept now world
  pub boards : WorldStands world initial now

-- The first of these parts were played, and P holds of the world after them and of the parts that are left.
pub record PartsBegun (w : World) (parts : List SchedulePart) (P : World → (left : List SchedulePart) → Type 0) : Type 0 where
  pub begun : List SchedulePart
  pub left : List SchedulePart
  pub split : parts ≡ begun ++ left
  pub world : World
  pub run : LeadsTo w begun world
  pub there : P world left

-- a board stopped in the first of the parts that are left
pub record StopsInPart (w : World) (left : List SchedulePart) (initial now : List Device) : Type 0 where
  pub part : SchedulePart
  pub more : List SchedulePart
  pub next : left ≡ part ∷ more
  pub stops : StopsInStep w (part (length w.sent)) initial now

abbrev pub PartsPlayedAs : Result (Unit {0}) End → World → List SchedulePart → KeptWorld → (initial now : List Device) → Type 0
PartsPlayedAs (Ok u) w parts kept initial now = PartsPlayed w parts kept initial now
PartsPlayedAs (Err ends.Memory) w parts kept initial now = PartsBegun w parts (λ v left. WorldStands v initial now)
PartsPlayedAs (Err ends.FlashFault) w parts kept initial now = PartsBegun w parts (λ v left. StopsInPart v left initial now)
PartsPlayedAs (Err end) w parts kept initial now = ⊥

-- playing parts has this result, from a kept world and boards to these, whatever world they stood for
abbrev pub PartsPlay : Result (Unit {0}) End → List SchedulePart → (first kept : KeptWorld) → (old now : List Device) → Type 0
PartsPlay result parts first kept old now = (w : World) (initial : List Device) → IsWorld first old w
    → WorldStands w initial old → PartsPlayedAs result w parts kept initial now

-- ---- what may be played

-- the numbers of a part are in their ranges, for this many motes
abbrev pub PartFits : ℕ → SchedulePart → Type 0
PartFits motes p = (sent : ℕ) → StepInRange motes (p sent)

-- These parts may be played from world w, which has this many motes: golden is found, and the events are few enough.
pub record MayPlayParts (motes : ℕ) (w : World) (parts : List SchedulePart) : Type 0 where
  pub keeps : WorldKeepsGolden w
  pub count : length w.sites ≡ motes
  pub few : w.events + length parts ≤ most_events
  pub sent : length w.sent ≤ w.events
  pub fits : AllByRecursion (PartFits motes) parts

-- The same for the world that is kept, over boards that stand for it.
pub record MayPlayOver (motes : ℕ) (kept : KeptWorld) (boards : List Device) (parts : List SchedulePart) : Type 0 where
  pub world : World
  pub initial : List Device
  pub is : IsWorld kept boards world
  pub stands : WorldStands world initial boards
  pub may : MayPlayParts motes world parts

-- After parts that were played, those that follow may be played.
abbrev pub PartsGoOnLaw : Type 0
PartsGoOnLaw = (motes : ℕ) (w v : World) (xs ys : List SchedulePart) → MayPlayParts motes w (xs ++ ys) → LeadsTo w xs v
    → MayPlayParts motes v ys

-- ---- steps that are recorded

-- the numbers of a step are those that lines may have, for this many motes
pub record FitsStep (motes : ℕ) (x : Step) : Type 0 where
  pub event : FitsEvent motes x.event
  pub cut : IfSome x.cut FitsCut

-- Parts were played as these steps, and the boards, which were `initial` when the trial began, stand for the world then.
pub record PartsPlayedBy (w : World) (parts : List SchedulePart) (steps : List Step) (kept : KeptWorld)
    (initial now : List Device) : Type 0 where
  pub world : World
  pub run : LeadsBy w parts steps world
  pub kept_now : IsWorld kept now world
  pub boards : WorldStands world initial now

-- Parts were played as these steps, from a kept world and boards to these, whatever world they stood for.
pub record PartsRecorded (motes : ℕ) (parts : List SchedulePart) (steps : List Step) (first kept : KeptWorld)
    (old now : List Device) : Type 0 where
  pub fits : AllByRecursion (FitsStep motes) steps
  pub plays : (w : World) (initial : List Device) → IsWorld first old w → WorldStands w initial old
      → PartsPlayedBy w parts steps kept initial now

-- The opening was played, and then these parts as these steps.
pub record OpenedAndRecorded (motes : ℕ) (parts : List SchedulePart) (steps : List Step) (first kept : KeptWorld)
    (old now : List Device) : Type 0 where
  pub opened : KeptWorld
  pub boards : List Device
  pub opens : PartsPlay (Ok tt) (opening motes) first opened old boards
  pub recorded : PartsRecorded motes parts steps opened kept boards now

-- Steps were added to a record of steps, and P holds of them.
pub record AddsSteps (before after : List Step) (P : List Step → Type 0) : Type 0 where
  pub more : List Step
  pub added : after ≡ before ++ more
  pub holds : P more

-- What a step reports, and how it leaves its board.
use Rattle.std.specs.Prelude.{◌≡◌, ℕ, Bool, true, length, List, ◌++◌, Option, Result, Ok, Err, OnOk, OnErr, IsTrue}
use Rattle.dg_nor.specs.Device.{Device, Endures, MadeMore}
use Rattle.dg_nor.specs.Fuse.{beneath_of}
use Rattle.dg_nor.specs.Trail.{Trail, Leaves}
use Rattle.dg_volume.specs.Store.{Store, IsNear}
use Rattle.dg_rules.specs.World.{World as RuleWorld}
use Rattle.dg_rules.specs.Events.{does, mote_of}
use Rattle.dg_rules.specs.Made.{made_in}
use Rattle.dg_base.specs.declared.events.Step.{Step}
use Rattle.dg_rules.specs.Changes.{changes}
use Rattle.dg_script.specs.declared.report.Report.{Report}
use Rattle.dg_script.specs.Ranges.{StepInRange}
use Rattle.dg_world.specs.Stepped.{StepDone, BoardState}
use Rattle.dg_world.specs.inner.Sees.{StepSees}
use Rattle.dg_world.specs.Known.{OrderTakes, InjectTakes}
use Rattle.dg_world.specs.inner.Contexts.{AppliesIn}
use Rattle.dg_world.specs.inner.Outcomes.{stepped}
use Rattle.dg_shared.specs.Unseen.{RefusesUnseen}
use Rattle.dg_world.specs.Counts.{IsSteady}
use Rattle.dg_world.specs.inner.Counts.{CountStays, MadeUnless}
use Rattle.dg_world.specs.Cuts.{IsStopped, StepFoundNoImage}
use Rattle.dg_world.specs.inner.OutcomeEndings.{BeforeReports}
use Rattle.dg_shared.specs.declared.context.EventContext.{EventContext}
use Rattle.dg_node.specs.declared.report.ChipReport.{ChipReport}
use Rattle.dg_world.specs.declared.outcome.Outcome.{Outcome}
use Rattle.dg_world.specs.inner.EventOutcomes.{Halt, Stopped, NotAVolume, NoImage}
use Rattle.dg_world.specs.declared.outcome.Fault.{Fault}
use Rattle.dg_world.specs.declared.outcome.Fault.TheVariants as fault

-- the board was only read
pub record BoardOnlyRead (old new : Device) : Type 0 where
  pub same_image : new.image ≡ old.image
  pub endures : Endures (beneath_of old) (beneath_of new)

-- the lines of what a cut changed were appended
pub record CutChangesAre (m : ℕ) (before : Option ChipReport) (t : Store) (report_before report : List Report) : Type 0 where
  pub lines : List Report
  pub tells : (k : ℕ) (s : Store) (trail : Trail Store) → Leaves IsNear trail k t → BeforeReports before trail s
      → lines ≡ changes m s t
  pub report_now : report ≡ report_before ++ lines

-- what a look at a board that stands for t reports: the lines of what the cut changed, or nothing where the board stopped
abbrev pub CutReported : {T : Type 0} → Result T Fault → (m : ℕ) → Option ChipReport → Store
    → (report_before report : List Report) → Type 0
CutReported (Ok u) m before t report_before report = CutChangesAre m before t report_before report
CutReported (Err fault.Stopped) m before t report_before report = report ≡ report_before
CutReported (Err fault.NotAVolume) m before t report_before report = ⊥
CutReported (Err fault.NoImage) m before t report_before report = ⊥

-- The board was only read, and goes on.
pub record BoardRead (old new : Device) : Type 0 where
  pub read : BoardOnlyRead old new
  pub stays : IsSteady old new
  pub made : MadeMore 0 old.made new.made

-- how that look leaves the board, which is only read
abbrev pub CutRead : {T : Type 0} → Result T Fault → Device → Device → Type 0
CutRead (Ok u) old new = BoardRead old new
CutRead (Err fault.Stopped) old new = (new.stopped ≡ true) × BoardOnlyRead old new
CutRead (Err fault.NotAVolume) old new = ⊥
CutRead (Err fault.NoImage) old new = ⊥

abbrev pub StepEnds : Result (Option (List ℕ)) Halt → RuleWorld → Step → (reported : Bool) → (report_before : List Report)
    → BoardState
    → Type 0
StepEnds (Ok frame) w x reported report_before b = StepDone w x reported frame report_before b
StepEnds (Err (Stopped before)) w x reported report_before b = IsStopped w (mote_of x.event) (does w x.event) x.cut b.board
    × (b.reported ≡ report_before)
StepEnds (Err NoImage) w x reported report_before b = StepFoundNoImage (does w x.event) x.cut b.board.image
    × (b.reported ≡ report_before)
StepEnds (Err NotAVolume) w x reported report_before b = ⊥

-- The step ended so at its board, and the `board_state` of its mote was a and is b. The board's count did not fall, and does
-- not change unless the board stopped. The operations of the event's trail were made, up to the one that its cut interrupted.
pub record Stepped (r : Result (Option (List ℕ)) Halt) (w : RuleWorld) (x : Step) (reported : Bool) (a b : BoardState)
    : Type 0 where
  pub ends : StepEnds r w x reported a.reported b
  pub endures : Endures (beneath_of a.board) (beneath_of b.board)
  pub count : CountStays r a.board b.board
  pub made : MadeUnless r (made_in w x) a.board b.board

-- What a step that answers r and has this outcome did at the `board_state` of its mote.
pub record StepDid (r : Result (Unit {0}) Fault) (o : EventContext) (x : Step) (t : Outcome) (a b : BoardState) : Type 0 where
  pub steps : (w : RuleWorld) → StepInRange (length w.sites) x → AppliesIn o w x.event a.board a.runs
      → Stepped (stepped r t) w x o.reported a b
  pub sees : OnOk r ((w : RuleWorld) → AppliesIn o w x.event a.board a.runs
      → StepSees w x.event o.known t.orderly b.runs a.board.image b.board.image)
  pub order_reads : IsTrue o.known → OrderTakes x.event a.board b.board
  pub inject_reads : OnOk r (IsTrue o.known → (w : RuleWorld) → AppliesIn o w x.event a.board a.runs
      → InjectTakes w x.event a.board b.board)
  -- an event that is refused without a look at the chip uses no board
  pub unseen : (w : RuleWorld) → AppliesIn o w x.event a.board a.runs → RefusesUnseen (does w x.event) → (b.board ≡ a.board)
      × OnErr r ⊥

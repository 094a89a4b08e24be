-- What an event does at a board, by the rules (docs/ARCHITECTURE.md, "The way of a script line").
use Rattle.std.specs.Prelude.{◌≡◌, ℕ, true, false, List, [], ◌∷◌, length, Option, Some, None, option_map, IfSome, Result}
use Rattle.std.specs.Prelude.{Ok, Err}
use Rattle.dg_nor.specs.Device.{Device, Ran}
use Rattle.dg_nor.specs.Trail.{Trail, operations, last, Leaves}
use Rattle.dg_nor.specs.Reads.{Looked, StopsIn}
use Rattle.dg_slot.specs.Pages.{program}
use Rattle.dg_volume.specs.Store.{Store, IsNear}
use Rattle.dg_volume.specs.Stands.{Stands}
use Rattle.dg_frame.specs.Grammar.{message_of}
use Rattle.dg_frame.specs.Spelling.{frame_of}
use Rattle.dg_frame.specs.declared.Message.{Message}
use Rattle.dg_frame.specs.declared.FrameFault.{FrameFault}
use Rattle.dg_mote.specs.declared.mote.Heard.{Heard}
use Rattle.dg_mote.specs.declared.mote.Heard.TheVariants.{Other, Asks, Sealed}
use Rattle.dg_rules.specs.World.{World as RuleWorld, Running, store_at}
use Rattle.dg_rules.specs.Changes.{sent_line}
use Rattle.dg_rules.specs.Events.{EventEffect, Does, Refuses, Goes, trail_of}
use Rattle.dg_rules.specs.Steps.{done_reports}
use Rattle.dg_script.specs.declared.report.Report.{Report}
use Rattle.dg_script.specs.declared.report.Report.TheVariants.{Start, Refused as RefusedLine}
use Rattle.dg_world.specs.inner.ChipReports.{change_lines}
use Rattle.dg_node.specs.Reports.{IsReportOf}
use Rattle.dg_world.specs.Worlds.{MoteStands}
use Rattle.dg_node.specs.Hosts.{Host}
use Rattle.dg_node.specs.declared.node.Node.{Node}
use Rattle.dg_node.specs.declared.report.ChipReport.{ChipReport}
use Rattle.dg_world.specs.inner.EventOutcomes.{EventOutcome, Refused, Unreported, Sends, Changes, Starts, Halt}
use Rattle.dg_world.specs.inner.EventOutcomes.{Stopped, NotAVolume, NoImage}

-- the frame of an outcome, and the outcome of what a tick sent, if anything
abbrev pub outcome_frame : EventOutcome → Option (List ℕ)
outcome_frame (Refused why) = None
outcome_frame Unreported = None
outcome_frame (Sends bytes) = Some bytes
outcome_frame (Changes old new) = None
outcome_frame (Starts x) = None

abbrev pub outcome_sent : Option (List ℕ) → EventOutcome
outcome_sent None = Unreported
outcome_sent (Some bytes) = Sends bytes

-- the line on a frame, which a wide reader reads
abbrev pub frame_lines : ℕ → Result Message FrameFault → List Report
frame_lines m (Err fault) = []
frame_lines m (Ok message) = sent_line m (Some message)

abbrev pub outcome_lines : ℕ → EventOutcome → List Report
outcome_lines m (Refused why) = RefusedLine m why ∷ []
outcome_lines m Unreported = []
outcome_lines m (Sends bytes) = frame_lines m (message_of bytes true)
outcome_lines m (Changes old new) = change_lines m old new
outcome_lines m (Starts x) = Start m x.image_version.image x.image_version.version x.length x.crc ∷ []

-- The outcome matches the effect: the mote, the report and what is sent are those of the rules, the chip stands for the last
-- store, and what was started is in program memory.
pub record ReportsEffect (w : RuleWorld) (m : ℕ) (d : EventEffect) (outcome : EventOutcome) (u : Option Node)
    (image : List ℕ) : Type 0 where
  pub runs : Option Running
  pub runs_then : d.runs ≡ Some runs
  pub mote : MoteStands image u (last d.trail) runs
  pub lines : outcome_lines m outcome ≡ done_reports w m d
  pub sent : outcome_frame outcome ≡ option_map frame_of d.sent
  pub stands : Stands image (last d.trail)
  pub memory : IfSome d.started (λ r. program image (length r.pages) ≡ r.pages)

-- an event that is not refused was done
pub record EventDone (w : RuleWorld) (m : ℕ) (does : Does) (u : Option Node) (old new : Device)
    (outcome : EventOutcome) : Type 0 where
  pub effect : EventEffect
  pub goes : does ≡ Goes effect
  pub ran : Ran (operations effect.trail) old new
  pub tells : ReportsEffect w m effect outcome u new.image

-- neither the order nor what is kept has changed
pub record SameReport (s t : Store) : Type 0 where
  pub kept : t.kept ≡ s.kept
  pub order : t.order ≡ s.order

-- an answer to a frame that changes neither: with the others an order may be kept, a slot taken, or a page sealed
abbrev pub LeavesChip : Heard → Type 0
LeavesChip Other = ⊥
LeavesChip (Asks image page) = ⊥
LeavesChip (Sealed image page) = ⊥
LeavesChip answer = Unit {0}

-- This is what is reported of a chip that stood for s, or the report is the same wherever a stop leaves the trail.
abbrev pub BeforeReports : Option ChipReport → Trail Store → Store → Type 0
BeforeReports None t s = (k : ℕ) (u : Store) → Leaves IsNear t k u → SameReport s u
BeforeReports (Some x) t s = IsReportOf x s

pub record EventStopped (does : Does) (s : Store) (old new : Device) (before : Option ChipReport) : Type 0 where
  pub stops : StopsIn Stands IsNear (trail_of does s) old new
  pub is_report : old.blown ≡ false → new.blown ≡ true → BeforeReports before (trail_of does s) s

-- a start found no image
pub record EventFoundNoImage (does : Does) (old new : Device) : Type 0 where
  pub effect : EventEffect
  pub goes : does ≡ Goes effect
  pub none : effect.runs ≡ None
  pub ran : Ran (operations effect.trail) old new
  pub stands : Stands new.image (last effect.trail)

-- What an event that does this at mote m answers, from a board that stood for the mote's store: the host was a and is b.
abbrev pub OutcomeEnds : Result EventOutcome Halt → RuleWorld → (m : ℕ) → Does → (a b : Host) → Type 0
OutcomeEnds (Ok (Refused why)) w m does a b = (does ≡ Refuses why) × Looked a.board b.board × (b.runs ≡ a.runs)
OutcomeEnds (Ok Unreported) w m does a b = EventDone w m does b.runs a.board b.board Unreported
OutcomeEnds (Ok (Sends bytes)) w m does a b = EventDone w m does b.runs a.board b.board (Sends bytes)
OutcomeEnds (Ok (Changes old new)) w m does a b = EventDone w m does b.runs a.board b.board (Changes old new)
OutcomeEnds (Ok (Starts x)) w m does a b = EventDone w m does b.runs a.board b.board (Starts x)
OutcomeEnds (Err (Stopped before)) w m does a b = EventStopped does (store_at w m) a.board b.board before
OutcomeEnds (Err NoImage) w m does a b = EventFoundNoImage does a.board b.board
OutcomeEnds (Err NotAVolume) w m does a b = ⊥

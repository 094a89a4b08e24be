-- What an event did, by the code's answer and its outcome (docs/ARCHITECTURE.md, "The way of a script line").
use Rattle.std.specs.Prelude.{◌≡◌, ℕ, List, Option, Some, None, Result, Ok, Err}
use Rattle.dg_mote.specs.Motes.{sent_in}
use Rattle.dg_script.specs.declared.report.Cause.{Cause}
use Rattle.dg_world.specs.inner.EventOutcomes.{EventOutcome, EventEnded, Refused, Unreported, Sends, Changes, Starts, Halt}
use Rattle.dg_world.specs.inner.EventOutcomes.{Stopped, NotAVolume, NoImage, Whole, Cut}
use Rattle.dg_node.specs.declared.report.ChipReport.{ChipReport}
use Rattle.dg_node.specs.declared.answers.StartedImage.{StartedImage}
use Rattle.dg_world.specs.declared.outcome.Outcome.{Outcome}
use Rattle.dg_world.specs.declared.outcome.Fault.{Fault}
use Rattle.dg_world.specs.declared.outcome.Fault.TheVariants as fault
use Rattle.dg_world.specs.declared.outcome.Power.{Power}
use Rattle.dg_world.specs.declared.outcome.Power.TheVariants as power
use Rattle.dg_world.specs.declared.world.WorldFault.{WorldFault}
use Rattle.dg_world.specs.declared.world.WorldFault.TheVariants.{Flash, NotAVolume as NotAVolumeFault, NoImage as NoImageFault}

-- the outcome is empty
pub record IsNothing (t : Outcome) : Type 0 where
  pub refused : t.refused ≡ None
  pub before : t.before ≡ None
  pub after : t.after ≡ None
  pub started : t.started ≡ None
  pub sent : sent_in t.outbox ≡ None
  pub orderly : t.orderly ≡ None

abbrev pub outcome_by : Option (List ℕ) → Option Cause → Option StartedImage → (before after : Option ChipReport) → EventOutcome
outcome_by (Some bytes) why x a b = Sends bytes
outcome_by None (Some why) x a b = Refused why
outcome_by None None (Some x) a b = Starts x
outcome_by None None None (Some a) (Some b) = Changes a b
outcome_by None None None (Some a) None = Unreported
outcome_by None None None None b = Unreported

-- what an event with this outcome did
abbrev pub outcome_of : Outcome → EventOutcome
outcome_of t = outcome_by (sent_in t.outbox) t.refused t.started t.before t.after

-- why an event that answers this was not done, where this was reported of the chip before
abbrev pub halt_of : Fault → Option ChipReport → Halt
halt_of fault.Stopped before = Stopped before
halt_of fault.NotAVolume before = NotAVolume
halt_of fault.NoImage before = NoImage

abbrev pub as_outcome : {T : Type 0} → Result T Fault → Outcome → Result EventOutcome Halt
as_outcome (Ok x) t = Ok (outcome_of t)
as_outcome (Err f) t = Err (halt_of f t.before)

abbrev pub ended_as : Result Power Fault → Outcome → Result EventEnded Halt
ended_as (Ok power.Stays) t = Ok (Whole (outcome_of t))
ended_as (Ok power.Cut) t = Ok (Cut t.before)
ended_as (Err f) t = Err (halt_of f t.before)

-- the frame that a step with this outcome sends, if it sends one
abbrev pub stepped : {T : Type 0} → Result T Fault → Outcome → Result (Option (List ℕ)) Halt
stepped (Ok x) t = Ok (sent_in t.outbox)
stepped (Err f) t = Err (halt_of f t.before)

abbrev pub fault_of : Halt → ℕ → WorldFault
fault_of (Stopped before) mote = Flash mote
fault_of NotAVolume mote = NotAVolumeFault
fault_of NoImage mote = NoImageFault

-- What an event did, as it is reported (docs/SCRIPTS.md, "The report").
use Rattle.std.specs.Prelude.{ℕ, List, Option}
use Rattle.dg_script.specs.declared.report.Cause.{Cause}
use Rattle.dg_node.specs.declared.report.ChipReport.{ChipReport}
use Rattle.dg_node.specs.declared.answers.StartedImage.{StartedImage}

pub data EventOutcome : Type 0 where
  Refused : (why : Cause) → EventOutcome
  -- nothing that is reported
  Unreported : EventOutcome
  -- a frame of these bytes is sent, and the chip is unchanged
  Sends : (bytes : List ℕ) → EventOutcome
  -- what is reported of the chip may have changed
  Changes : (before after : ChipReport) → EventOutcome
  Starts : (line : StartedImage) → EventOutcome

-- why an event was not done
pub data Halt : Type 0 where
  -- The board is stopped. `before` is the report of the chip from before the event. If it is None, a stop leaves the report
  -- the same.
  Stopped : (before : Option ChipReport) → Halt
  NotAVolume : Halt
  NoImage : Halt

-- how an event whose power may have been cut ended
pub data EventEnded : Type 0 where
  Whole : (outcome : EventOutcome) → EventEnded
  -- The cut fired. `before` is the report of the chip from before the event. If it is None, the cut leaves the report the
  -- same.
  Cut : (before : Option ChipReport) → EventEnded

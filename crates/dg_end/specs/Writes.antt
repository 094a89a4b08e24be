-- How a command with an outcome ends: at most one write, and its status (docs/COMMANDS.md, "How a command ends").
use Rattle.std.specs.Prelude.{◌≡◌, ◌⊎◌, ℕ, List, Option, Some, None, Result}
use Rattle.dg_words.specs.Counts.{Rose}
use Rattle.dg_base.specs.Outside.{Puts, PutsPrefix}
use Rattle.dg_base.specs.declared.answers.Status.{Status}
use Rattle.dg_base.specs.declared.answers.Status.TheVariants as statuses
use Rattle.dg_outside.specs.Outside.{Outside, OutputState, CountsRise}
use Rattle.dg_end.specs.Lines.{Outcome, outcome_status, outcome_line, finish_line}
use Rattle.dg_end.specs.declared.ends.End.{End}

-- A line was written whole, and the status is this one; or the write failed after a prefix of it; or memory ran out before it. If
-- there is no line, nothing was written.
abbrev pub WritesLast : (status wanted : Status) → Option (List ℕ) → OutputState → OutputState → Type 0
WritesLast status wanted None a b = (status ≡ wanted) × (b ≡ a)
WritesLast status wanted (Some text) a b =
    ((status ≡ wanted) × Puts a.written b.written text × (b.writes ≡ a.writes))
    ⊎ ((status ≡ statuses.WriteFault) × PutsPrefix a.written b.written text × Rose a.writes b.writes)
    ⊎ ((status ≡ statuses.Memory) × (b ≡ a))

-- a command wrote its answer, or its last line
abbrev pub WritesAnswer : (status : Status) → Outcome → OutputState → OutputState → Type 0
WritesAnswer status outcome a b = WritesLast status (outcome_status outcome) (outcome_line outcome) a b

-- a command that wrote its answer before wrote its last line
abbrev pub WritesEnd : {T : Type 0} → (status : Status) → Result T End → OutputState → OutputState → Type 0
WritesEnd status outcome a b = WritesLast status (outcome_status outcome) (finish_line outcome) a b

-- A command has an outcome that its rules allow, wrote its answer or its last line, and has its status. It uses neither link nor
-- clock.
pub record CommandEnds (status : Status) (allows : Outcome → Type 0) (a b : Outside) : Type 0 where
  pub outcome : Outcome
  pub allowed : allows outcome
  pub answered : WritesAnswer status outcome a.output b.output
  pub link : b.link ≡ a.link
  pub clock : b.clock ≡ a.clock
  pub counts : CountsRise a b

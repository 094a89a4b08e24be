-- A link in memory that fails in chosen calls, as contracts see it (docs/COMMANDS.md, "Serve").
use Rattle.std.specs.Prelude.{ℕ, List}
use Rattle.dg_link.specs.Inboxes.{Inboxes}

-- the inboxes, the numbers of the calls that fail, how many calls were made, and how many failed
pub record FailBoxes : Type 0 where
  pub boxes : Inboxes
  pub failing : List ℕ
  pub calls : ℕ
  pub faults : ℕ

-- What a command that uses no board writes: for an invalid command line, for words that ask for help or the version, and where a
-- board is missing (docs/COMMANDS.md, "How a command ends").
use Rattle.std.specs.Prelude.{◌≡◌, ◌≢◌, List, ℕ, Some}
use Rattle.dg_base.specs.declared.answers.Status.{Status}
use Rattle.dg_base.specs.declared.answers.Status.TheVariants.{Memory}
use Rattle.dg_outside.specs.Outside.{Outside}
use Rattle.dg_end.specs.Writes.{WritesLast}

-- A text was written, or a prefix of it, since a write failed. Nothing is read, no board is used, and no memory is taken.
pub record TextDone (text : List ℕ) (wanted status : Status) (a b : Outside) : Type 0 where
  pub unread : b.input ≡ a.input
  pub boards : b.boards ≡ a.boards
  pub written : WritesLast status wanted (Some text) a.output b.output
  pub room : status ≢ Memory

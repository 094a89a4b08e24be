-- The end of a verb.
use Rattle.std.proofs.Common.{◌≡◌, ◌≤◌, ℕ, List}
use Rattle.dg_base.specs.declared.answers.Status.{Status}
use Rattle.dg_outside.specs.Outside.{Outside}
use Rattle.dg_end.specs.Lines.{Outcome}
use Rattle.dg_end.specs.Writes.{WritesAnswer, CommandEnds}
use Rattle.dg_end.proofs.CommandLemmas.{command_ends, unread_ends}
use Rattle.dg_tool.specs.Done.{VerbRule, OnBoards, FedBoards, FirstDone, InputDone}

module _ (status : Status) (outcome : Outcome) (a b : Outside) (answered : WritesAnswer status outcome a.output b.output) (writes : a.output.writes ≤ b.output.writes) (link : b.link ≡ a.link) (clock : b.clock ≡ a.clock) where
  -- one that reads no input
  pub first_done : (rule : VerbRule) → OnBoards outcome rule ⊥ a.boards b.boards → b.input ≡ a.input → FirstDone status rule a b
  first_done rule did unread =
      unread_ends status outcome a b answered writes link clock (λ outcome. OnBoards outcome rule ⊥ a.boards b.boards × (b.input ≡ a.input)) (did, unread) unread

  -- the same of one whose rule depends on a number, such as the form of the board
  pub numbered_done : (is : ℕ → Type 0) (rule : ℕ → VerbRule) → ((n : ℕ) → is n → OnBoards outcome (rule n) ⊥ a.boards b.boards) → b.input ≡ a.input
      → CommandEnds status (λ outcome. ((n : ℕ) → is n → OnBoards outcome (rule n) ⊥ a.boards b.boards) × (b.input ≡ a.input)) a b
  numbered_done is rule did unread =
      unread_ends status outcome a b answered writes link clock (λ outcome. ((n : ℕ) → is n → OnBoards outcome (rule n) ⊥ a.boards b.boards) × (b.input ≡ a.input)) (did, unread) unread

  -- one that reads its input
  pub input_done : (rule : List ℕ → VerbRule) → FedBoards outcome rule a.input b.input a.boards b.boards → a.input.reads ≤ b.input.reads → InputDone status rule a b
  input_done rule did reads = command_ends status outcome a b answered writes link clock (λ outcome. FedBoards outcome rule a.input b.input a.boards b.boards) did reads

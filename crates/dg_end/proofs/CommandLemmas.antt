-- A command that ended.
use Rattle.std.proofs.Common.{◌≡◌, ◌≤◌, ℕ, ap, arith}
use Rattle.dg_base.specs.declared.answers.Status.{Status}
use Rattle.dg_outside.specs.Outside.{Outside}
use Rattle.dg_end.specs.Lines.{Outcome}
use Rattle.dg_end.specs.Writes.{WritesAnswer, CommandEnds}

same_least : (m n : ℕ) → n ≡ m → m ≤ n
same_least m n e = omega (arith, e)

module _ (status : Status) (outcome : Outcome) (a b : Outside) (answered : WritesAnswer status outcome a.output b.output) (writes : a.output.writes ≤ b.output.writes) (link : b.link ≡ a.link) (clock : b.clock ≡ a.clock) where
  pub command_ends : (allows : Outcome → Type 0) → allows outcome → a.input.reads ≤ b.input.reads → CommandEnds status allows a b
  command_ends allows allowed reads = record {
    outcome = outcome;
    allowed = allowed;
    answered = answered;
    link = link;
    clock = clock;
    counts = record { read_counts = reads; write_counts = writes; link_counts = same_least a.link.failures b.link.failures (ap (λ l. l.failures) link) };
  }

  -- one that reads no input
  pub unread_ends : (allows : Outcome → Type 0) → allows outcome → b.input ≡ a.input → CommandEnds status allows a b
  unread_ends allows allowed unread = command_ends allows allowed (same_least a.input.reads b.input.reads (ap (λ i. i.reads) unread))

use Rattle.std.proofs.Common.{◌≡◌, ℕ, ◌<◌, ◌≤◌, true, false}
use Rattle.std.specs.FinSet as set
use Rattle.dg_slot.specs.Jobs.{slot_of, got_of_job}
use Rattle.part_stream.proofs.receiving.receive_page.Given as goal

abbrev pub invariant-loop-packet : goal.invariant-loop-packet
invariant-loop-packet g l = record {
  got : (q : ℕ) → q < l.packet → set.contains (got_of_job l.job) q ≡ true;
  missing : (q : ℕ) → l.packet ≤ q → set.contains (got_of_job l.job) q ≡ false;
  same_slot : slot_of l.job ≡ l.fn.slot;
}

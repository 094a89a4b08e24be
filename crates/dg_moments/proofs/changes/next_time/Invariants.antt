use Rattle.std.proofs.Common.{◌≡◌, ℕ, ◌<◌, ◌≤◌, true, is_some}
use Rattle.dg_moments.specs.Wholes.{moment_in}
use Rattle.dg_moments.proofs.changes.next_time.Given as goal

-- a moment was noted of each of the times before
abbrev pub invariant-loop-times : goal.invariant-loop-times
invariant-loop-times l = (k : ℕ) → 1 ≤ k → k < l.times → is_some (moment_in l.moments l.mote l.image l.version k) ≡ true

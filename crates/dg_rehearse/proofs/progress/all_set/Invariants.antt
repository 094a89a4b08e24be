use Rattle.std.proofs.Common.{◌≡◌, ℕ, true, false}
use Rattle.std.specs.Prelude.{slice_index_or}
use Rattle.dg_rehearse.specs.Turns.{all_motes}
use Rattle.dg_rehearse.proofs.progress.all_set.Given as goal

abbrev pub invariant-loop-mote : goal.invariant-loop-mote
invariant-loop-mote l = all_motes (λ m. slice_index_or l.of m false) l.mote ≡ true

use Rattle.std.proofs.Common.{◌≡◌, ℕ, ◌<◌, true}
use Rattle.dg_moments.specs.Moments.{keeps_version}
use Rattle.dg_moments.specs.Wholes.{kept_in}
use Rattle.dg_moments.proofs.changes.have_all.Given as goal

-- each of the motes before keeps it
abbrev pub invariant-loop-mote : goal.invariant-loop-mote
invariant-loop-mote l = (m : ℕ) → m < l.mote → keeps_version (kept_in l.kept m l.image) l.version ≡ true

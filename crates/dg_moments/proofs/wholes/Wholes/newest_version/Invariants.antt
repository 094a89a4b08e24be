use Rattle.std.specs.Prelude.{◌≡◌}
use Rattle.dg_moments.specs.Moments.{newest_of}
use Rattle.dg_moments.specs.Wholes.{kept_in}
use Rattle.dg_moments.proofs.wholes.Wholes.newest_version.Given as goal

-- the newest of the motes before
abbrev pub invariant-loop-mote : goal.invariant-loop-mote
invariant-loop-mote l = l.newest ≡ newest_of l.mote (λ m. kept_in l.self.kept m l.image)

use Rattle.std.specs.Prelude.{◌≡◌, ℕ, false, None}
use Rattle.dg_moments.specs.Wholes.{Begins}
use Rattle.dg_moments.specs.Telling.{StaysTold}
use Rattle.dg_moments.proofs.BeginLemmas.{motes_up_to}
use Rattle.dg_moments.proofs.wholes.Wholes.begin.Given as goal

-- what was told of the motes before was noted
abbrev pub invariant-loop-mote : goal.invariant-loop-mote
invariant-loop-mote l = StaysTold l.initial.self l.self × ((image : ℕ) → l.self.lost ≡ false → Begins l.initial.self l.motes image (λ m. None)
    → Begins l.self l.motes image (motes_up_to l.mote l.initial.self.given.items image))

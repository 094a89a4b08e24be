use Rattle.std.specs.Prelude.{◌≡◌, ℕ, ◌<◌, false, Option, None}
use Rattle.dg_moments.specs.Wholes.{Begins, with_kept}
use Rattle.dg_moments.specs.Telling.{StaysTold}
use Rattle.dg_moments.proofs.BeginLemmas.{up_to}
use Rattle.dg_moments.proofs.wholes.Wholes.begin_mote.Given as goal

-- what was told of the images before was noted
abbrev pub invariant-loop-image : goal.invariant-loop-image
invariant-loop-image l = StaysTold l.initial.self l.self × ((image : ℕ) (kept : ℕ → Option ℕ) → l.self.lost ≡ false → l.mote < l.motes → kept l.mote ≡ None
    → Begins l.initial.self l.motes image kept → Begins l.self l.motes image (with_kept kept l.mote (up_to l.image l.given image)))

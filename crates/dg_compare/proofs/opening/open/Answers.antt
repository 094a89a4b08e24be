use Rattle.std.proofs.Common.{List, ℕ, sym, subst, ◌∙◌, rules}
use Rattle.dg_volume.specs.Stands.{Stands, IsVolume}
use Rattle.dg_compare.proofs.opening.open.Goals as goal

pub returns-in-Broken-clause-none : goal.returns-in-Broken-clause-none
returns-in-Broken-clause-none c = λ none file.
    let seen = rw c.in-Broken.is at c.in_ok-look.ensures.shows in
    seen.0 file.volume.0 (subst (λ (x : List ℕ). Stands x file.volume.0) (sym c.in_ok-chip.ensures.image) file.volume.1)

pub returns-in-Volume-clause-opens : goal.returns-in-Volume-clause-opens
returns-in-Volume-clause-opens c =
    let seen = rw c.in-Volume.is at c.in_ok-look.ensures.shows in
    let image = c.in_ok-chip.ensures.image in
    record {
      file = record { count = c.is_chip_length.ensures.0 c.if-not-is_chip_length.false; volume = subst IsVolume image seen.0 };
      image = c.look.ensures.unchanged ∙ image;
      shows = λ s stands. seen.1 s (subst (λ (x : List ℕ). Stands x s) (sym image) stands);
    }

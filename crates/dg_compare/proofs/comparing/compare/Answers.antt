use Rattle.std.proofs.Common.{ℕ, List, sym, subst}
use Rattle.dg_volume.specs.Stands.{Stands}
use Rattle.dg_compare.proofs.comparing.compare.Goals as goal

pub returns : goal.returns
returns c =
    let one = rw c.in-Some.is at c.in_ok-one.ensures.opens in
    let other = rw c.in-Some-2.is at c.in_ok-other.ensures.opens in
    record {
      compares = (one.file, other.file, λ s t a b. c.in_ok-found.ensures.compares s t (subst (λ (x : List ℕ). Stands x s) (sym one.image) a) (subst (λ (x : List ℕ). Stands x t) (sym other.image) b) (one.shows s a) (other.shows t b));
    }

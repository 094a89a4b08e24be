use Rattle.std.proofs.Common.{ℕ, sym, ap, ◌∙◌, subst}
use Rattle.dg_moments.specs.Moments.{kept_whole, whole_moments, all_moments, newest_moment}
use Rattle.dg_moments.specs.Wholes.{Knows}
use Rattle.dg_count.proofs.counter.Counter.newest.Goals as goal

pub returns : goal.returns
returns c stores events same loaded knows =
    let image = c.args.image in
    c.newest.ensures (kept_whole stores events image) (λ m v. whole_moments stores events m image v) (λ v. all_moments stores events image v) loaded
    (subst (λ (n : ℕ). Knows c.args.self.now.wholes n image (kept_whole stores events image) (λ m v. whole_moments stores events m image v) (λ v. all_moments stores events image v))
    (sym same) knows)
    ∙ ap (λ (n : ℕ). newest_moment n (kept_whole stores events image) (λ v. all_moments stores events image v)) same

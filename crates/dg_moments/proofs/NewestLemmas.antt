-- The moment of the newest version that is kept whole.
use Rattle.std.proofs.Common.{◌≡◌, ℕ, ◌<◌, Bool, true, cond, List, refl, ap, ◌∙◌}
use Rattle.std.specs.Prelude.{Option, Some, None}
use Rattle.std.specs.Option.{option_and_then}
use Rattle.dg_cost_text.specs.declared.moment.Moment.{Moment}
use Rattle.dg_moments.specs.declared.wholes.Wholes.{Wholes}
use Rattle.dg_moments.specs.Moments.{is_loaded, keeps_version, all_motes, last_in, newest_of, newest_moment}
use Rattle.dg_moments.specs.Wholes.{kept_in, all_in, has_all, Knows}
use Rattle.dg_moments.proofs.MotesLemmas.{all_same, newest_same}
use Rattle.dg_moments.proofs.ChangeLemmas.{at_lt}

-- the moment, by what was noted
abbrev pub newest_in : Wholes → (motes image : ℕ) → Option ℕ → Option Moment
newest_in w motes image newest = option_and_then (λ v. cond (has_all w.kept motes image v) (all_in w.last image v) None) newest

pub newest_is : (w : Wholes) (motes image : ℕ) (kept : ℕ → Option ℕ) (moments : ℕ → ℕ → List Moment) (all : ℕ → List Moment) (o : Option ℕ)
    → is_loaded image ≡ true → Knows w motes image kept moments all → o ≡ newest_of motes (λ m. kept_in w.kept m image)
    → newest_in w motes image o ≡ newest_moment motes kept all
newest_is w motes image kept moments all o loaded knows is =
    by o ∙ ap (option_and_then (λ v. cond (all_motes motes (λ m. keeps_version (kept m) v)) (last_in (all v)) None))
    (is ∙ newest_same motes (λ m. kept_in w.kept m image) kept same)
  where
    same : (m : ℕ) → m < motes → kept_in w.kept m image ≡ kept m
    same m lt = knows.keeps loaded m ∙ at_lt m motes (kept m) None lt

    by : (p : Option ℕ) → newest_in w motes image p ≡ option_and_then (λ v. cond (all_motes motes (λ m. keeps_version (kept m) v)) (last_in (all v)) None) p
    by None = refl
    by (Some v) =
        ap (λ (b : Bool). cond b (all_in w.last image v) None)
        (all_same motes (λ (m : ℕ). keeps_version (kept_in w.kept m image) v) (λ (m : ℕ). keeps_version (kept m) v) (λ m lt. ap (λ (q : Option ℕ). keeps_version q v) (same m lt)))
        ∙ ap (λ (q : Option Moment). cond (all_motes motes (λ m. keeps_version (kept m) v)) q None)
        (knows.last v ∙ ap (λ (b : Bool). cond b (last_in (all v)) None) loaded)

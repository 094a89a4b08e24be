-- The answers of a clock in memory, one after another.
use Rattle.std.proofs.Common.{◌≡◌, ℕ, zero, suc, ◌+◌, ◌-◌, ◌*◌, ◌^◌, min, refl, ap, ◌∙◌, arith}
use Rattle.dg_base.specs.Clock.{Answers, behind_all}

abbrev from_zero : ℕ → Answers
from_zero step = record { next = 0; step = step }

behind_all_step : (step n : ℕ) → (behind_all n (from_zero step)).step ≡ step
unfolding behind_all
behind_all_step step zero = refl
behind_all_step step (suc n) = behind_all_step step n

pub behind_all_next : (step n : ℕ) → (let first : Answers = record { next = 0; step = step } in (behind_all n first).next ≡ min (n * step) (2 ^ 64 - 1))
unfolding behind_all
behind_all_next step zero = omega arith
behind_all_next step (suc n) =
    let before = behind_all_next step n in
    let same = behind_all_step step n in
    let once : suc n * step ≡ n * step + step = omega arith in
    ap (λ x. min (x + (behind_all n (from_zero step)).step) (2 ^ 64 - 1)) before
    ∙ ap (λ x. min (min (n * step) (2 ^ 64 - 1) + x) (2 ^ 64 - 1)) same
    ∙ omega (arith, once)

-- What a clock exposes of its answers (the trait `Clock` of this crate).
use Rattle.std.specs.Prelude.{◌≡◌, ℕ, zero, suc, ◌+◌, ◌-◌, ◌^◌, min, Option, Some, None}

-- the next answer, and by how much each further one is greater
pub record Answers : Type 0 where
  pub next : ℕ
  pub step : ℕ

-- the answers after the next one: they rise up to the greatest u64, and stay there
abbrev pub next_answers : Answers → Answers
next_answers a = record { next = min (a.next + a.step) (2 ^ 64 - 1); step = a.step }

-- the answers after the first n
unfoldable pub behind_all : ℕ → Answers → Answers
behind_all zero a = a
behind_all (suc n) a = next_answers (behind_all n a)

-- If the answers are exposed, this one was next, and those after it are exposed from then on. If they are not
-- exposed, they stay so.
abbrev pub Answered : Option Answers → Option Answers → ℕ → Type 0
Answered None after answer = after ≡ None
Answered (Some told) after answer = (answer ≡ told.next) × (after ≡ Some (next_answers told))

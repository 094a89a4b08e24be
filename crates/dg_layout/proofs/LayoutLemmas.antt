-- Steps, columns and lanes.
use Rattle.std.proofs.Common.{◌≡◌, ℕ, zero, suc, ◌*◌, ◌/◌, ◌≤◌, ◌<◌, nat_lt, min, max, true, false, List, [], ◌∷◌, length, get_or, Some, None, inl, inr, refl, arith}
use Rattle.std.proofs.lemmas.Bool.{cases_lt, lt-ltb, le-ltb}
use Rattle.std.proofs.Math.Nat.{mul-le-mul_left, mul-div-le}
use Rattle.std.specs.List.{find}

-- the first number above a bound
pub found : (least : ℕ) (steps : List ℕ) (i : ℕ) → i < length steps → ((k : ℕ) → k < i → get_or steps k 0 ≤ least) → least < get_or steps i 0
    → find (λ step. nat_lt least step) steps ≡ Some (get_or steps i 0)
found least [] i inside low high = absurd (omega (arith, inside))
found least (x ∷ xs) zero inside low high = let p : nat_lt least x ≡ true = lt-ltb _ _ high in rw p refl
found least (x ∷ xs) (suc i) inside low high =
    let p : nat_lt least x ≡ false = le-ltb _ _ (low 0 (omega arith)) in
    rw p (found least xs i (omega (arith, inside)) (λ k h. low (suc k) (omega (arith, h))) high)

pub missed : (least : ℕ) (steps : List ℕ) → ((k : ℕ) → k < length steps → get_or steps k 0 ≤ least) → find (λ step. nat_lt least step) steps ≡ None
missed least [] low = refl
missed least (x ∷ xs) low =
    let p : nat_lt least x ≡ false = le-ltb _ _ (low 0 (omega arith)) in
    rw p (missed least xs (λ k h. low (suc k) (omega (arith, h))))

pub small_product : (a b : ℕ) → a < 256 → b ≤ 256 → a * b ≤ 65280
small_product a b p q =
    let wide : a * b ≤ a * 256 = mul-le-mul_left a q in
    omega (arith, wide, p)

pub few_columns : (n per : ℕ) → n / 240 < per → n / per < 240
few_columns n per h = elim (cases_lt (n / per) 240) [
  | inl few ↦ few
  | inr many ↦
      let wide : per * 240 ≤ per * (n / per) = mul-le-mul_left per many in
      let low = mul-div-le n per in
      absurd (omega (arith, wide, low, h))
]

pub column_within : (n per k : ℕ) → k ≤ n / per → k * per ≤ n
column_within n per k h =
    let wide : per * k ≤ per * (n / per) = mul-le-mul_left per h in
    let low = mul-div-le n per in
    omega (arith, wide, low)

pub lanes_fit : (images : ℕ) → min 16 (48 / max 1 images) * images ≤ 48
lanes_fit zero = omega arith
lanes_fit (suc n) =
    let e : max 1 (suc n) ≡ suc n = omega arith in
    let low : min 16 (48 / suc n) ≤ 48 / suc n = omega arith in
    let wide = mul-le-mul_left (suc n) low in
    let most = mul-div-le 48 (suc n) in
    rw e (omega (arith, wide, most))

pub ruleset steps = (found, missed)

pub ruleset grids = (few_columns, column_within)

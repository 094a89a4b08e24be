-- The newest rows of a table, and counts of pages.
use Rattle.std.proofs.Common.{◌≡◌, ◌⊎◌, ℕ, ◌≤◌, max, true, false, ◌&&◌, cond, eqb, List, [], ◌∷◌, Option, Some, None, refl, sym, ap, subst, ◌∙◌, inl, inr, arith}
use Rattle.std.proofs.lemmas.Bool.{cond_both, eq-eqb, eqb-true, and_parts, cases_lt, cases_Bool}
use Rattle.std.specs.List.{find}
use Rattle.dg_object.specs.Object.{Row}
use Rattle.dg_slot.specs.Kept.{Held}
use Rattle.dg_volume.specs.Changes.{is_version}
use Rattle.dg_volume.specs.Trails.{done_of}
use Rattle.dg_volume.specs.Table.{row_at, has_image_version}
use Rattle.dg_completion.specs.Completion.{newest, largest}

-- a row is the newest of its image, and no row of that image has a larger version than it
pub record HasNewest (table : List Row) (i v : ℕ) : Type 0 where
  pub row : Row
  pub is : newest table i ≡ Some row
  pub bound : v ≤ row.version

-- what is found has the image version
pub found_version : (rows : List Row) (i n : ℕ) (r : Row) → row_at rows i n ≡ Some r → (r.image ≡ i) × (r.version ≡ n)
found_version [] i n r e = absurd (no_row r e)
  where
    no_row : (r : Row) → None ≡ Some r → ⊥
    no_row r e = cc
found_version (x ∷ xs) i n r e = by_version (cases_Bool (has_image_version i n x)) (found_version xs i n r)
  where
    by_version : (has_image_version i n x ≡ true) ⊎ (has_image_version i n x ≡ false) → (row_at xs i n ≡ Some r → (r.image ≡ i) × (r.version ≡ n)) → (r.image ≡ i) × (r.version ≡ n)
    by_version (inl k) rest =
        let parts = and_parts (eqb x.image i) (eqb x.version n) k in
        let some : Some x ≡ Some r = sym (ap (λ b. cond b (Some x) (find (has_image_version i n) xs)) k) ∙ e in
        let same : x ≡ r = cc in
        subst (λ (y : Row). (y.image ≡ i) × (y.version ≡ n)) same (eqb-true x.image i parts.0, eqb-true x.version n parts.1)
    by_version (inr k) rest = rest (sym (ap (λ b. cond b (Some x) (find (has_image_version i n) xs)) k) ∙ e)

skip : (x : Row) (xs : List Row) (i n : ℕ) → has_image_version i n x ≡ false → row_at (x ∷ xs) i n ≡ row_at xs i n
skip x xs i n k = ap (λ b. cond b (Some x) (find (has_image_version i n) xs)) k

-- version 0, or a row of that image version
abbrev Attained : List Row → ℕ → ℕ → Type 0
Attained rows i n = (n ≡ 0) ⊎ ((r : Row) × (row_at rows i n ≡ Some r))

attained_more : (x : Row) (xs : List Row) (i n : ℕ) → Attained xs i n → Attained (x ∷ xs) i n
attained_more x xs i n (inl e) = inl e
attained_more x xs i n (inr h) = elim (cases_Bool (has_image_version i n x)) [
  | inl k ↦ inr (x, ap (λ b. cond b (Some x) (find (has_image_version i n) xs)) k)
  | inr k ↦ inr (h.0, skip x xs i n k ∙ h.1)
]

attained : (rows : List Row) (i : ℕ) → Attained rows i (largest rows i)
unfolding largest
attained [] i = inl refl
attained (x ∷ xs) i = by_image (cases_Bool (eqb x.image i)) (attained xs i)
  where
    by_image : (eqb x.image i ≡ true) ⊎ (eqb x.image i ≡ false) → Attained xs i (largest xs i) → Attained (x ∷ xs) i (cond (eqb x.image i) (max x.version (largest xs i)) (largest xs i))
    by_image (inr k) rest = subst (Attained (x ∷ xs) i) (sym (ap (λ b. cond b (max x.version (largest xs i)) (largest xs i)) k)) (attained_more x xs i (largest xs i) rest)
    by_image (inl k) rest =
        subst (Attained (x ∷ xs) i) (sym (ap (λ b. cond b (max x.version (largest xs i)) (largest xs i)) k))
        (elim (cases_lt x.version (largest xs i)) [
          | inl less ↦ let e : max x.version (largest xs i) ≡ largest xs i = omega arith in subst (Attained (x ∷ xs) i) (sym e) (attained_more x xs i (largest xs i) rest)
          | inr more ↦ let e : max x.version (largest xs i) ≡ x.version = omega arith in
              subst (Attained (x ∷ xs) i) (sym e) (inr (x, ap (λ b. cond b (Some x) (find (has_image_version i x.version) xs)) (λ j. k j && eq-eqb x.version x.version refl j)))
        ])

largest_bound : (rows : List Row) (i n : ℕ) (r : Row) → row_at rows i n ≡ Some r → n ≤ largest rows i
unfolding largest
largest_bound [] i n r e = absurd (no_row r e)
  where
    no_row : (r : Row) → None ≡ Some r → ⊥
    no_row r e = cc
largest_bound (x ∷ xs) i n r e = by_version (cases_Bool (has_image_version i n x)) (largest_bound xs i n r)
  where
    more : largest xs i ≤ cond (eqb x.image i) (max x.version (largest xs i)) (largest xs i)
    more = cond_both (eqb x.image i) (max x.version (largest xs i)) (largest xs i) (λ m. largest xs i ≤ m) (λ _. omega arith) (λ _. omega arith)

    by_version : (has_image_version i n x ≡ true) ⊎ (has_image_version i n x ≡ false) → (row_at xs i n ≡ Some r → n ≤ largest xs i) → n ≤ cond (eqb x.image i) (max x.version (largest xs i)) (largest xs i)
    by_version (inr k) rest = omega (arith, rest (sym (skip x xs i n k) ∙ e), more)
    by_version (inl k) rest =
        let parts = and_parts (eqb x.image i) (eqb x.version n) k in
        omega (arith, eqb-true x.version n parts.1, ap (λ b. cond b (max x.version (largest xs i)) (largest xs i)) parts.0)

pub has_newest : (table : List Row) (i v : ℕ) (row : Row) → row_at table i v ≡ Some row → HasNewest table i v
unfolding newest
has_newest table i v row e = by_attained (attained table i)
  where
    bound : v ≤ largest table i
    bound = largest_bound table i v row e

    by_attained : Attained table i (largest table i) → HasNewest table i v
    by_attained (inl none) =
        let same : largest table i ≡ v = omega (arith, none, bound) in
        record { row = row; is = ap (row_at table i) same ∙ e; bound = omega (arith, (found_version table i v row e).1) }
    by_attained (inr h) = record { row = h.0; is = h.1; bound = omega (arith, bound, (found_version table i (largest table i) h.0 h.1).1) }

-- the newest row is in the table, under its version
pub newest_in : (table : List Row) (i : ℕ) (r : Row) → newest table i ≡ Some r → row_at table i r.version ≡ Some r
unfolding newest
newest_in table i r e = ap (row_at table i) (found_version table i (largest table i) r e).1 ∙ e

-- the pages of this version
abbrev pub count : Option Held → ℕ → ℕ
count o v = cond (is_version o v) (done_of o) 0

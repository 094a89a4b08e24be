-- Blocks in cells.
use Rattle.std.proofs.Common.{◌≡◌, ◌≢◌, ℕ, suc, ◌+◌, ◌%◌, ◌<◌, ◌≤◌, ◌⊎◌, ◌==◌, inl, inr, true, cond, List, [], ◌∷◌, length, get_or, set, Option, Some, None, refl, sym, ap, ◌∙◌, subst, arith}
use Rattle.std.specs.Prelude.{slice_get}
use Rattle.std.proofs.lemmas.Bool.{cases_eq, cases_lt, ne_eqb}
use Rattle.std.proofs.lemmas.Bool.Decides.{nat_tests}
use Rattle.std.proofs.lemmas.List.{get_or-set_same, get_or-set_other, length-set}
use Rattle.dg_ihex.specs.Sizes.{longest_image}
use Rattle.dg_ihex.specs.Cells.{Keeps, cells_written}

-- numbers that are less than an image apart have cells of their own
own_cell : (a d : ℕ) → 0 < d → d < longest_image → a % longest_image ≢ (a + d) % longest_image
own_cell a d some few same = omega arith

-- the same in either direction, with a shift
cells_apart : (a b : ℕ) → a ≢ b → a < b + longest_image → b < a + longest_image → a % longest_image ≢ b % longest_image
cells_apart a b differ low high same = omega arith

pub cells_differ : (shift a b : ℕ) → a ≢ b → a < b + longest_image → b < a + longest_image → (a + shift) % longest_image ≢ (b + shift) % longest_image
cells_differ shift a b differ low high = cells_apart (a + shift) (b + shift) (λ same. differ (omega arith)) (omega arith) (omega arith)

-- what is kept is the map from addresses to bytes
pub keeps_same : (shift : ℕ) (cells : List (Option ℕ)) (f g : ℕ → Option ℕ) → ((x : ℕ) → g x ≡ f x) → Keeps shift cells f → Keeps shift cells g
keeps_same shift cells f g same k = record {
  there = λ x y h. k.there x y (sym (same x) ∙ h);
  only = λ p y h. let o = k.only p y h in (o.0, o.1, same o.0 ∙ o.2);
}

-- one more byte, at an address whose cell is unused
pub keeps_one : (shift : ℕ) (cells : List (Option ℕ)) (f g : ℕ → Option ℕ) (a b : ℕ) → (a + shift) % longest_image < length cells
    → ((x y : ℕ) → f x ≡ Some y → (x + shift) % longest_image ≢ (a + shift) % longest_image) → g a ≡ Some b → ((x : ℕ) → x ≢ a → g x ≡ f x)
    → Keeps shift cells f → Keeps shift (set cells ((a + shift) % longest_image) (Some b)) g
keeps_one shift cells f g a b room free here others k =
    let cell : ℕ = (a + shift) % longest_image in
    record {
      there = λ x y h. elim (cases_eq x a) [
        | inl same ↦
            let e : Some y ≡ Some b = sym h ∙ ap g same ∙ here in
            ap (λ n. get_or (set cells cell (Some b)) ((n + shift) % longest_image) None) same ∙ get_or-set_same cells cell (Some b) None room ∙ sym e
        | inr other ↦
            let before : f x ≡ Some y = sym (others x other) ∙ h in
            get_or-set_other cells cell ((x + shift) % longest_image) (Some b) None (free x y before) ∙ k.there x y before
      ];
      only = λ p y h. elim (cases_eq p cell) [
        | inl same ↦
            let e : Some b ≡ Some y = sym (get_or-set_same cells cell (Some b) None room) ∙ ap (λ n. get_or (set cells cell (Some b)) n None) (sym same) ∙ h in
            (a, sym same, here ∙ e)
        | inr other ↦
            let before : get_or cells p None ≡ Some y = sym (get_or-set_other cells cell p (Some b) None other) ∙ h in
            let o = k.only p y before in
            let apart : o.0 ≢ a = λ same. other (sym o.1 ∙ ap (λ n. (n + shift) % longest_image) same) in
            (o.0, o.1, others o.0 apart ∙ o.2)
      ];
    }

-- one byte over a map
eqb-same : (a b : ℕ) → a ≡ b → (a == b) ≡ true
eqb-same a b h = grind (arith, nat_tests)

over : (ℕ → Option ℕ) → ℕ → ℕ → ℕ → Option ℕ
over f a b x = cond (x == a) (Some b) (f x)

over_here : (f : ℕ → Option ℕ) (a b : ℕ) → over f a b a ≡ Some b
unfolding over
over_here f a b = ap (λ t. cond t (Some b) (f a)) (eqb-same a a refl)

over_other : (f : ℕ → Option ℕ) (a b x : ℕ) → x ≢ a → over f a b x ≡ f x
unfolding over
over_other f a b x h = ap (λ t. cond t (Some b) (f x)) (ne_eqb x a h)

over_some : (f : ℕ → Option ℕ) (a b x y : ℕ) → over f a b x ≡ Some y → (x ≡ a) ⊎ (f x ≡ Some y)
over_some f a b x y h = elim (cases_eq x a) [ inl same ↦ inl same | inr other ↦ inr (sym (over_other f a b x other) ∙ h) ]

-- the bytes of a block, at addresses whose cells are unused
pub keeps_written : (bytes : List ℕ) (shift : ℕ) (cells : List (Option ℕ)) (f g : ℕ → Option ℕ) (a from : ℕ) → from ≡ a + shift
    → ((k : ℕ) → k < length bytes → (from + k) % longest_image < length cells) → length bytes ≤ longest_image
    → ((x y k : ℕ) → f x ≡ Some y → k < length bytes → (x + shift) % longest_image ≢ (a + k + shift) % longest_image)
    → ((k : ℕ) → k < length bytes → g (a + k) ≡ slice_get bytes k) → ((x : ℕ) → (x < a) ⊎ (a + length bytes ≤ x) → g x ≡ f x)
    → Keeps shift cells f → Keeps shift (cells_written cells from bytes) g
unfolding cells_written
keeps_written [] shift cells f g a from is room few free inside outside k =
    keeps_same shift cells f g (λ x. elim (cases_lt x a) [ inl low ↦ outside x (inl low) | inr high ↦ outside x (inr (omega arith)) ]) k
keeps_written (byte ∷ bytes) shift cells f g a from is room few free inside outside k =
    let cell : from % longest_image ≡ (a + shift) % longest_image = ap (λ n. n % longest_image) is in
    let here : (a + shift) % longest_image < length cells = subst (λ n. n % longest_image < length cells) (let e : from + 0 ≡ a + shift = omega (arith, is) in e) (room 0 (omega arith)) in
    let unused : (x y : ℕ) → f x ≡ Some y → (x + shift) % longest_image ≢ (a + shift) % longest_image =
    λ x y h. subst (λ n. (x + shift) % longest_image ≢ n % longest_image) (let e : a + 0 + shift ≡ a + shift = omega arith in e) (free x y 0 h (omega arith)) in
    let one : Keeps shift (set cells ((a + shift) % longest_image) (Some byte)) (over f a byte) =
    keeps_one shift cells f (over f a byte) a byte here unused (over_here f a byte) (over_other f a byte) k in
    let here_too : Keeps shift (set cells (from % longest_image) (Some byte)) (over f a byte) = subst (λ n. Keeps shift (set cells n (Some byte)) (over f a byte)) (sym cell) one in
    keeps_written bytes shift (set cells (from % longest_image) (Some byte)) (over f a byte) g (a + 1) (from + 1) (omega (arith, is))
    (λ j within. subst (λ n. n < length (set cells (from % longest_image) (Some byte))) (let e : (from + suc j) % longest_image ≡ (from + 1 + j) % longest_image = ap (λ n. n % longest_image) (omega arith) in e)
    (subst (λ n. (from + suc j) % longest_image < n) (sym (length-set cells (from % longest_image) (Some byte))) (room (suc j) (omega arith))))
    (omega arith)
    (λ x y j h within. elim (over_some f a byte x y h) [
      | inl same ↦ subst (λ n. (n + shift) % longest_image ≢ (a + 1 + j + shift) % longest_image) (sym same)
          (subst (λ n. (a + shift) % longest_image ≢ n % longest_image) (let e : a + shift + (j + 1) ≡ a + 1 + j + shift = omega arith in e) (own_cell (a + shift) (j + 1) (omega arith) (omega arith)))
      | inr before ↦ subst (λ n. (x + shift) % longest_image ≢ n % longest_image) (let e : a + suc j + shift ≡ a + 1 + j + shift = omega arith in e) (free x y (suc j) before (omega arith))
    ])
    (λ j within. ap g (let e : a + 1 + j ≡ a + (suc j) = omega arith in e) ∙ inside (suc j) (omega arith))
    (λ x out. elim (cases_eq x a) [
      | inl same ↦ ap g same ∙ ap g (let e : a ≡ a + 0 = omega arith in e) ∙ inside 0 (omega arith) ∙ sym (over_here f a byte) ∙ ap (over f a byte) (sym same)
      | inr other ↦ outside x (elim out [ inl low ↦ inl (omega arith) | inr high ↦ inr (omega arith) ]) ∙ sym (over_other f a byte x other)
    ])
    here_too

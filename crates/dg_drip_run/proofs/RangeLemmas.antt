-- What is said of each number of a range, one after the other.
use Rattle.std.proofs.Common.{◌≡◌, ◌∙◌, ℕ, zero, suc, ◌+◌, List, [], ◌∷◌, ◌++◌, ap, sym, append_assoc, append-nil, arith}
use Rattle.std.specs.List.{flat_map, range_with_len}
use Rattle.std.proofs.lemmas.List.Concat.{flat_map-append}

pub counted : (a n : ℕ) → range_with_len a (n + 1) ≡ range_with_len a n ++ (a + n) ∷ []
counted a zero = let e : a ≡ a + 0 = omega arith in ap (λ (m : ℕ). m ∷ []) e
counted a (suc n) =
    let on : suc n + 1 ≡ suc (n + 1) = omega arith in
    let e : (a + 1) + n ≡ a + suc n = omega arith in
    ap (range_with_len a) on ∙ ap (λ (ms : List ℕ). a ∷ ms) (counted (a + 1) n ∙ ap (λ (m : ℕ). range_with_len (a + 1) n ++ m ∷ []) e)

pub each_more : {A : Type 0} (f : ℕ → List A) (n : ℕ) → flat_map f (range_with_len 0 n) ++ f n ≡ flat_map f (range_with_len 0 (n + 1))
each_more {A} f n =
    let here : 0 + n ≡ n = omega arith in
    sym (ap (flat_map f) (counted 0 n) ∙ (flat_map-append f (range_with_len 0 n) ((0 + n) ∷ [])
    ∙ ap (λ (xs : List A). flat_map f (range_with_len 0 n) ++ xs) (append-nil (f (0 + n)) ∙ ap f here)))

-- what is said of the numbers after the first k
pub each_rest : {A : Type 0} (f : ℕ → List A) (k d : ℕ) → (rest : List A) × (flat_map f (range_with_len 0 k) ++ rest ≡ flat_map f (range_with_len 0 (k + d)))
each_rest {A} f k zero = let here : k ≡ k + 0 = omega arith in ([], append-nil (flat_map f (range_with_len 0 k)) ∙ ap (λ n. flat_map f (range_with_len 0 n)) here)
each_rest {A} f k (suc d) =
    let r = each_rest f k d in
    let here : (k + d) + 1 ≡ k + suc d = omega arith in (
      r.0 ++ f (k + d),
      sym (append_assoc (flat_map f (range_with_len 0 k)) r.0 (f (k + d))) ∙ (ap (λ (xs : List A). xs ++ f (k + d)) r.1 ∙ (each_more f (k + d) ∙ ap (λ n. flat_map f (range_with_len 0 n)) here)),
    )

-- The items for numbers, one after the other.
use Rattle.std.proofs.Common.{◌≡◌, ℕ, ◌+◌, List, [], ◌++◌, refl, ap, sym, ◌∙◌, add-one, append_assoc}
use Rattle.std.proofs.lemmas.List.{append-nil}
use Rattle.dg_layout.specs.Layout.{each}

pub each-none : {A : Type 0} (f : ℕ → List A) → each f 0 ≡ []
unfolding each
each-none f = refl

pub each-more : {A : Type 0} (f : ℕ → List A) (n : ℕ) → each f (n + 1) ≡ each f n ++ f n
unfolding each
each-more f n = rw add-one refl

-- before a loop, and after one of its iterations
pub begun : {A : Type 0} (f : ℕ → List A) (first : List A) → first ≡ first ++ each f 0
begun {A = A} f first = sym (append-nil first) ∙ ap (λ (xs : List A). first ++ xs) (sym (each-none f))

pub grown : {A : Type 0} (f : ℕ → List A) (n : ℕ) (first now new : List A) → now ≡ first ++ each f n → new ≡ now ++ f n → new ≡ first ++ each f (n + 1)
grown {A = A} f n first now new h e =
    e ∙ ap (λ (xs : List A). xs ++ f n) h ∙ append_assoc first (each f n) (f n) ∙ ap (λ (xs : List A). first ++ xs) (sym (each-more f n))

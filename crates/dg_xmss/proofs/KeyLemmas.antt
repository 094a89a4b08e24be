-- The bytes of a public key.
use Rattle.std.proofs.Common.{◌≡◌, ℕ, ◌+◌, ◌-◌, ◌*◌, List, ◌∷◌, ◌++◌, length, take, drop, get_or, ap, sym, ◌∙◌, arith, take-append-drop, length-drop}
use Rattle.std.proofs.lemmas.List.{drop_more, drop-drop, take_all}
use Rattle.dg_xmss.specs.Functions.{to_byte}

front_four : (xs : List ℕ) → length xs ≡ 68 → xs ≡ get_or xs 0 0 ∷ get_or xs 1 0 ∷ get_or xs 2 0 ∷ get_or xs 3 0 ∷ drop 4 xs
front_four xs h =
    drop_more xs 0 0 (omega arith)
    ∙ ap (λ (ys : List ℕ). get_or xs 0 0 ∷ ys) (drop_more xs 1 0 (omega arith)
    ∙ ap (λ (ys : List ℕ). get_or xs 1 0 ∷ ys) (drop_more xs 2 0 (omega arith)
    ∙ ap (λ (ys : List ℕ). get_or xs 2 0 ∷ ys) (drop_more xs 3 0 (omega arith))))

fields : (xs root seed : List ℕ) → length xs ≡ 68 → root ≡ take (36 - 4) (drop 4 xs) → seed ≡ take (length xs - 36) (drop 36 xs) → drop 4 xs ≡ root ++ seed
fields xs root seed h e f =
    sym (take-append-drop 32 (drop 4 xs))
    ∙ ap (λ (ys : List ℕ). ys ++ drop 32 (drop 4 xs)) (sym e)
    ∙ ap (λ (ys : List ℕ). root ++ ys) (drop-drop 32 4 xs ∙ sym (f ∙ take_all (length xs - 36) (drop 36 xs) (omega (arith, length-drop 36 xs))))

pub key_read : (xs root seed : List ℕ) (number : ℕ) → length xs ≡ 68 → number ≡ 1
    → number ≡ get_or xs 0 0 * 16777216 + get_or xs 1 0 * 65536 + get_or xs 2 0 * 256 + get_or xs 3 0
    → root ≡ take (36 - 4) (drop 4 xs) → seed ≡ take (length xs - 36) (drop 36 xs) → xs ≡ to_byte 1 4 ++ root ++ seed
unfolding to_byte
key_read xs root seed number h one n e f =
    let a : get_or xs 0 0 ≡ 0 = omega arith in
    let b : get_or xs 1 0 ≡ 0 = omega arith in
    let c : get_or xs 2 0 ≡ 0 = omega arith in
    let d : get_or xs 3 0 ≡ 1 = omega arith in
    front_four xs h
    ∙ ap (λ (x : ℕ). x ∷ get_or xs 1 0 ∷ get_or xs 2 0 ∷ get_or xs 3 0 ∷ drop 4 xs) a
    ∙ ap (λ (x : ℕ). 0 ∷ x ∷ get_or xs 2 0 ∷ get_or xs 3 0 ∷ drop 4 xs) b
    ∙ ap (λ (x : ℕ). 0 ∷ 0 ∷ x ∷ get_or xs 3 0 ∷ drop 4 xs) c
    ∙ ap (λ (x : ℕ). 0 ∷ 0 ∷ 0 ∷ x ∷ drop 4 xs) d
    ∙ ap (λ (ys : List ℕ). 0 ∷ 0 ∷ 0 ∷ 1 ∷ ys) (fields xs root seed h e f)

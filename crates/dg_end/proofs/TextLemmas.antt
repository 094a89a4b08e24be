-- Lines that are appended one after another.
use Rattle.std.proofs.Common.{◌≡◌, List, [], ℕ, suc, ◌+◌, ◌-◌, ◌≤◌, ◌++◌, ap, ◌∙◌, arith, append_assoc}
use Rattle.std.specs.List.{flat_map, range_with_len}
use Rattle.dg_words.proofs.ListLemmas.{flat_map-range_more}

-- one line more
pub lines_more : (f : ℕ → List ℕ) (first before now : List ℕ) (k : ℕ) → 1 ≤ k → before ≡ first ++ flat_map f (range_with_len 1 (k - 1)) → now ≡ before ++ f k → now ≡ first ++ flat_map f (range_with_len 1 (k + 1 - 1))
lines_more f first before now k some e more =
    let at : k ≡ 1 + (k - 1) = omega arith in
    let count : suc (k - 1) ≡ k + 1 - 1 = omega arith in
    let lines = flat_map f (range_with_len 1 (k - 1)) in
    more
    ∙ ap (λ (x : List ℕ). x ++ f k) e
    ∙ append_assoc first lines (f k)
    ∙ ap (λ (x : List ℕ). first ++ x) (ap (λ (j : ℕ). lines ++ f j) at ∙ flat_map-range_more f 1 (k - 1) ∙ ap (λ (m : ℕ). flat_map f (range_with_len 1 m)) count)

-- a text after nothing
pub behind_none : (before line now text : List ℕ) → before ≡ [] → now ≡ before ++ line → line ≡ text → now ≡ text
behind_none before line now text none e f = e ∙ ap (λ (x : List ℕ). x ++ line) none ∙ f

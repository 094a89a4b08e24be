-- What the whole lines of bytes are, defined by the bytes as a whole (docs/SCRIPTS.md, "The script").
use Rattle.std.specs.Prelude.{◌≡◌, ◌≢◌, ◌⊎◌, ℕ, List, [], ◌∷◌, ◌++◌}
use Rattle.std.specs.List.{AllByRecursion}

-- The longest prefix of the bytes that is empty or ends in LF: no LF stands after it.
pub record AreWholeLines (bytes front : List ℕ) : Type 0 where
  pub behind : List ℕ
  pub parts : bytes ≡ front ++ behind
  pub ended : (front ≡ []) ⊎ ((before : List ℕ) × (front ≡ before ++ 10 ∷ []))
  pub longest : AllByRecursion (λ c. c ≢ 10) behind

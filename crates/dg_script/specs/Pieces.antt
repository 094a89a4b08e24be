-- What the words of a text are, stated for the text as a whole (docs/SCRIPTS.md, "The script").
use Rattle.std.specs.Prelude.{◌≡◌, ◌≢◌, ◌⊎◌, ℕ, List, [], ◌∷◌, ◌++◌}
use Rattle.std.specs.List.{AllByRecursion}

-- nothing but spaces, and no space
abbrev pub AreSpaces : List ℕ → Type 0
AreSpaces text = AllByRecursion (λ c. c ≡ 32) text

abbrev pub HasNoSpace : List ℕ → Type 0
HasNoSpace text = AllByRecursion (λ c. c ≢ 32) text

-- the text is at its end, or continues with a space
abbrev pub GoesOnSpaced : List ℕ → Type 0
GoesOnSpaced text = (text ≡ []) ⊎ ((behind : List ℕ) × (text ≡ 32 ∷ behind))

-- The text is spaces, the first word, and what is after it. The word is not empty, has no space,
-- and is ended by a space or by the end of the text.
pub record BeginsWith (text gap word behind : List ℕ) : Type 0 where
  pub parts : text ≡ gap ++ (word ++ behind)
  pub spaces : AreSpaces gap
  pub some : word ≢ []
  pub whole : HasNoSpace word
  pub ended : GoesOnSpaced behind

-- The words of a text, in their order: between them, before them and after them it has nothing but spaces.
unfoldable pub AreWords : List ℕ → List (List ℕ) → Type 0
AreWords text [] = AreSpaces text
AreWords text (word ∷ words) = (gap behind : List ℕ) × BeginsWith text gap word behind × AreWords behind words

-- Lines and names (docs/SCRIPTS.md, "The script").
use Rattle.std.specs.Prelude.{◌≡◌, ℕ, ◌==◌, ◌&&◌, ◌||◌, ◌⊎◌, nat_le, Bool, List, [], ◌∷◌, ◌++◌, length}
use Rattle.std.specs.Char.{is_ascii_alphanumeric}
use Rattle.std.specs.List.{list_all}

-- a text that is ended by LF, or by CR and LF
abbrev pub IsEnded : List ℕ → List ℕ → Type 0
IsEnded text line = (line ≡ text ++ 10 ∷ []) ⊎ (line ≡ text ++ 13 ∷ 10 ∷ [])

-- a letter, a digit, `_`, `-` or `.`
abbrev pub is_name_byte : ℕ → Bool
is_name_byte c = is_ascii_alphanumeric c || c == 95 || c == 45 || c == 46

-- 1 to 16 such bytes
abbrev pub spells_name : List ℕ → Bool
spells_name bytes = nat_le 1 (length bytes) && nat_le (length bytes) 16 && list_all is_name_byte bytes

-- A word as it is shown at a terminal: a control character as `\x` and two hex digits. A control character is a byte below
-- 32, 127, or, in UTF-8, 194 with a byte below 160 after it (ECMA-48, 5.2 and 5.3).
use Rattle.std.specs.Prelude.{ℕ, ◌==◌, ◌||◌, nat_lt, Bool, if◌then◌else◌, List, [], ◌∷◌, ◌++◌}
use Rattle.dg_base.specs.Hexadecimal.{hex_text}

abbrev pub is_control : ℕ → Bool
is_control c = nat_lt c 32 || c == 127

abbrev pub escaped_byte : ℕ → List ℕ
escaped_byte c = 92 ∷ 120 ∷ hex_text (c ∷ [])

-- a byte after another one; 194 is shown with the byte after it
abbrev pub shown_byte : (before c : ℕ) → List ℕ
shown_byte before c =
    if before == 194 then (if nat_lt c 160 then escaped_byte c else 194 ∷ c ∷ [])
    else if c == 194 then []
    else if is_control c then escaped_byte c
    else c ∷ []

unfoldable pub shown_after : (before : ℕ) → List ℕ → List ℕ
shown_after before [] = []
shown_after before (c ∷ cs) = shown_byte before c ++ shown_after c cs

abbrev pub shown : List ℕ → List ℕ
shown word = shown_after 0 word

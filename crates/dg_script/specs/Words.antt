-- The words of a line, and the words of the program (docs/SCRIPTS.md, "The script").
use Rattle.std.specs.Prelude.{ℕ, ◌==◌, nat_eq, Bool, if◌then◌else◌, List, [], ◌∷◌, ◌++◌, Option, Some, None, option_map}
use Rattle.std.specs.Prelude.{Result, Ok, Err}
use Rattle.std.specs.Cmp.Lexicographic.{pointwise}
use Rattle.std.specs.List.{flat_map}
use Rattle.dg_script.specs.Results.{each_as}
use Rattle.dg_script.specs.declared.fault.LineFault.{LineFault}
use Rattle.dg_script.specs.declared.fault.LineFault.TheVariants.{Few, Many}

-- the bytes up to the first space, and the words after it
pub record Split : Type 0 where
  pub front : List ℕ
  pub behind : List (List ℕ)

-- a word, unless it is empty, and the words after it
abbrev pub with_word : List ℕ → List (List ℕ) → List (List ℕ)
with_word [] ws = ws
with_word (c ∷ cs) ws = (c ∷ cs) ∷ ws

unfoldable pub split_of : List ℕ → Split
split_of [] = record { front = []; behind = [] }
split_of (c ∷ cs) =
    let rest = split_of cs in
    if c == 32 then record { front = []; behind = with_word rest.front rest.behind }
    else record { front = c ∷ rest.front; behind = rest.behind }

-- the words of a text: its longest pieces without a space
unfoldable pub words_of : List ℕ → List (List ℕ)
words_of text = with_word (split_of text).front (split_of text).behind

-- two byte lists are the same
abbrev pub same : List ℕ → List ℕ → Bool
same = pointwise nat_eq

-- the bytes up to the first colon, and those after it
unfoldable pub halves_of : List ℕ → Option (List ℕ × List ℕ)
halves_of [] = None
halves_of (c ∷ cs) = if c == 58 then Some ([], cs) else option_map (λ h. (c ∷ h.0, h.1)) (halves_of cs)

-- words, each after a space
abbrev pub behind_spaces : List (List ℕ) → List ℕ
behind_spaces ws = flat_map (λ w. 32 ∷ w) ws

-- words with one space between them
abbrev pub spaced : List (List ℕ) → List ℕ
spaced [] = []
spaced (w ∷ ws) = w ++ behind_spaces ws

-- Exactly one field, exactly two, and so on. Fewer or more are a fault.
abbrev pub one_of : List (List ℕ) → Result (List ℕ) LineFault
one_of [] = Err Few
one_of (a ∷ []) = Ok a
one_of (a ∷ b ∷ more) = Err Many

abbrev pub two_of : List (List ℕ) → Result (List ℕ × List ℕ) LineFault
two_of [] = Err Few
two_of (a ∷ more) = each_as (λ b. (a, b)) (one_of more)

abbrev pub three_of : List (List ℕ) → Result (List ℕ × List ℕ × List ℕ) LineFault
three_of [] = Err Few
three_of (a ∷ more) = each_as (λ t. (a, t.0, t.1)) (two_of more)

abbrev pub four_of : List (List ℕ) → Result (List ℕ × List ℕ × List ℕ × List ℕ) LineFault
four_of [] = Err Few
four_of (a ∷ more) = each_as (λ t. (a, t.0, t.1, t.2)) (three_of more)

abbrev pub five_of : List (List ℕ) → Result (List ℕ × List ℕ × List ℕ × List ℕ × List ℕ) LineFault
five_of [] = Err Few
five_of (a ∷ more) = each_as (λ t. (a, t.0, t.1, t.2, t.3)) (four_of more)

abbrev pub six_of : List (List ℕ) → Result (List ℕ × List ℕ × List ℕ × List ℕ × List ℕ × List ℕ) LineFault
six_of [] = Err Few
six_of (a ∷ more) = each_as (λ t. (a, t.0, t.1, t.2, t.3, t.4)) (five_of more)

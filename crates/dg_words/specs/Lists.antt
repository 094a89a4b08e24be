-- Lists that are given by a function of the position, and padded lists (in addition to the lists of std).
use Rattle.std.specs.Prelude.{ℕ, ◌-◌, List, ◌++◌, length, map, replicate}
use Rattle.std.specs.List.{range_with_len, flat_map}

-- the values at 0 to n − 1, in this order
abbrev pub tabulate : {A : Type 0} → ℕ → (ℕ → A) → List A
tabulate n f = map f (range_with_len 0 n)

-- the list, padded with x to n elements
unfoldable pub padded : ℕ → ℕ → List ℕ → List ℕ
padded n x xs = xs ++ replicate (n - length xs) x

-- the lists one after the other
abbrev pub concatenated : List (List ℕ) → List ℕ
concatenated xss = flat_map (λ xs. xs) xss

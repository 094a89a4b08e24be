-- Finite sets of numbers, in std's words `empty`, `contains`, `insert`, `remove`, `union`, `difference` and `len`.
use Rattle.std.specs.Prelude.{◌≡◌, ℕ, ◌<◌, ◌≤◌, min, Bool, true, ◌&&◌, Option, Some, None, List, [], ◌∷◌}
use Rattle.std.specs.List.{range_with_len}
use Rattle.std.specs.Ordering.{nat_cmp}
use Rattle.std.specs.FinSet as set

-- a finite set of numbers
abbrev pub Numbers : Type 0
Numbers = set.FinSet nat_cmp

-- the numbers below n
unfoldable pub below : ℕ → Numbers
below n = set.from_list (range_with_len 0 n)

-- each number of the set is below n
abbrev pub AllBelow : ℕ → Numbers → Type 0
AllBelow n s = (q : ℕ) → set.contains s q ≡ true → q < n

-- n is in the set, and nothing smaller is
pub record IsLeast (s : Numbers) (n : ℕ) : Type 0 where
  pub member : set.contains s n ≡ true
  pub no_smaller : (q : ℕ) → set.contains s q ≡ true → n ≤ q

-- the smaller of a number and another, if there is another
abbrev pub smaller : ℕ → Option ℕ → ℕ
smaller x None = x
smaller x (Some y) = min x y

-- the smallest number of a list
abbrev pub smallest : List ℕ → Option ℕ
smallest [] = None
smallest (x ∷ xs) = Some (smaller x (smallest xs))

-- the smallest number of a set, if it is not empty
unfoldable pub least : Numbers → Option ℕ
least s = smallest (set.items s)

-- whether two sets have the same numbers
unfoldable pub are_same_sets : Numbers → Numbers → Bool
are_same_sets s t = set.is_subset s t && set.is_subset t s

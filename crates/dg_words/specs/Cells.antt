-- A part of a list, and one list written over another from an offset on (docs/FLASH.md, "The chip"). Both are opaque in proofs:
-- the lists are long, and `proofs/CellLemmas.antt` has what follows.
use Rattle.std.specs.Prelude.{ℕ, ◌+◌, ◌<◌, List, ◌++◌, length, take, drop, slice_index}

-- the n elements from offset `at` on
unfoldable pub part : List ℕ → ℕ → ℕ → List ℕ
part xs at n = take n (drop at xs)

-- xs, with bs written over it from offset `at` on
unfoldable pub overwritten : List ℕ → ℕ → List ℕ → List ℕ
overwritten xs at bs = take at xs ++ bs ++ drop (at + length bs) xs

-- each element is a byte
abbrev pub AreBytes : List ℕ → Type 0
AreBytes xs = (k : ℕ) → slice_index xs k < 256

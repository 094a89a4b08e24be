-- A set of numbers as bytes: number n is bit 7 − (n mod 8) of byte n / 8, so the first bit is the highest of the first byte
-- (the form in which a request names packets: docs/PARTS.md, "The codec").
use Rattle.std.specs.Prelude.{◌≡◌, ℕ, ◌+◌, ◌-◌, ◌*◌, ◌/◌, ◌%◌, ◌≤◌, ◌<◌, Bool, false, ◌==◌, if◌then◌else◌, List, map, filter}
use Rattle.std.specs.Prelude.{length, slice_index}
use Rattle.std.specs.List.{range_with_len}
use Rattle.std.specs.Int.{bit_at}
use Rattle.std.specs.FinSet as set
use Rattle.dg_bits.specs.Sets.{Numbers}

-- the bit of number n is set
unfoldable pub is_marked : List ℕ → ℕ → Bool
is_marked bytes n = bit_at (slice_index bytes (n / 8)) (7 - n % 8) == 1

-- the numbers whose bits are set
unfoldable pub numbers_of : List ℕ → Numbers
numbers_of bytes = set.from_list (filter (is_marked bytes) (range_with_len 0 (8 * length bytes)))

-- 1 if the number is in the set
abbrev pub bit_in_set : Numbers → ℕ → ℕ
bit_in_set s n = if set.contains s n then 1 else 0

-- byte k has a bit for each number from 8k to 8k + 7, the highest first
unfoldable pub byte_of : Numbers → ℕ → ℕ
byte_of s k =
    128 * bit_in_set s (8 * k) + 64 * bit_in_set s (8 * k + 1) + 32 * bit_in_set s (8 * k + 2) + 16 * bit_in_set s (8 * k + 3)
    + 8 * bit_in_set s (8 * k + 4) + 4 * bit_in_set s (8 * k + 5) + 2 * bit_in_set s (8 * k + 6) + bit_in_set s (8 * k + 7)

-- the set as this many bytes
unfoldable pub byte_form : ℕ → Numbers → List ℕ
byte_form width s = map (byte_of s) (range_with_len 0 width)

-- nine bytes with no bits but those of numbers below `size`
pub record IsPacked (size : ℕ) (bytes : List ℕ) : Type 0 where
  pub width : length bytes ≡ 9
  pub bytes_fit : (k : ℕ) → slice_index bytes k < 256
  pub within : (n : ℕ) → size ≤ n → is_marked bytes n ≡ false
  pub not_empty : 1 ≤ size
  pub not_over : size ≤ 72

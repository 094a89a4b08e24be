-- Numbers as decimal digits (docs/SCRIPTS.md, "The script").
use Rattle.std.specs.Prelude.{ℕ, ◌+◌, ◌-◌, ◌*◌, ◌^◌, ◌==◌, ◌&&◌, ◌||◌, not, nat_lt, Bool, List, length, slice_index, Option, Some}
use Rattle.std.specs.Prelude.{None, if◌then◌else◌}
use Rattle.std.specs.Char.{is_ascii_digit}
use Rattle.std.specs.Str.{all_ascii_digits}
use Rattle.std.specs.Str.Parse.{digits_value}

-- `0`, or digits that do not begin with it
abbrev pub is_numeral : List ℕ → Bool
is_numeral bytes = all_ascii_digits bytes && nat_lt 0 (length bytes) && (length bytes == 1 || not (slice_index bytes 0 == 48))

-- the number that such bytes encode, if it is below 2 ^ 32
unfoldable pub number_of : List ℕ → Option ℕ
number_of bytes = if is_numeral bytes && nat_lt (digits_value 10 bytes) (2 ^ 32) then Some (digits_value 10 bytes) else None

-- n with one more digit after it, if c is a digit and the number is below 2 ^ 32
abbrev pub with_digit : ℕ → ℕ → Option ℕ
with_digit n c = if is_ascii_digit c && nat_lt (n * 10 + (c - 48)) (2 ^ 32) then Some (n * 10 + (c - 48)) else None

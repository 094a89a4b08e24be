-- Bits that are cleared one after another, as counters and gates on flash are kept (docs/FLASH.md, "One bit").
use Rattle.std.specs.Prelude.{ℕ, ◌-◌, ◌*◌, ◌/◌, ◌%◌, ◌^◌, min, List, slice_index}
use Rattle.std.specs.Int.{bit_at}
use Rattle.dg_words.specs.Lists.{tabulate}

-- this many bytes of bits, of which the first n are cleared and the others are set, the most
-- significant bit of a byte first
unfoldable pub cleared_bits : ℕ → ℕ → List ℕ
cleared_bits bytes n = tabulate bytes (λ j. 2 ^ (8 - min 8 (n - 8 * j)) - 1)

-- bit i of bytes, the most significant bit of a byte first
abbrev pub bit_of : List ℕ → ℕ → ℕ
bit_of bytes i = bit_at (slice_index bytes (i / 8)) (7 - i % 8)

-- The map from addresses to bytes that records give, and its image (Intel Hexadecimal Object File Format Specification,
-- revision A).
use Rattle.std.specs.Prelude.{ℕ, ◌+◌, ◌-◌, ◌^◌, nat_le, min, max, Bool, if◌then◌else◌, List, [], ◌∷◌, length, slice_get, Option}
use Rattle.std.specs.Prelude.{None, is_some, unwrap_or}
use Rattle.std.specs.List.{list_any, range_with_len}
use Rattle.std.specs.Option.{option_or}
use Rattle.dg_words.specs.Lists.{tabulate}
use Rattle.dg_ihex.specs.Sizes.{gap_byte}

-- bytes, one after another from an address on
pub record Block : Type 0 where
  pub address : ℕ
  pub bytes : List ℕ

-- the byte that a block gives at an address
abbrev pub block_byte : Block → ℕ → Option ℕ
block_byte block address = if nat_le block.address address then slice_get block.bytes (address - block.address) else None

-- the byte that blocks give at an address: their map from addresses to bytes
unfoldable pub byte_at : List Block → ℕ → Option ℕ
byte_at [] address = None
byte_at (block ∷ blocks) address = option_or (block_byte block address) (byte_at blocks address)

-- whether a block has an address that is given before
abbrev pub overlaps : List Block → Block → Bool
overlaps before block = list_any (λ at. is_some (byte_at before at)) (range_with_len block.address (length block.bytes))

-- the lowest address, 2 ^ 32 if there is none
unfoldable pub lowest_of : List Block → ℕ
lowest_of [] = 2 ^ 32
lowest_of (block ∷ blocks) = min block.address (lowest_of blocks)

-- the address after the highest, 0 if there is none
unfoldable pub past_blocks : List Block → ℕ
past_blocks [] = 0
past_blocks (block ∷ blocks) = max (block.address + length block.bytes) (past_blocks blocks)

-- the highest address minus the lowest, plus 1
abbrev pub span_of : List Block → ℕ
span_of blocks = past_blocks blocks - lowest_of blocks

-- the image: the lowest address is byte 0, and gaps become FF
unfoldable pub image_of_blocks : List Block → List ℕ
image_of_blocks blocks = tabulate (span_of blocks) (λ k. unwrap_or (byte_at blocks (lowest_of blocks + k)) gap_byte)

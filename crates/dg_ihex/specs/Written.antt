-- The HEX file of an image (Intel Hexadecimal Object File Format Specification, revision A).
use Rattle.std.specs.Prelude.{ℕ, ◌+◌, ◌-◌, ◌*◌, ◌/◌, ◌%◌, ◌==◌, ◌&&◌, nat_lt, if◌then◌else◌, List, [], ◌∷◌, ◌++◌, length, sum}
use Rattle.std.specs.Prelude.{map, take, drop}
use Rattle.std.specs.Char.{to_ascii_uppercase}
use Rattle.std.specs.List.{flat_map, range_with_len}
use Rattle.dg_base.specs.Hexadecimal.{hex_text}
use Rattle.dg_ihex.specs.Sizes.{segment, piece_bytes}

-- the byte that makes the sum of bytes 0 modulo 256
abbrev pub record_checksum : List ℕ → ℕ
record_checksum bytes = (256 - sum bytes % 256) % 256

abbrev pub with_checksum : List ℕ → List ℕ
with_checksum bytes = bytes ++ record_checksum bytes ∷ []

-- a record of a type, with its offset and its data, without its checksum
abbrev pub fields_of_record : ℕ → ℕ → List ℕ → List ℕ
fields_of_record kind offset bytes = length bytes ∷ offset / 256 ∷ offset % 256 ∷ kind ∷ bytes

-- the line of a record
unfoldable pub line_of_record : ℕ → ℕ → List ℕ → List ℕ
line_of_record kind offset bytes =
    58 ∷ map to_ascii_uppercase (hex_text (with_checksum (fields_of_record kind offset bytes)))

-- a base, in units of 65,536
abbrev pub base_line : ℕ → List ℕ
base_line units = line_of_record 4 0 (units / 256 ∷ units % 256 ∷ [])

-- The line of a new base comes before each byte whose address is a positive multiple of 65,536.
abbrev pub base_lines : ℕ → List (List ℕ)
base_lines k = if k * piece_bytes % segment == 0 && nat_lt 0 k then base_line (k * piece_bytes / segment) ∷ [] else []

abbrev pub lines_at : List ℕ → ℕ → List (List ℕ)
lines_at bytes k =
    let at = k * piece_bytes in base_lines k ++ line_of_record 0 (at % segment) (take piece_bytes (drop at bytes)) ∷ []

abbrev pub hex_lines : List ℕ → List (List ℕ)
hex_lines bytes =
    let pieces = (length bytes + (piece_bytes - 1)) / piece_bytes in
    flat_map (lines_at bytes) (range_with_len 0 pieces) ++ line_of_record 1 0 [] ∷ []

-- the file
unfoldable pub written_file : List ℕ → List ℕ
written_file bytes = flat_map (λ text. text ++ 10 ∷ []) (hex_lines bytes)

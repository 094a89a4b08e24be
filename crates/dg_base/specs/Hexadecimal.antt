-- Bytes as hex digits, two for each byte, the high four bits first (docs/SCRIPTS.md, "The script").
use Rattle.std.specs.Prelude.{ℕ, ◌+◌, ◌-◌, ◌*◌, ◌/◌, ◌%◌, nat_lt, Bool, List, [], ◌∷◌, Option, Some, None, is_some, if◌then◌else◌}
use Rattle.std.specs.Int.{is_in_range}

-- the lower case digit of a number below 16
abbrev pub hex_digit : ℕ → ℕ
hex_digit v = if nat_lt v 10 then 48 + v else 87 + v

-- the lower case digits of bytes
unfoldable pub hex_text : List ℕ → List ℕ
hex_text [] = []
hex_text (byte ∷ bytes) = hex_digit (byte / 16) ∷ hex_digit (byte % 16) ∷ hex_text bytes

-- the value of a digit, `0` to `9`, `A` to `F` or `a` to `f`
abbrev pub hex_value : ℕ → Option ℕ
hex_value c =
    if is_in_range 48 57 c then Some (c - 48)
    else if is_in_range 65 70 c then Some (c - 55)
    else if is_in_range 97 102 c then Some (c - 87)
    else None

abbrev pub is_hex_digit : ℕ → Bool
is_hex_digit c = is_some (hex_value c)

-- the byte of two digits, followed by the bytes of the digits after them
abbrev pub onto_bytes : Option ℕ → Option ℕ → Option (List ℕ) → Option (List ℕ)
onto_bytes (Some high) (Some low) (Some bytes) = Some ((high * 16 + low) ∷ bytes)
onto_bytes (Some high) (Some low) None = None
onto_bytes (Some high) None rest = None
onto_bytes None low rest = None

-- the bytes that digits encode, if they are pairs of digits
unfoldable pub hex_bytes : List ℕ → Option (List ℕ)
hex_bytes [] = Some []
hex_bytes (digit ∷ []) = None
hex_bytes (high ∷ low ∷ digits) = onto_bytes (hex_value high) (hex_value low) (hex_bytes digits)

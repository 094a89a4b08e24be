-- The text by which fields are written, each after a space (docs/SCRIPTS.md, "The script").
use Rattle.std.specs.Prelude.{◌≡◌, ℕ, List, ◌∷◌, length, take}
use Rattle.std.specs.List.{flat_map}
use Rattle.std.specs.Fmt.{decimal}
use Rattle.std.specs.Int.{to_be_bytes, w16}
use Rattle.dg_base.specs.Hexadecimal.{hex_text}
use Rattle.dg_script.specs.Spelling.{content_text}
use Rattle.dg_lines.specs.declared.spelling.Field.{Field}
use Rattle.dg_lines.specs.declared.spelling.Field.TheVariants as field

-- the text of a field
abbrev pub field_text : Field → List ℕ
field_text (field.Small n) = decimal n
field_text (field.Number n) = decimal n
field_text (field.Word word) = word.now
field_text (field.Crc crc) = hex_text (to_be_bytes w16 crc)
field_text (field.Digits bytes) = hex_text bytes.now
field_text (field.Content bytes) = content_text bytes.now

-- fields, each after a space
abbrev pub fields_text : List Field → List ℕ
fields_text fields = flat_map (λ f. 32 ∷ field_text f) fields

-- some bytes are a prefix of others
abbrev pub IsPrefixOf : (front whole : List ℕ) → Type 0
IsPrefixOf front whole = take (length front) whole ≡ front

-- What a network profile reads of a TOML document, as `toml` defines documents (docs/COMMANDS.md, "Serve").
use Rattle.std.specs.Prelude.{ℕ, ◌&&◌, nat_le, if◌then◌else◌, ℤ, pos, negsuc, List, [], ◌∷◌, Option, Some, None, option_map}
use Rattle.std.specs.Prelude.{option_and_then}
use Rattle.std.specs.Str.{is_utf8}
use Rattle.toml.specs.Data.{Data, Items, no_items, item, Members, no_members, member, as_integer, as_array, get_member}
use Rattle.toml.specs.Parse.{parse_document}

-- the document that bytes encode, if `toml` reads them
unfoldable pub document_of : List ℕ → Option Members
document_of bytes = if is_utf8 bytes then parse_document bytes else None

-- the keys of a document
abbrev pub keys_of : Members → List (List ℕ)
keys_of no_members = []
keys_of (member key value rest) = key ∷ keys_of rest

-- the items of an array as a list
abbrev pub list_of : Items → List Data
list_of no_items = []
list_of (item value rest) = value ∷ list_of rest

-- the whole number at a key, and the array
abbrev pub integer_at : List ℕ → Members → Option ℤ
integer_at key document = option_and_then as_integer (get_member key document)

abbrev pub array_at : List ℕ → Members → Option Items
array_at key document = option_and_then as_array (get_member key document)

-- a whole number, if it is in a range
abbrev pub number_in_range : (least most : ℕ) → ℤ → Option ℕ
number_in_range least most (pos n) = if nat_le least n && nat_le n most then Some n else None
number_in_range least most (negsuc n) = None

-- the two items of an array of exactly two
abbrev pub two_array_items : Items → Option (Data × Data)
two_array_items (item a (item b no_items)) = Some (a, b)
two_array_items _ = None

-- all the values of a list, if no value is missing
abbrev pub all_of : {A : Type 0} → List (Option A) → Option (List A)
all_of [] = Some []
all_of (None ∷ rest) = None
all_of (Some x ∷ rest) = option_map (λ xs. x ∷ xs) (all_of rest)

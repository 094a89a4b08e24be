-- Whether a page is a descriptor, as a test (docs/IMAGES.md, "Objects and descriptors").
use Rattle.std.specs.Prelude.{ℕ, ◌==◌, ◌&&◌, nat_le, nat_lt, Bool, if◌then◌else◌, List, [], ◌∷◌, take, drop, slice_index}
use Rattle.std.specs.List.{list_all}
use Rattle.std.specs.Int.{from_be_bytes, w32}
use Rattle.std.specs.Str.{bytes_eq}
use Rattle.dg_base.specs.Texts.{spells_name}
use Rattle.dg_object.specs.Sizes.{most_bytes, slots, head_size, name_size}
use Rattle.dg_object.specs.Object.{head_of, pages_for}
use Rattle.dg_object.specs.Descriptor.{Details, crcs_end}

-- the bytes before the first 0
unfoldable pub up_to_zero : List ℕ → List ℕ
up_to_zero [] = []
up_to_zero (c ∷ cs) = if c == 0 then [] else c ∷ up_to_zero cs

-- the fields that a page has if it is a descriptor
abbrev pub fields_in : List ℕ → Details
fields_in page =
    record {
      image = slice_index page 2;
      version = from_be_bytes w32 (take 4 (drop 4 page));
      pages = slice_index page 3;
      length = from_be_bytes w32 (take 4 (drop 8 page));
      name = up_to_zero (take name_size (drop 12 page));
    }

abbrev pub fields_fit : Details → Bool
fields_fit d =
    nat_lt d.image slots && nat_le 1 d.version && nat_le 1 d.length && nat_le d.length most_bytes
    && (d.pages == pages_for d.length) && spells_name d.name

-- the fields are in their ranges, the head spells them, and all after the CRCs is 0xFF
unfoldable pub is_descriptor : List ℕ → Bool
is_descriptor page =
    let d = fields_in page in
    fields_fit d && bytes_eq (take head_size page) (head_of d.image d.pages d.version d.length d.name)
    && list_all (λ b. b == 255) (drop (crcs_end d.pages) page)

-- the page is the descriptor of this image and version, with this many pages
abbrev pub describes : List ℕ → (image version pages : ℕ) → Bool
describes page image version pages =
    let d = fields_in page in
    is_descriptor page && (d.image == image) && (d.version == version) && (d.pages == pages)

-- What a page says as a descriptor (docs/IMAGES.md, "Objects and descriptors").
use Rattle.std.specs.Prelude.{◌≡◌, ℕ, ◌+◌, ◌-◌, ◌*◌, ◌^◌, ◌<◌, ◌≤◌, IsTrue, List, length, take, slice_index}
use Rattle.dg_base.specs.Texts.{spells_name}
use Rattle.dg_object.specs.Sizes.{most_bytes, slots, head_size}
use Rattle.dg_object.specs.Object.{Row, head_of, pages_for}

-- the fields of a descriptor
pub record Details : Type 0 where
  pub image : ℕ
  pub version : ℕ
  pub pages : ℕ
  pub length : ℕ
  pub name : List ℕ

-- the first two bytes are `DG`
pub record HasTag (head : List ℕ) : Type 0 where
  pub first : slice_index head 0 ≡ 68
  pub second : slice_index head 1 ≡ 71

-- each field is in its range
pub record DetailsInRange (d : Details) : Type 0 where
  pub image : d.image < slots
  pub version : 1 ≤ d.version
  pub version_fits : d.version < 2 ^ 32
  pub some : 1 ≤ d.length
  pub fits : d.length ≤ most_bytes
  pub pages : d.pages ≡ pages_for d.length
  pub name : IsTrue (spells_name d.name)

-- the bytes spell these fields, which are in their ranges
pub record IsHead (head : List ℕ) (d : Details) : Type 0 where
  pub spelled : head ≡ head_of d.image d.pages d.version d.length d.name
  pub range : DetailsInRange d

-- where the CRCs of the data pages end, two bytes each
abbrev pub crcs_end : ℕ → ℕ
crcs_end pages = head_size + 2 * (pages - 1)

-- the bytes of a page from `at` on are 0xFF wherever they are past the CRC of the last page
abbrev pub RestFits : ℕ → ℕ → List ℕ → Type 0
RestFits pages at piece = (k : ℕ) → k < length piece → crcs_end pages ≤ at + k → slice_index piece k ≡ 255

-- a page is a descriptor of these fields
pub record IsDescriptor (page : List ℕ) (d : Details) : Type 0 where
  pub head : IsHead (take head_size page) d
  pub rest : RestFits d.pages 0 page

-- what the descriptor of a row says
abbrev pub details : Row → Details
details row = record {
  image = row.image;
  version = row.version;
  pages = pages_for (length row.bytes);
  length = length row.bytes;
  name = row.name;
}

-- the CRC that a descriptor keeps of data page p
abbrev pub crc_in : List ℕ → ℕ → ℕ
crc_in page p = 256 * slice_index page (26 + 2 * p) + slice_index page (27 + 2 * p)

-- a page is the descriptor of this image and version, with this many pages
abbrev pub Describes : List ℕ → (image version pages : ℕ) → Type 0
Describes page image version pages = (d : Details) × IsDescriptor page d × (d.image ≡ image) × (d.version ≡ version)
    × (d.pages ≡ pages)

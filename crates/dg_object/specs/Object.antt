-- An image as the pages that are stored and sent: its descriptor, and then its bytes (docs/IMAGES.md, "Objects and
-- descriptors").
use Rattle.std.specs.Prelude.{ℕ, ◌+◌, ◌-◌, ◌*◌, ◌/◌, ◌^◌, ◌<◌, ◌≤◌, IsTrue, List, ◌∷◌, ◌++◌, length, take, drop, suc, zero}
use Rattle.std.specs.List.{flat_map, range_with_len}
use Rattle.std.specs.Int.{to_be_bytes, w16, w32}
use Rattle.dg_words.specs.Cells.{AreBytes}
use Rattle.dg_words.specs.Lists.{tabulate, padded, concatenated}
use Rattle.dg_base.specs.Crc.{crc_of}
use Rattle.dg_base.specs.Texts.{spells_name}
use Rattle.dg_object.specs.Sizes.{page_size, most_bytes, slots, name_size}

-- one version of one image: what an operator injects
pub record Row : Type 0 where
  pub image : ℕ
  pub version : ℕ
  pub name : List ℕ
  pub bytes : List ℕ

abbrev pub row_of : (image version : ℕ) (name bytes : List ℕ) → Row
row_of image version name bytes = record { image = image; version = version; name = name; bytes = bytes }

-- what a row may be: the image of a slot, a version from 1 on, a name, and at least one byte
pub record IsRow (row : Row) : Type 0 where
  pub image : row.image < slots
  pub version : 1 ≤ row.version
  pub version_fits : row.version < 2 ^ 32
  pub name : IsTrue (spells_name row.name)
  pub some : 1 ≤ length row.bytes
  pub fits : length row.bytes ≤ most_bytes
  pub bytes : AreBytes row.bytes

-- the pages of an object with this many bytes: the descriptor, and a page for each page's bytes begun
abbrev pub pages_for : ℕ → ℕ
pages_for len = 1 + (len + (page_size - 1)) / page_size

-- page p, from 1 on, holds the bytes after those of p − 1 pages, the last page filled with 0xFF
abbrev pub data_page : List ℕ → ℕ → List ℕ
data_page bytes p = padded page_size 255 (take page_size (drop ((p - 1) * page_size) bytes))

-- the first 28 bytes of a descriptor: `DG`, image, pages, version, length, and the name, filled with 0
abbrev pub head_of : (image pages version len : ℕ) → List ℕ → List ℕ
head_of image pages version len name =
    68 ∷ 71 ∷ image ∷ pages ∷ to_be_bytes w32 version ++ to_be_bytes w32 len ++ padded name_size 0 name

-- the CRCs of the first n data pages, two bytes each
abbrev pub crcs_to : List ℕ → ℕ → List ℕ
crcs_to bytes n = flat_map (λ p. to_be_bytes w16 (crc_of (data_page bytes p))) (range_with_len 1 n)

-- the CRC of each data page
abbrev pub page_crcs : List ℕ → List ℕ
page_crcs bytes = crcs_to bytes (pages_for (length bytes) - 1)

-- page 0
abbrev pub descriptor_page : Row → List ℕ
descriptor_page row =
    padded page_size 255 (head_of row.image (pages_for (length row.bytes)) row.version (length row.bytes) row.name
    ++ page_crcs row.bytes)

-- a page of the object
unfoldable pub page_of_row : Row → ℕ → List ℕ
page_of_row row zero = descriptor_page row
page_of_row row (suc k) = data_page row.bytes (suc k)

-- all pages
abbrev pub object : Row → List (List ℕ)
object row = tabulate (pages_for (length row.bytes)) (page_of_row row)

-- what is announced of an object before any page: its image, version, page count and the CRC of page 0
pub record Outline : Type 0 where
  pub image : ℕ
  pub version : ℕ
  pub pages : ℕ
  pub crc : ℕ

abbrev pub profile : Row → Outline
profile row = record {
  image = row.image;
  version = row.version;
  pages = pages_for (length row.bytes);
  crc = crc_of (descriptor_page row);
}

-- the bytes of an image of that length in the pages of an object
abbrev pub content : ℕ → List (List ℕ) → List ℕ
content len pages = take len (concatenated (drop 1 pages))

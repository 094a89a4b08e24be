-- The pages of a row: how many they are, what they hold, and that they hold the image.
use Rattle.std.proofs.Common.{◌≡◌, ℕ, ◌+◌, ◌-◌, ◌*◌, ◌/◌, ◌%◌, ◌^◌, ◌<◌, ◌≤◌, suc, zero, List, [], ◌∷◌, ◌++◌, length, take, drop, map, get_or, refl, sym, ap, ◌∙◌, add-zero, arith, length-take}
use Rattle.std.proofs.lemmas.List.{take_at, get_or-append_right}
use Rattle.std.proofs.Math.Nat.{sub-zero}
use Rattle.std.specs.List.{flat_map, range_with_len}
use Rattle.std.specs.Int.{to_be_bytes, w16, w32}
use Rattle.dg_words.specs.Cells.{AreBytes}
use Rattle.dg_words.specs.Lists.{padded, concatenated}
use Rattle.dg_words.proofs.ListLemmas.{length-padded, take-padded_front, joined_chunks, get_or-padded_front, get_or-padded_behind, length-tabulate, get_or-tabulate}
use Rattle.dg_words.proofs.ByteLemmas.{AreBytes-cons, AreBytes-append, AreBytes-take, AreBytes-drop, AreBytes-padded, AreBytes-flat_map, AreBytes-high_first, All-from_AreBytes}
use Rattle.dg_base.specs.Crc.{crc_of}
use Rattle.dg_base.proofs.CrcLemmas.{crc_more-lt}
use Rattle.dg_object.specs.Sizes.{most_bytes, most_pages, page_size}
use Rattle.dg_object.specs.Object.{Row, IsRow, pages_for, data_page, head_of, page_crcs, descriptor_page, page_of_row, object, content}
use Rattle.dg_object.specs.Descriptor.{IsDescriptor, details, crc_in}
use Rattle.dg_object.proofs.NameLemmas.{names-fits, names-bytes}
use Rattle.dg_object.proofs.PageLemmas.{length-head_of, length-descriptor, page_of_row-data}

-- 2 to 65 pages
pub pages_for-some : (len : ℕ) → 1 ≤ len → 2 ≤ pages_for len
pages_for-some len h = omega arith

pub pages_for-most : (len : ℕ) → len ≤ most_bytes → pages_for len ≤ most_pages
pages_for-most len h = omega arith

-- the data pages hold the image
pub pages_for-holds : (len : ℕ) → len ≤ (pages_for len - 1) * page_size
pages_for-holds len = omega arith

-- a data page
pub length-data_page : (bytes : List ℕ) (p : ℕ) → length (data_page bytes p) ≡ page_size
length-data_page bytes p = length-padded page_size 255 (take page_size (drop ((p - 1) * page_size) bytes)) (omega (arith, length-take page_size (drop ((p - 1) * page_size) bytes)))

pub AreBytes-data_page : (bytes : List ℕ) (p : ℕ) → AreBytes bytes → AreBytes (data_page bytes p)
AreBytes-data_page bytes p h = AreBytes-padded page_size 255 _ (omega arith) (AreBytes-take page_size _ (AreBytes-drop ((p - 1) * page_size) bytes h))

pub crc_of-small : (bytes : List ℕ) → AreBytes bytes → crc_of bytes < 2 ^ 16
crc_of-small bytes h = crc_more-lt 0 bytes (omega arith) (All-from_AreBytes bytes h)

-- the descriptor
filled_to : (row : Row) → IsRow row → length (head_of row.image (pages_for (length row.bytes)) row.version (length row.bytes) row.name ++ page_crcs row.bytes) ≡ 28 + 2 * (pages_for (length row.bytes) - 1)
filled_to row is = length-descriptor row.image (pages_for (length row.bytes)) row.version (length row.bytes) (pages_for (length row.bytes) - 1) row.name row.bytes (names-fits row.name is.name)

pub length-descriptor_page : (row : Row) → IsRow row → length (descriptor_page row) ≡ page_size
length-descriptor_page row is = length-padded page_size 255 (head_of row.image (pages_for (length row.bytes)) row.version (length row.bytes) row.name ++ page_crcs row.bytes) (omega (arith, filled_to row is, pages_for-most (length row.bytes) is.fits))

pub AreBytes-descriptor_page : (row : Row) → IsRow row → AreBytes (descriptor_page row)
AreBytes-descriptor_page row is =
    AreBytes-padded page_size 255 (head_of row.image (pages_for (length row.bytes)) row.version (length row.bytes) row.name ++ page_crcs row.bytes) (omega arith)
    (AreBytes-append (head_of row.image (pages_for (length row.bytes)) row.version (length row.bytes) row.name) (page_crcs row.bytes) head crcs)
  where
    numbers : AreBytes (68 ∷ 71 ∷ row.image ∷ pages_for (length row.bytes) ∷ to_be_bytes w32 row.version)
    numbers =
        let version = AreBytes-high_first 4 row.version in
        let pages = AreBytes-cons (pages_for (length row.bytes)) (to_be_bytes w32 row.version) (omega (arith, pages_for-most (length row.bytes) is.fits)) version in
        let image = AreBytes-cons row.image (pages_for (length row.bytes) ∷ to_be_bytes w32 row.version) (omega (arith, is.image)) pages in
        let second = AreBytes-cons 71 (row.image ∷ pages_for (length row.bytes) ∷ to_be_bytes w32 row.version) (omega arith) image in
        AreBytes-cons 68 (71 ∷ row.image ∷ pages_for (length row.bytes) ∷ to_be_bytes w32 row.version) (omega arith) second

    head : AreBytes (head_of row.image (pages_for (length row.bytes)) row.version (length row.bytes) row.name)
    head =
        AreBytes-append (68 ∷ 71 ∷ row.image ∷ pages_for (length row.bytes) ∷ to_be_bytes w32 row.version ++ to_be_bytes w32 (length row.bytes)) (padded 16 0 row.name)
        (AreBytes-append (68 ∷ 71 ∷ row.image ∷ pages_for (length row.bytes) ∷ to_be_bytes w32 row.version) (to_be_bytes w32 (length row.bytes)) numbers (AreBytes-high_first 4 (length row.bytes)))
        (AreBytes-padded 16 0 row.name (omega arith) (λ k. names-bytes row.name k is.name))

    crcs : AreBytes (page_crcs row.bytes)
    crcs = AreBytes-flat_map (λ p. to_be_bytes w16 (crc_of (data_page row.bytes p))) (range_with_len 1 (pages_for (length row.bytes) - 1)) (λ p. AreBytes-high_first 2 (crc_of (data_page row.bytes p)))

-- it is the descriptor of what the row says
pub descriptor_of_row : (row : Row) → IsRow row → IsDescriptor (descriptor_page row) (details row)
descriptor_of_row row is =
    record {
      head = record {
        spelled =
            take-padded_front page_size 255 28 (head ++ page_crcs row.bytes) (omega (arith, filled_to row is))
            ∙ take_at head (page_crcs row.bytes) 28 (length-head_of row.image (pages_for (length row.bytes)) row.version (length row.bytes) row.name (names-fits row.name is.name));
        range = record { image = is.image; version = is.version; version_fits = is.version_fits; some = is.some; fits = is.fits; pages = refl; name = is.name };
      };
      rest = λ k low past. get_or-padded_behind page_size 255 k 0 (head ++ page_crcs row.bytes) (omega (arith, filled_to row is)) (omega (arith, length-descriptor_page row is));
    }
  where
    head : List ℕ
    head = head_of row.image (pages_for (length row.bytes)) row.version (length row.bytes) row.name

-- numbers in two bytes each, one after the other
halves_at : (c : ℕ → ℕ) (a n i : ℕ) → i < n
    → (get_or (flat_map (λ q. to_be_bytes w16 (c q)) (range_with_len a n)) (2 * i) 0 ≡ c (a + i) / 256 % 256)
    × (get_or (flat_map (λ q. to_be_bytes w16 (c q)) (range_with_len a n)) (2 * i + 1) 0 ≡ c (a + i) % 256)
halves_at c a zero i h = absurd (omega arith)
halves_at c a (suc n) zero h = (ap (λ q. c q / 256 % 256) (sym (add-zero a)), ap (λ q. c q % 256) (sym (add-zero a)))
halves_at c a (suc n) (suc i) h =
    let behind = halves_at c (a + 1) n i (omega arith) in
    let cells = flat_map (λ q. to_be_bytes w16 (c q)) (range_with_len (a + 1) n) in
    let front = c a / 256 % 256 ∷ c a % 256 ∷ [] in
    let high : 2 * suc i ≡ suc (suc (2 * i)) = omega arith in
    let lower : 2 * suc i + 1 ≡ suc (suc (2 * i + 1)) = omega arith in
    let next : a + 1 + i ≡ a + suc i = omega arith in (
      ap (λ k. get_or (front ++ cells) k 0) high ∙ behind.0 ∙ ap (λ q. c q / 256 % 256) next,
      ap (λ k. get_or (front ++ cells) k 0) lower ∙ behind.1 ∙ ap (λ q. c q % 256) next,
    )

from_halves : (n : ℕ) → n < 2 ^ 16 → 256 * (n / 256 % 256) + n % 256 ≡ n
from_halves n h = omega arith

-- a byte of a descriptor among the CRCs
crc_cell : (row : Row) (k j : ℕ) → IsRow row → k ≡ 28 + j → j < 2 * (pages_for (length row.bytes) - 1) → get_or (descriptor_page row) k 0 ≡ get_or (page_crcs row.bytes) j 0
crc_cell row k j is e low =
    get_or-padded_front page_size 255 k 0 (head ++ page_crcs row.bytes) (omega (arith, filled_to row is))
    ∙ get_or-append_right head (page_crcs row.bytes) 28 k 0 (length-head_of row.image (pages_for (length row.bytes)) row.version (length row.bytes) row.name (names-fits row.name is.name)) (omega arith)
    ∙ ap (λ i. get_or (page_crcs row.bytes) i 0) place
  where
    head : List ℕ
    head = head_of row.image (pages_for (length row.bytes)) row.version (length row.bytes) row.name

    place : k - 28 ≡ j
    place = omega arith

-- it keeps the CRC of each data page
pub crc_in-descriptor_page : (row : Row) (p : ℕ) → IsRow row → 1 ≤ p → p < pages_for (length row.bytes) → crc_in (descriptor_page row) p ≡ crc_of (data_page row.bytes p)
crc_in-descriptor_page row p is low high =
    ap (λ x. 256 * x + get_or (descriptor_page row) (27 + 2 * p) 0) (crc_cell row (26 + 2 * p) (2 * (p - 1)) is (omega arith) (omega arith) ∙ halves.0)
    ∙ ap (λ x. 256 * (crc (1 + (p - 1)) / 256 % 256) + x) (crc_cell row (27 + 2 * p) (2 * (p - 1) + 1) is (omega arith) (omega arith) ∙ halves.1)
    ∙ from_halves (crc (1 + (p - 1))) (crc_of-small (data_page row.bytes (1 + (p - 1))) (AreBytes-data_page row.bytes (1 + (p - 1)) is.bytes))
    ∙ ap crc place
  where
    crc : ℕ → ℕ
    crc q = crc_of (data_page row.bytes q)

    halves : (get_or (page_crcs row.bytes) (2 * (p - 1)) 0 ≡ crc (1 + (p - 1)) / 256 % 256) × (get_or (page_crcs row.bytes) (2 * (p - 1) + 1) 0 ≡ crc (1 + (p - 1)) % 256)
    halves = halves_at crc 1 (pages_for (length row.bytes) - 1) (p - 1) (omega arith)

    place : 1 + (p - 1) ≡ p
    place = omega arith

-- the pages hold the image
pub content-object : (row : Row) → content (length row.bytes) (object row) ≡ row.bytes
content-object row =
    ap (λ n. take (length row.bytes) (concatenated (drop 1 (map (page_of_row row) (range_with_len 0 n))))) count
    ∙ ap (λ n. take n (concatenated (map (page_of_row row) (range_with_len 1 (pages_for (length row.bytes) - 1))))) (sym (sub-zero (length row.bytes)))
    ∙ joined_chunks page_size 255 (page_of_row row) row.bytes 1 (pages_for (length row.bytes) - 1) (λ p low. page_of_row-data row p low) (omega arith) (omega (arith, pages_for-holds (length row.bytes)))
  where
    count : pages_for (length row.bytes) ≡ suc (pages_for (length row.bytes) - 1)
    count = omega arith

pub length-object : (row : Row) → length (object row) ≡ pages_for (length row.bytes)
length-object row = length-tabulate (pages_for (length row.bytes)) (page_of_row row)

pub get_or-object : (row : Row) (p : ℕ) (d : List ℕ) → p < pages_for (length row.bytes) → get_or (object row) p d ≡ page_of_row row p
get_or-object row p d low = get_or-tabulate (pages_for (length row.bytes)) p (page_of_row row) d low

pub length-page_of_row : (row : Row) (p : ℕ) → IsRow row → length (page_of_row row p) ≡ page_size
unfolding page_of_row
length-page_of_row row zero is = length-descriptor_page row is
length-page_of_row row (suc k) is = length-data_page row.bytes (suc k)

pub AreBytes-page_of_row : (row : Row) (p : ℕ) → IsRow row → AreBytes (page_of_row row p)
unfolding page_of_row
AreBytes-page_of_row row zero is = AreBytes-descriptor_page row is
AreBytes-page_of_row row (suc k) is = AreBytes-data_page row.bytes (suc k) is.bytes

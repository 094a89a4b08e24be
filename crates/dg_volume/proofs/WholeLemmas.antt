-- An image that is kept whole is sound.
use Rattle.std.proofs.Common.{◌≡◌, ℕ, zero, suc, ◌+◌, ◌-◌, ◌^◌, ◌<◌, ◌≤◌, Bool, true, List, [], ◌∷◌, length, take, drop, get_or, Some, refl, sym, ap, subst, ◌∙◌, eq-eqb, arith, lit≤}
use Rattle.std.proofs.lemmas.Bool.{and_from}
use Rattle.std.specs.Int.{from_be_bytes, to_be_bytes, w32}
use Rattle.std.proofs.lemmas.List.{drop-take, take-take}
use Rattle.std.proofs.lemmas.Nat.{from_be_bytes-to_be_bytes_4}
use Rattle.std.specs.Prelude.{◌==◌}
use Rattle.std.specs.List.{list_all, range_with_len}
use Rattle.dg_base.specs.Crc.{crc_of}
use Rattle.dg_object.specs.Object.{Row, IsRow, pages_for, data_page, descriptor_page, object}
use Rattle.dg_object.specs.Descriptor.{Details, IsDescriptor, details, crc_in}
use Rattle.dg_object.proofs.PageLemmas.{page_of_row-first, page_of_row-data}
use Rattle.dg_object.proofs.RowLemmas.{descriptor_of_row, crc_in-descriptor_page, content-object, length-object, get_or-object}
use Rattle.dg_slot.specs.Kept.{Held}
use Rattle.dg_volume.specs.Store.{Store, held, held_whole}
use Rattle.dg_volume.specs.Start.{pages_sound, sound, length_in}
use Rattle.dg_volume.specs.RowLaws.{RowLaws}

-- ---- the length that a descriptor gives

-- the cells from b to a + b are within the first c
take-drop-take : (xs : List ℕ) (a b c : ℕ) → a + b ≤ c → take a (drop b (take c xs)) ≡ take a (drop b xs)
take-drop-take xs a b c h =
    let place : b + (c - b) ≡ c = omega (arith, h) in
    ap (λ n. take a (drop b (take n xs))) (sym place) ∙ ap (take a) (drop-take b (c - b) xs) ∙ take-take a (c - b) (drop b xs) (omega (arith, h))

-- it is in bytes 8 to 11
length_in-descriptor : (page : List ℕ) (d : Details) → IsDescriptor page d → length_in page ≡ d.length
unfolding length_in
length_in-descriptor page d described =
    let cells : take 4 (drop 8 page) ≡ to_be_bytes w32 d.length = sym (take-drop-take page 4 8 28 (lit≤ tt)) ∙ ap (λ h. take 4 (drop 8 h)) described.head.spelled in
    let small : d.length < 2 ^ 32 = omega (arith, described.head.range.fits) in
    ap (from_be_bytes w32) cells ∙ from_be_bytes-to_be_bytes_4 d.length small

-- ---- tests of each page

all_in_range : (p : ℕ → Bool) (a n : ℕ) → ((k : ℕ) → a ≤ k → k < a + n → p k ≡ true) → list_all p (range_with_len a n) ≡ true
all_in_range p a zero h = refl
all_in_range p a (suc n) h = and_from (p a) (list_all p (range_with_len (a + 1) n)) (h a (omega arith) (omega arith)) (all_in_range p (a + 1) n (λ k low high. h k (omega arith) (omega arith)))

pages_sound_from : (crc : ℕ) (pages : List (List ℕ)) → 1 ≤ length pages → crc_of (get_or pages 0 []) ≡ crc
    → ((p : ℕ) → 1 ≤ p → p < length pages → crc_of (get_or pages p []) ≡ crc_in (get_or pages 0 []) p) → pages_sound crc pages ≡ true
pages_sound_from crc [] some first each = absurd (omega arith)
pages_sound_from crc (page ∷ pages) some first each =
    and_from (crc_of page == crc) (list_all (λ p. crc_of (get_or (page ∷ pages) p []) == crc_in page p) (range_with_len 1 (length pages)))
    (eq-eqb (crc_of page) crc first)
    (all_in_range (λ p. crc_of (get_or (page ∷ pages) p []) == crc_in page p) 1 (length pages)
    (λ p low high. eq-eqb (crc_of (get_or (page ∷ pages) p [])) (crc_in page p) (each p low (omega arith))))

-- ---- the pages of a row

first_page : (row : Row) → get_or (object row) 0 [] ≡ descriptor_page row
first_page row = get_or-object row 0 [] (omega arith) ∙ page_of_row-first row 0 refl

other_page : (row : Row) (p : ℕ) → 1 ≤ p → p < pages_for (length row.bytes) → get_or (object row) p [] ≡ data_page row.bytes p
other_page row p low high = get_or-object row p [] high ∙ page_of_row-data row p low

pub object_is_sound : (row : Row) → IsRow row → pages_sound (crc_of (descriptor_page row)) (object row) ≡ true
object_is_sound row is =
    let count = length-object row in
    pages_sound_from (crc_of (descriptor_page row)) (object row) (omega arith) (ap crc_of (first_page row))
    (λ p low high.
    let within : p < pages_for (length row.bytes) = omega arith in
    ap crc_of (other_page row p low within) ∙ sym (crc_in-descriptor_page row p is low within) ∙ ap (λ page. crc_in page p) (sym (first_page row)))

-- ---- what is kept

kept_is_sound : (s : Store) (i : ℕ) (h : Held) → held s i ≡ Some h → pages_sound h.crc h.complete ≡ true → sound s i ≡ true
kept_is_sound s i h e is = rw e is

-- an image that is kept whole is sound
whole_is_sound : (row : Row) → IsRow row → (s : Store) (i : ℕ) → held s i ≡ Some (held_whole row) → sound s i ≡ true
whole_is_sound row is s i e = kept_is_sound s i (held_whole row) e (object_is_sound row is)

pub row_laws : (row : Row) → IsRow row → RowLaws row
row_laws row is =
    let described : IsDescriptor (get_or (object row) 0 []) (details row) = subst (λ page. IsDescriptor page (details row)) (sym (first_page row)) (descriptor_of_row row is) in
    record {
      is_sound = whole_is_sound row is;
      described = described;
      length_told = length_in-descriptor (get_or (object row) 0 []) (details row) described;
      bytes = content-object row;
    }

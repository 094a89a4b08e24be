-- The test for a descriptor, and what it decides.
use Rattle.std.proofs.Common.{◌≡◌, ◌≢◌, ℕ, zero, suc, ◌+◌, ◌-◌, ◌^◌, ◌<◌, ◌≤◌, ◌&&◌, Bool, IsTrue, true, cond, eqb, ltb, leb, List, [], ◌∷◌, ◌++◌, length, take, drop, replicate, get_or, refl, sym, ap, ◌∙◌, subst, arith, get_or-drop, get_or-take, length-drop}
use Rattle.std.specs.List.{list_all}
use Rattle.std.specs.Int.{from_be_bytes, to_be_bytes, w32}
use Rattle.std.specs.Str.{bytes_eq}
use Rattle.std.proofs.lemmas.Bool.{and_parts, and_from, ltb-true, leb-true, eqb-true, lt-ltb, le-leb, eq-eqb, ne_eqb}
use Rattle.std.proofs.lemmas.List.{drop-take, take-take}
use Rattle.std.proofs.lemmas.Slice.Eq.{bytes_eq-Decides}
use Rattle.dg_words.specs.Lists.{padded}
use Rattle.dg_base.specs.Texts.{spells_name}
use Rattle.dg_object.specs.Sizes.{most_bytes, slots}
use Rattle.dg_object.specs.Object.{head_of, pages_for}
use Rattle.dg_object.specs.Descriptor.{Details, DetailsInRange, IsDescriptor, RestFits, Describes, crcs_end}
use Rattle.dg_object.specs.Tested.{up_to_zero, fields_in, fields_fit, is_descriptor, describes}
use Rattle.dg_object.proofs.NameLemmas.{names-nonzero}
use Rattle.dg_object.proofs.HeadLemmas.{word, same_details, head_image, head_pages, head_version, head_length, head_name}

-- ---- the fields that are read

up_to_zero-replicate : (m : ℕ) → up_to_zero (replicate m 0) ≡ []
unfolding up_to_zero
up_to_zero-replicate zero = refl
up_to_zero-replicate (suc m) = refl

up_to_zero-append : (n : List ℕ) (m : ℕ) → ((k : ℕ) → k < length n → get_or n k 0 ≢ 0) → up_to_zero (n ++ replicate m 0) ≡ n
unfolding up_to_zero
up_to_zero-append [] m h = up_to_zero-replicate m
up_to_zero-append (c ∷ cs) m h =
    ap (λ b. cond b [] (c ∷ up_to_zero (cs ++ replicate m 0))) (ne_eqb c 0 (h 0 (omega arith)))
    ∙ ap (λ xs. c ∷ xs) (up_to_zero-append cs m (λ k low. h (suc k) (omega arith)))

-- a name is what comes before its padding
name_read : (n field : List ℕ) → IsTrue (spells_name n) → field ≡ padded 16 0 n → up_to_zero field ≡ n
unfolding padded
name_read n field named e = ap up_to_zero e ∙ up_to_zero-append n _ (λ k low. names-nonzero n k named low)

-- what the head says, read from the page
word_of_head : (page : List ℕ) (at m : ℕ) → 4 ≤ m → word (take (at + m) page) at ≡ word page at
word_of_head page at m h = ap (from_be_bytes w32) (ap (take 4) (drop-take at m page) ∙ take-take 4 m (drop at page) h)

pub fields_read : (page : List ℕ) (d : Details) → IsDescriptor page d → d ≡ fields_in page
fields_read page d is =
    same_details d (fields_in page)
    (sym (head_image is.head) ∙ get_or-take 28 page 2 0 (omega arith))
    (sym (head_version is.head) ∙ word_of_head page 4 24 (omega arith))
    (sym (head_pages is.head) ∙ get_or-take 28 page 3 0 (omega arith))
    (sym (head_length is.head) ∙ word_of_head page 8 20 (omega arith))
    (sym (name_read d.name (take 16 (drop 12 page)) is.head.range.name (sym (drop-take 12 16 page) ∙ head_name is.head)))

-- ---- from the test

-- a number that four bytes spell
small_word : (v : ℕ) → from_be_bytes w32 (to_be_bytes w32 v) < 2 ^ 32
small_word v = omega arith

version_small : (page : List ℕ) (i p v l : ℕ) (n : List ℕ) → take 28 page ≡ head_of i p v l n → v ≡ word page 4 → v < 2 ^ 32
version_small page i p v l n e read =
    let spelled : v ≡ from_be_bytes w32 (to_be_bytes w32 v) = read ∙ sym (word_of_head page 4 24 (omega arith)) ∙ ap (λ (xs : List ℕ). word xs 4) e in
    let P : ℕ → Type 0 = λ x. x < 2 ^ 32 in
    subst P (sym spelled) (small_word v)

all_tested : (xs : List ℕ) (k : ℕ) → list_all (λ b. eqb b 255) xs ≡ true → k < length xs → get_or xs k 0 ≡ 255
all_tested [] k h low = absurd (omega arith)
all_tested (x ∷ xs) zero h low = eqb-true x 255 (and_parts (eqb x 255) (list_all (λ b. eqb b 255) xs) h).0
all_tested (x ∷ xs) (suc k) h low = all_tested xs k (and_parts (eqb x 255) (list_all (λ b. eqb b 255) xs) h).1 (omega arith)

all_found : (xs : List ℕ) → ((k : ℕ) → k < length xs → get_or xs k 0 ≡ 255) → list_all (λ b. eqb b 255) xs ≡ true
all_found [] h = refl
all_found (x ∷ xs) h = and_from (eqb x 255) (list_all (λ b. eqb b 255) xs) (eq-eqb x 255 (h 0 (omega arith))) (all_found xs (λ k low. h (suc k) (omega arith)))

rest_tested : (pages : ℕ) (page : List ℕ) → list_all (λ b. eqb b 255) (drop (crcs_end pages) page) ≡ true → RestFits pages 0 page
rest_tested pages page h k low past =
    ap (λ (j : ℕ). get_or page j 0) place
    ∙ sym (get_or-drop (crcs_end pages) page (k - crcs_end pages) 0)
    ∙ all_tested (drop (crcs_end pages) page) (k - crcs_end pages) h (omega (arith, length-drop (crcs_end pages) page))
  where
    place : k ≡ crcs_end pages + (k - crcs_end pages)
    place = omega arith

rest_found : (pages : ℕ) (page : List ℕ) → RestFits pages 0 page → list_all (λ b. eqb b 255) (drop (crcs_end pages) page) ≡ true
rest_found pages page fits = all_found (drop (crcs_end pages) page) (λ k low.
    get_or-drop (crcs_end pages) page k 0 ∙ fits (crcs_end pages + k) (omega (arith, length-drop (crcs_end pages) page)) (omega arith))

-- the tests of the fields, one by one
six_parts : (a b c d e f : Bool) → (a && b && c && d && e && f) ≡ true → (a ≡ true) × (b ≡ true) × (c ≡ true) × (d ≡ true) × (e ≡ true) × (f ≡ true)
six_parts a b c d e f h =
    let five = and_parts (a && b && c && d && e) f h in
    let four = and_parts (a && b && c && d) e five.0 in
    let three = and_parts (a && b && c) d four.0 in
    let two = and_parts (a && b) c three.0 in
    let one = and_parts a b two.0 in
    (one.0, one.1, two.1, three.1, four.1, five.1)

from_six : (a b c d e f : Bool) → a ≡ true → b ≡ true → c ≡ true → d ≡ true → e ≡ true → f ≡ true → (a && b && c && d && e && f) ≡ true
from_six a b c d e f ha hb hc hd he hf =
    and_from (a && b && c && d && e) f (and_from (a && b && c && d) e (and_from (a && b && c) d (and_from (a && b) c (and_from a b ha hb) hc) hd) he) hf

fields_tested : (d : Details) → fields_fit d ≡ true → d.version < 2 ^ 32 → DetailsInRange d
fields_tested d h small =
    let parts = six_parts (ltb d.image slots) (leb 1 d.version) (leb 1 d.length) (leb d.length most_bytes) (eqb d.pages (pages_for d.length)) (spells_name d.name) h in
    record {
      image = ltb-true d.image slots parts.0;
      version = leb-true 1 d.version parts.1;
      version_fits = small;
      some = leb-true 1 d.length parts.2;
      fits = leb-true d.length most_bytes parts.3;
      pages = eqb-true d.pages (pages_for d.length) parts.4;
      name = parts.5;
    }

fields_found : (d : Details) → DetailsInRange d → fields_fit d ≡ true
fields_found d is =
    from_six (ltb d.image slots) (leb 1 d.version) (leb 1 d.length) (leb d.length most_bytes) (eqb d.pages (pages_for d.length)) (spells_name d.name)
    (lt-ltb d.image slots is.image) (le-leb 1 d.version is.version) (le-leb 1 d.length is.some) (le-leb d.length most_bytes is.fits) (eq-eqb d.pages (pages_for d.length) is.pages) is.name

pub tested_is : (page : List ℕ) → is_descriptor page ≡ true → (d : Details) × IsDescriptor page d
unfolding is_descriptor
tested_is page h =
    let d : Details = fields_in page in
    let head = head_of d.image d.pages d.version d.length d.name in
    let rest = list_all (λ b. eqb b 255) (drop (crcs_end d.pages) page) in
    let outer = and_parts (fields_fit d && bytes_eq (take 28 page) head) rest h in
    let inner = and_parts (fields_fit d) (bytes_eq (take 28 page) head) outer.0 in
    let spelled = (bytes_eq-Decides (take 28 page) head).0 inner.1 in (
      d,
      record {
        head = record { spelled = spelled; range = fields_tested d inner.0 (version_small page d.image d.pages d.version d.length d.name spelled refl) };
        rest = rest_tested d.pages page outer.1;
      },
    )

is_tested_at : (page : List ℕ) (d : Details) → IsDescriptor page d → d ≡ fields_in page → is_descriptor page ≡ true
unfolding is_descriptor
is_tested_at page d is e =
    let P : Details → Type 0 = IsDescriptor page in
    let at : IsDescriptor page (fields_in page) = subst P e is in
    let f : Details = fields_in page in
    let head = head_of f.image f.pages f.version f.length f.name in
    and_from (fields_fit f && bytes_eq (take 28 page) head) (list_all (λ b. eqb b 255) (drop (crcs_end f.pages) page))
    (and_from (fields_fit f) (bytes_eq (take 28 page) head) (fields_found f at.head.range) ((bytes_eq-Decides (take 28 page) head).1 at.head.spelled))
    (rest_found f.pages page at.rest)

pub is_tested : (page : List ℕ) → (d : Details) × IsDescriptor page d → is_descriptor page ≡ true
is_tested page is = is_tested_at page is.0 is.1 (fields_read page is.0 is.1)

-- ---- of one image, version and page count

pub described_is : (page : List ℕ) (image version pages : ℕ) → describes page image version pages ≡ true → Describes page image version pages
described_is page image version pages h =
    let f : Details = fields_in page in
    let third = and_parts (is_descriptor page && eqb f.image image && eqb f.version version) (eqb f.pages pages) h in
    let second = and_parts (is_descriptor page && eqb f.image image) (eqb f.version version) third.0 in
    let first = and_parts (is_descriptor page) (eqb f.image image) second.0 in
    let found = tested_is page first.0 in
    let read = fields_read page found.0 found.1 in
    (found.0, found.1, ap (λ (e : Details). e.image) read ∙ eqb-true f.image image first.1, ap (λ (e : Details). e.version) read ∙ eqb-true f.version version second.1, ap (λ (e : Details). e.pages) read ∙ eqb-true f.pages pages third.1)

pub is_described : (page : List ℕ) (image version pages : ℕ) → Describes page image version pages → describes page image version pages ≡ true
is_described page image version pages is =
    let f : Details = fields_in page in
    let read = fields_read page is.0 is.1 in
    and_from (is_descriptor page && eqb f.image image && eqb f.version version) (eqb f.pages pages)
    (and_from (is_descriptor page && eqb f.image image) (eqb f.version version)
    (and_from (is_descriptor page) (eqb f.image image) (is_tested page (is.0, is.1)) (eq-eqb f.image image (sym (ap (λ (e : Details). e.image) read) ∙ is.2)))
    (eq-eqb f.version version (sym (ap (λ (e : Details). e.version) read) ∙ is.3)))
    (eq-eqb f.pages pages (sym (ap (λ (e : Details). e.pages) read) ∙ is.4))

-- The fields that the first 28 bytes of a descriptor spell, and that no others do.
use Rattle.std.proofs.Common.{◌≡◌, ℕ, ◌+◌, ◌<◌, ◌≤◌, List, [], ◌∷◌, ◌++◌, length, take, drop, get_or, refl, sym, ap, ◌∙◌, arith, length-drop, length-take, get_or-drop, get_or-take, take-append-drop, append_assoc, inl, inr}
use Rattle.std.proofs.lemmas.List.{drop-drop, get_or_past, take_all}
use borrow.Rule.Slice.PartMut.{mid_of}
use Rattle.std.proofs.lemmas.Bool.{cases_lt}
use Rattle.std.proofs.lemmas.Nat.{be_bytes_4, from_be_bytes-to_be_bytes_4}
use Rattle.std.specs.Int.{from_be_bytes, to_be_bytes, w32}
use Rattle.dg_words.specs.Lists.{padded}
use Rattle.dg_object.specs.Object.{head_of}
use Rattle.dg_object.specs.Descriptor.{Details, HasTag, IsHead}
use Rattle.dg_object.proofs.NameLemmas.{same_names}

-- the number that four bytes at a place spell
abbrev pub word : List ℕ → ℕ → ℕ
word xs at = from_be_bytes w32 (take 4 (drop at xs))

four : (xs : List ℕ) → 4 ≤ length xs → take 4 xs ≡ get_or xs 0 0 ∷ get_or xs 1 0 ∷ get_or xs 2 0 ∷ get_or xs 3 0 ∷ []
four [] h = absurd (omega arith)
four (a ∷ []) h = absurd (omega arith)
four (a ∷ b ∷ []) h = absurd (omega arith)
four (a ∷ b ∷ c ∷ []) h = absurd (omega arith)
four (a ∷ b ∷ c ∷ d ∷ xs) h = refl

-- four bytes are those of the number that they spell
spelled_word : (xs : List ℕ) (at : ℕ) → at + 4 ≤ length xs → ((i : ℕ) → get_or xs i 0 < 256) → take 4 (drop at xs) ≡ to_be_bytes w32 (word xs at)
spelled_word xs at h bytes = sym (be_bytes_4 (take 4 (drop at xs)) (word xs at) (omega (arith, length-take 4 (drop at xs), length-drop at xs)) small refl)
  where
    small : (i : ℕ) → get_or (take 4 (drop at xs)) i 0 < 256
    small i = elim (cases_lt i 4) [ inl low ↦ rw (get_or-take 4 (drop at xs) i 0 low, get_or-drop at xs i 0) (bytes (at + i)) | inr past ↦ rw (get_or_past (take 4 (drop at xs)) i 0 (omega (arith, length-take 4 (drop at xs)))) (omega arith) ]

in_parts : (h : List ℕ) → h ≡ take 4 h ++ take 4 (drop 4 h) ++ take 4 (drop 8 h) ++ drop 12 h
in_parts h =
    sym (
    append_assoc (take 4 h ++ take 4 (drop 4 h)) (take 4 (drop 8 h)) (drop 12 h)
    ∙ ap (λ xs. take 4 h ++ take 4 (drop 4 h) ++ xs) (step 8)
    ∙ append_assoc (take 4 h) (take 4 (drop 4 h)) (drop 8 h)
    ∙ ap (λ xs. take 4 h ++ xs) (step 4)
    ∙ take-append-drop 4 h
    )
  where
    step : (k : ℕ) → take 4 (drop k h) ++ drop (k + 4) h ≡ drop k h
    step k = ap (λ xs. take 4 (drop k h) ++ xs) (sym (drop-drop 4 k h)) ∙ take-append-drop 4 (drop k h)

-- 28 bytes with the tag and a name spell the fields that are read from them
pub spelled_fields : (h n : List ℕ) → length h ≡ 28 → ((i : ℕ) → get_or h i 0 < 256) → HasTag h → drop 12 h ≡ padded 16 0 n
    → h ≡ head_of (get_or h 2 0) (get_or h 3 0) (word h 4) (word h 8) n
spelled_fields h n len bytes tag name =
    in_parts h
    ∙ ap (λ (xs : List ℕ). xs ++ take 4 (drop 4 h) ++ take 4 (drop 8 h) ++ drop 12 h) front
    ∙ ap (λ (xs : List ℕ). first ++ xs ++ take 4 (drop 8 h) ++ drop 12 h) (spelled_word h 4 (omega arith) bytes)
    ∙ ap (λ (xs : List ℕ). first ++ to_be_bytes w32 (word h 4) ++ xs ++ drop 12 h) (spelled_word h 8 (omega arith) bytes)
    ∙ ap (λ (xs : List ℕ). first ++ to_be_bytes w32 (word h 4) ++ to_be_bytes w32 (word h 8) ++ xs) name
  where
    first : List ℕ
    first = 68 ∷ 71 ∷ get_or h 2 0 ∷ get_or h 3 0 ∷ []

    front : take 4 h ≡ 68 ∷ 71 ∷ get_or h 2 0 ∷ get_or h 3 0 ∷ []
    front =
        four h (omega arith)
        ∙ ap (λ (x : ℕ). x ∷ get_or h 1 0 ∷ get_or h 2 0 ∷ get_or h 3 0 ∷ []) tag.first
        ∙ ap (λ (x : ℕ). 68 ∷ x ∷ get_or h 2 0 ∷ get_or h 3 0 ∷ []) tag.second

-- what is read from a head is what it says
pub head_image : {h : List ℕ} {d : Details} → IsHead h d → get_or h 2 0 ≡ d.image
head_image is = ap (λ (xs : List ℕ). get_or xs 2 0) is.spelled

pub head_pages : {h : List ℕ} {d : Details} → IsHead h d → get_or h 3 0 ≡ d.pages
head_pages is = ap (λ (xs : List ℕ). get_or xs 3 0) is.spelled

pub head_version : {h : List ℕ} {d : Details} → IsHead h d → word h 4 ≡ d.version
head_version {h} {d} is = ap (λ (xs : List ℕ). word xs 4) is.spelled ∙ from_be_bytes-to_be_bytes_4 d.version is.range.version_fits

pub head_length : {h : List ℕ} {d : Details} → IsHead h d → word h 8 ≡ d.length
head_length {h} {d} is = ap (λ (xs : List ℕ). word xs 8) is.spelled ∙ from_be_bytes-to_be_bytes_4 d.length (omega (arith, is.range.fits))

pub head_name : {h : List ℕ} {d : Details} → IsHead h d → drop 12 h ≡ padded 16 0 d.name
head_name is = ap (λ (xs : List ℕ). drop 12 xs) is.spelled

pub head_tag : {h : List ℕ} {d : Details} → IsHead h d → HasTag h
head_tag is = record { first = ap (λ (xs : List ℕ). get_or xs 0 0) is.spelled; second = ap (λ (xs : List ℕ). get_or xs 1 0) is.spelled }

abbrev pub made : (image version pages length : ℕ) → List ℕ → Details
made i v p l n = record { image = i; version = v; pages = p; length = l; name = n }

pub same_details : (d e : Details) → d.image ≡ e.image → d.version ≡ e.version → d.pages ≡ e.pages → d.length ≡ e.length → d.name ≡ e.name → d ≡ e
same_details d e i v p l n =
    ap (λ x. made x d.version d.pages d.length d.name) i
    ∙ ap (λ x. made e.image x d.pages d.length d.name) v
    ∙ ap (λ x. made e.image e.version x d.length d.name) p
    ∙ ap (λ x. made e.image e.version e.pages x d.name) l
    ∙ ap (λ x. made e.image e.version e.pages e.length x) n

-- a head has one reading
pub one_head : (h : List ℕ) (d e : Details) → IsHead h d → IsHead h e → d ≡ e
one_head h d e a b =
    same_details d e (sym (head_image a) ∙ head_image b) (sym (head_version a) ∙ head_version b) (sym (head_pages a) ∙ head_pages b)
    (sym (head_length a) ∙ head_length b) (same_names d.name e.name a.range.name b.range.name (sym (head_name a) ∙ head_name b))

-- the field of the name is everything from byte 12 on
pub name_field_is : (h : List ℕ) → length h ≡ 28 → mid_of 12 16 h ≡ drop 12 h
name_field_is h len = take_all 16 (drop 12 h) (omega (arith, length-drop 12 h))

-- The bytes of a page after its CRCs, checked whole or in pieces.
use Rattle.std.proofs.Common.{◌≡◌, ℕ, ◌+◌, ◌-◌, ◌*◌, ◌<◌, ◌≤◌, min, Bool, IsTrue, Decides, eqb, List, ◌++◌, length, take, drop, replicate, get_or, sym, ap, ◌∙◌, subst, arith, length-drop, length-take, get_or-drop, get_or-take, length-append, inl, inr}
use Rattle.std.specs.Cmp.Lexicographic.{pointwise}
use Rattle.std.proofs.lemmas.Bool.Decides.{Decides-eqb}
use Rattle.std.proofs.lemmas.Slice.Eq.{slice_eq-Decides}
use Rattle.std.proofs.lemmas.Bool.{cases_lt}
use Rattle.std.proofs.lemmas.List.{take_rest, take_all, get_or_append_left, get_or-append-add, get_or-replicate, length-replicate, length-take-le, ext_get_or}
use Rattle.dg_words.specs.Cells.{part}
use Rattle.dg_words.proofs.CellLemmas.{part-append-part, length-part}
use Rattle.dg_object.specs.Sizes.{page_size}
use Rattle.dg_object.specs.Descriptor.{RestFits, HasTag, IsHead, IsDescriptor, Details}

-- a piece is filling from place m on
abbrev pub FilledFrom : ℕ → List ℕ → Type 0
FilledFrom m piece = (i : ℕ) → i < length (take (length piece - m) (drop m piece)) → get_or (take (length piece - m) (drop m piece)) i 0 ≡ 255

at_rest : (piece : List ℕ) (m i : ℕ) → get_or (take (length piece - m) (drop m piece)) i 0 ≡ get_or piece (m + i) 0
at_rest piece m i = ap (λ (xs : List ℕ). get_or xs i 0) (take_rest piece m) ∙ get_or-drop m piece i 0

pub rest_checked : (pages at m : ℕ) (piece : List ℕ) → m ≡ min (28 + 2 * (pages - 1) - at) (length piece) → FilledFrom m piece → RestFits pages at piece
rest_checked pages at m piece e filled k low past =
    ap (λ (j : ℕ). get_or piece j 0) place ∙ sym (at_rest piece m (k - m)) ∙ filled (k - m) within
  where
    place : k ≡ m + (k - m)
    place = omega arith

    within : k - m < length (take (length piece - m) (drop m piece))
    within = omega (arith, ap length (take_rest piece m), length-drop m piece)

pub rest_filled : (pages at m : ℕ) (piece : List ℕ) → m ≡ min (28 + 2 * (pages - 1) - at) (length piece) → RestFits pages at piece → FilledFrom m piece
rest_filled pages at m piece e fits i low = at_rest piece m i ∙ fits (m + i) within past
  where
    within : m + i < length piece
    within = omega (arith, ap length (take_rest piece m), length-drop m piece)

    past : 28 + 2 * (pages - 1) ≤ at + (m + i)
    past = omega (arith, ap length (take_rest piece m), length-drop m piece)

-- two pieces that follow each other are one
pub RestFits-append : (pages at : ℕ) (xs ys : List ℕ) → RestFits pages at xs → RestFits pages (at + length xs) ys → RestFits pages at (xs ++ ys)
RestFits-append pages at xs ys front back k low past =
    elim (cases_lt k (length xs)) [
      | inl early ↦ get_or_append_left xs ys 0 k early ∙ front k early past
      | inr late ↦
          ap (λ (j : ℕ). get_or (xs ++ ys) j 0) (place late)
          ∙ get_or-append-add xs ys (k - length xs) 0
          ∙ back (k - length xs) (omega (arith, length-append xs ys)) (omega arith)
    ]
  where
    place : length xs ≤ k → k ≡ length xs + (k - length xs)
    place late = omega arith

-- and a piece of what fits fits
pub RestFits-part : (pages at k n : ℕ) (xs : List ℕ) → RestFits pages at xs → RestFits pages (at + k) (take n (drop k xs))
RestFits-part pages at k n xs fits j low past =
    get_or-take n (drop k xs) j 0 (omega (arith, length-take n (drop k xs)))
    ∙ get_or-drop k xs j 0
    ∙ fits (k + j) (omega (arith, length-take n (drop k xs), length-drop k xs)) (omega arith)

-- the first 28 bytes are never checked
pub RestFits-head : (pages : ℕ) (page : List ℕ) → RestFits pages 28 (drop 28 page) → RestFits pages 0 page
RestFits-head pages page fits k low past =
    ap (λ (j : ℕ). get_or page j 0) place
    ∙ sym (get_or-drop 28 page (k - 28) 0)
    ∙ fits (k - 28) (omega (arith, length-drop 28 page)) (omega arith)
  where
    place : k ≡ 28 + (k - 28)
    place = omega arith

pub RestFits-behind_head : (pages : ℕ) (page : List ℕ) → RestFits pages 0 page → RestFits pages 28 (drop 28 page)
RestFits-behind_head pages page fits j low past =
    get_or-drop 28 page j 0 ∙ fits (28 + j) (omega (arith, length-drop 28 page)) (omega arith)

behind_head : (page : List ℕ) → length page ≡ page_size → take 1076 (drop 28 page) ≡ drop 28 page
behind_head page len = take_all 1076 (drop 28 page) (omega (arith, length-drop 28 page))

-- a page whose head is read and whose rest fits is a descriptor, and no other page is
pub descriptor_from_parts : (page : List ℕ) (d : Details) → length page ≡ page_size → IsHead (take 28 page) d → RestFits d.pages 28 (take 1076 (drop 28 page)) → IsDescriptor page d
descriptor_from_parts page d len head rest =
    record { head = head; rest = RestFits-head d.pages page (let P : List ℕ → Type 0 = λ xs. RestFits d.pages 28 xs in subst P (behind_head page len) rest) }

pub rest_of_descriptor : (page : List ℕ) (d : Details) → length page ≡ page_size → IsDescriptor page d → RestFits d.pages 28 (take 1076 (drop 28 page))
rest_of_descriptor page d len is =
    let P : List ℕ → Type 0 = λ xs. RestFits d.pages 28 xs in
    subst P (sym (behind_head page len)) (RestFits-behind_head d.pages page is.rest)

pub tag_of_page : (page : List ℕ) → HasTag (take 28 page) → HasTag page
tag_of_page page tag = record { first = sym (get_or-take 28 page 0 0 (omega arith)) ∙ tag.first; second = sym (get_or-take 28 page 1 0 (omega arith)) ∙ tag.second }

pub tag_of_head : (page : List ℕ) → HasTag page → HasTag (take 28 page)
tag_of_head page tag = record { first = get_or-take 28 page 0 0 (omega arith) ∙ tag.first; second = get_or-take 28 page 1 0 (omega arith) ∙ tag.second }

-- a further piece of a page
pub RestFits-more : (pages : ℕ) (page : List ℕ) (at m n : ℕ) → at + (m + n) ≤ length page → RestFits pages at (part page at m) → RestFits pages (at + m) (part page (at + m) n) → RestFits pages at (part page at (m + n))
RestFits-more pages page at m n within front back =
    let Fits : List ℕ → Type 0 = RestFits pages at in
    let Behind : ℕ → Type 0 = λ k. RestFits pages (at + k) (part page (at + m) n) in
    subst Fits (part-append-part page at m n within)
    (RestFits-append pages at (part page at m) (part page (at + m) n) front (subst Behind (sym (length-part page at m (omega arith))) back))

-- all pieces after the head, and the head
pub descriptor_from_pieces : (page : List ℕ) (d : Details) → length page ≡ page_size → IsHead (part page 0 28) d → RestFits d.pages 28 (part page 28 1076) → IsDescriptor page d
unfolding part
descriptor_from_pieces page d len head rest = descriptor_from_parts page d len head rest

-- each piece of a descriptor
pub pieces_of_descriptor : (page : List ℕ) (d : Details) (at n : ℕ) → IsDescriptor page d → RestFits d.pages at (part page at n)
unfolding part
pieces_of_descriptor page d at n is k low past = RestFits-part d.pages 0 at n page is.rest k low (omega arith)

pub head_of_descriptor : (page : List ℕ) (d : Details) → IsDescriptor page d → IsHead (part page 0 28) d
unfolding part
head_of_descriptor page d is = is.head

-- ---- bytes that are compared with the filling

-- a piece that is compared with the same number of bytes of the filling
pub piece_is_filling : (n : ℕ) (piece : List ℕ) (r : Bool) → length piece ≤ n → r ≡ pointwise eqb piece (take (length piece) (replicate n 255))
    → (IsTrue r → (i : ℕ) → i < length piece → get_or piece i 0 ≡ 255) × (((i : ℕ) → i < length piece → get_or piece i 0 ≡ 255) → IsTrue r)
piece_is_filling n piece r fits e = (
  λ yes i low. ap (λ (xs : List ℕ). get_or xs i 0) (decides.0 yes) ∙ at_filling i low,
  λ each. decides.1 (ext_get_or 0 piece filling (sym (length-take-le (length piece) (replicate n 255) (omega (arith, length-replicate {A = ℕ} n 255)))) (λ i low. each i low ∙ sym (at_filling i low))),
)
  where
    filling : List ℕ
    filling = take (length piece) (replicate n 255)

    at_filling : (i : ℕ) → i < length piece → get_or filling i 0 ≡ 255
    at_filling i low = get_or-take (length piece) (replicate n 255) i 0 low ∙ get_or-replicate n i 255 0 (omega arith)

    decides : Decides r (piece ≡ filling)
    decides = slice_eq-Decides Decides-eqb piece filling r e

-- what is filled up to a place, and in the piece after it
pub more_is_filled : (bytes : List ℕ) (at n : ℕ) → at + n ≤ length bytes → ((k : ℕ) → k < at → get_or bytes k 0 ≡ 255)
    → ((i : ℕ) → i < length (take (at + n - at) (drop at bytes)) → get_or (take (at + n - at) (drop at bytes)) i 0 ≡ 255)
    → (k : ℕ) → k < at + n → get_or bytes k 0 ≡ 255
more_is_filled bytes at n fits front piece k low =
    elim (cases_lt k at) [
      | inl early ↦ front k early
      | inr late ↦
          ap (λ (j : ℕ). get_or bytes j 0) (place late)
          ∙ sym (get_or-drop at bytes (k - at) 0)
          ∙ sym (get_or-take (at + n - at) (drop at bytes) (k - at) 0 (omega arith))
          ∙ piece (k - at) (omega (arith, length-take (at + n - at) (drop at bytes), length-drop at bytes))
    ]
  where
    place : at ≤ k → k ≡ at + (k - at)
    place late = omega arith

-- a piece of what is filled
pub piece_of_filled : (bytes : List ℕ) (at n i : ℕ) → ((k : ℕ) → k < length bytes → get_or bytes k 0 ≡ 255)
    → i < length (take (at + n - at) (drop at bytes)) → get_or (take (at + n - at) (drop at bytes)) i 0 ≡ 255
piece_of_filled bytes at n i each low =
    get_or-take (at + n - at) (drop at bytes) i 0 (omega (arith, length-take (at + n - at) (drop at bytes)))
    ∙ get_or-drop at bytes i 0
    ∙ each (at + i) (omega (arith, length-take (at + n - at) (drop at bytes), length-drop at bytes))

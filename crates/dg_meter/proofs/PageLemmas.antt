-- The bytes that say how many pages slots have, before and after operations.
use Rattle.std.proofs.Common.{◌≡◌, ◌≢◌, ◌⊎◌, ℕ, ◌+◌, ◌*◌, ◌-◌, ◌%◌, ◌<◌, ◌≤◌, List, length, inl, inr, refl, sym, ap, subst, ◌∙◌, arith}
use Rattle.std.specs.Prelude.{bit_and, slice_index, slice_set}
use Rattle.std.proofs.lemmas.Bool.{cases_eq, cases_lt}
use Rattle.std.proofs.lemmas.List.{get_or-set_same, get_or-set_other}
use Rattle.dg_words.specs.Cells.{part}
use Rattle.dg_words.proofs.CellLemmas.{get_or-part, get_or-overwritten_outside, get_or-overwritten_inside}
use Rattle.dg_nor.specs.Sizes.{sector_size, chip_size}
use Rattle.dg_nor.specs.Chip.{programmed, erased, blank}
use Rattle.dg_nor.proofs.ChipLemmas.{get_or-programmed, get_or-programmed_outside, length-blank, get_or-blank}
use Rattle.dg_meter.specs.Pages.{pages_at, ArePages, IsOutside, AreOutside}

-- in another sector
outside_sector : (at count q o s r : ℕ) → at ≡ 2048 * q + o → o + count ≤ 2048 → r ≡ 68 + 66 * s → q ≢ r → IsOutside (pages_at s) at count
outside_sector at count q o s r is few row other = elim (cases_lt q r) [
  | inl lt ↦ inr (omega (arith, is, few, row, lt))
  | inr ge ↦ inl (let lt : r < q = omega (arith, ge, other) in omega (arith, is, row, lt))
]

-- in another part of the sector
outside_offset : (at count q o s : ℕ) → at ≡ 2048 * q + o → o + count ≤ 2048 → (3 < o) ⊎ (o + count ≤ 3) → IsOutside (pages_at s) at count
outside_offset at count q o s is few apart = elim (cases_eq q (68 + 66 * s)) [
  | inl same ↦ elim apart [
    | inl high ↦ inl (omega (arith, is, same, high))
    | inr low ↦ inr (omega (arith, is, same, low))
  ]
  | inr other ↦ outside_sector at count q o s (68 + 66 * s) is few refl other
]

-- none of them is among the cells
pub none_there : (at count q o : ℕ) → at ≡ 2048 * q + o → o + count ≤ 2048 → (3 < o) ⊎ (o + count ≤ 3) → AreOutside 7 at count
none_there at count q o is few apart = record {
  inside = λ lt. absurd (omega (arith, lt));
  others = λ s lt other. outside_offset at count q o s is few apart;
}

-- that of one slot is
pub one_there : (slot at count q o : ℕ) → at ≡ 2048 * q + o → o + count ≤ 2048 → o ≤ 3 → 3 < o + count → (slot < 7 → q ≡ 68 + 66 * slot)
    → ((s : ℕ) → s < 7 → q ≡ 68 + 66 * s → s ≡ slot) → AreOutside slot at count
one_there slot at count q o is few low high here others = record {
  inside = λ lt. let e : q ≡ 68 + 66 * slot = here lt in (omega (arith, is, e, low), omega (arith, is, e, high));
  others = λ s lt other. outside_sector at count q o s (68 + 66 * s) is few refl (λ same. other (others s lt same));
}

-- ---- what is known stays right

-- where a program was made
pub programmed_pages : (known new image : List ℕ) (slot at : ℕ) (bs : List ℕ) → at + length bs ≤ length image → ArePages known image → AreOutside slot at (length bs)
    → (slot < 7 → slice_index new slot ≡ bit_and (slice_index known slot) (slice_index bs (pages_at slot - at)))
    → ((s : ℕ) → s ≢ slot → slice_index new s ≡ slice_index known s) → ArePages new (programmed image at bs)
programmed_pages known new image slot at bs within pages outside is stays s lt = elim (cases_eq s slot) [
  | inl same ↦ here same (subst (λ (k : ℕ). k < 7) same lt)
  | inr other ↦ get_or-programmed_outside image at bs (pages_at s) within (outside.others s lt other) ∙ pages s lt ∙ sym (stays s other)
]
  where
    here : s ≡ slot → slot < 7 → slice_index (programmed image at bs) (pages_at s) ≡ slice_index new s
    here same small =
        let k : ℕ = pages_at slot - at in
        let inside = outside.inside small in
        let there : at + k ≡ pages_at slot = omega (arith, inside.0) in
        ap (λ (j : ℕ). slice_index (programmed image at bs) (pages_at j)) same
        ∙ ap (λ (j : ℕ). slice_index (programmed image at bs) j) (sym there)
        ∙ get_or-programmed image at bs k within (omega (arith, inside.1, there))
        ∙ ap (λ (j : ℕ). bit_and (slice_index image j) (slice_index bs k)) there
        ∙ ap (λ (j : ℕ). bit_and j (slice_index bs k)) (pages slot small)
        ∙ sym (is small) ∙ ap (λ (j : ℕ). slice_index new j) (sym same)

-- where an erase was made
pub erased_pages : (known new image : List ℕ) (slot sector at : ℕ) → at ≡ 2048 * sector → at + 2048 ≤ length image → ArePages known image → AreOutside slot at 2048
    → (slot < 7 → slice_index new slot ≡ 255) → ((s : ℕ) → s ≢ slot → slice_index new s ≡ slice_index known s) → ArePages new (erased image sector)
unfolding erased
erased_pages known new image slot sector at row within pages outside is stays s lt = elim (cases_eq s slot) [
  | inl same ↦ here same (subst (λ (k : ℕ). k < 7) same lt)
  | inr other ↦
      get_or-overwritten_outside image (sector_size * sector) (blank sector_size) (pages_at s) 0 (omega (arith, size, row, within)) (apart (outside.others s lt other))
      ∙ pages s lt ∙ sym (stays s other)
]
  where
    size : length (blank sector_size) ≡ 2048
    size = length-blank 2048

    apart : IsOutside (pages_at s) at 2048 → (pages_at s < sector_size * sector) ⊎ (sector_size * sector + length (blank sector_size) ≤ pages_at s)
    apart (inl low) = inl (omega (arith, row, low))
    apart (inr high) = inr (omega (arith, row, high, size))

    here : s ≡ slot → slot < 7 → slice_index (erased image sector) (pages_at s) ≡ slice_index new s
    here same small =
        let inside = outside.inside small in
        let k : ℕ = pages_at slot - at in
        let there : sector_size * sector + k ≡ pages_at slot = omega (arith, inside.0, row) in
        let low : k < 2048 = omega (arith, inside.1, inside.0) in
        ap (λ (j : ℕ). slice_index (erased image sector) (pages_at j)) same
        ∙ ap (λ (j : ℕ). slice_index (erased image sector) j) (sym there)
        ∙ get_or-overwritten_inside image (sector_size * sector) (blank sector_size) k 0 (omega (arith, size, row, within)) (omega (arith, size, low))
        ∙ get_or-blank sector_size k 0 low ∙ sym (is small) ∙ ap (λ (j : ℕ). slice_index new j) (sym same)

-- a sector lies within the chip
pub in_chip : (at count size : ℕ) → at < chip_size → at % sector_size + count ≤ sector_size → size ≡ chip_size → at + count ≤ size
in_chip at count size low few is = omega (arith, low, few, is)

-- the byte that was read
pub first_read : (image : List ℕ) (at : ℕ) (into : List ℕ) → into ≡ part image at 1 → slice_index into 0 ≡ slice_index image at
first_read image at into is =
    let here : at + 0 ≡ at = omega arith in
    ap (λ (l : List ℕ). slice_index l 0) is ∙ get_or-part image at 1 0 0 (omega arith) ∙ ap (λ (k : ℕ). slice_index image k) here

-- one more number was read
pub one_more_page : (known old image : List ℕ) (slot byte : ℕ) → slot < length known → image ≡ old → byte ≡ slice_index old (pages_at slot)
    → ((s : ℕ) → s < slot → slice_index old (pages_at s) ≡ slice_index known s) → (s : ℕ) → s < slot + 1 → slice_index image (pages_at s) ≡ slice_index (slice_set known slot byte) s
one_more_page known old image slot byte within same is before s lt =
    ap (λ (i : List ℕ). slice_index i (pages_at s)) same
    ∙ elim (cases_eq s slot) [
      | inl here ↦ ap (λ (k : ℕ). slice_index old (pages_at k)) here ∙ sym is ∙ sym (get_or-set_same known slot byte 0 within) ∙ ap (λ (k : ℕ). slice_index (slice_set known slot byte) k) (sym here)
      | inr other ↦ before s (omega (arith, lt, other)) ∙ sym (get_or-set_other known slot s byte 0 other)
    ]

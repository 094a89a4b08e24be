-- A chip of which only the pieces that were programmed are stored: the others are blank.
use Rattle.std.proofs.Common.{◌≡◌, ◌≢◌, ◌⊎◌, ℕ, zero, suc, ◌+◌, ◌-◌, ◌*◌, ◌/◌, ◌%◌, ◌<◌, ◌≤◌, List, [], ◌∷◌, ◌++◌, length, get_or, set, replicate, bit_and, refl, sym, ap, ◌∙◌, subst, inl, inr, ⊎_elim, arith}
use Rattle.std.proofs.lemmas.List.{length-append, get_or_append_left, get_or-append_right, get_or_past, get_or-set_same, get_or-set_other, get_or-replicate, length-replicate, replicate-append-replicate}
use Rattle.std.proofs.lemmas.Bool.{cases_lt, cases_eq}
use Rattle.std.proofs.lemmas.Grind.{same_number_lists}
use Rattle.dg_words.specs.Cells.{part, overwritten, AreBytes}
use Rattle.dg_words.proofs.CellLemmas.{length-part, length-overwritten, get_or-part, get_or-overwritten_inside, get_or-overwritten_outside, overwritten_same, overwritten_next, part-append-part, part-overwritten_at, part-overwritten_apart}
use Rattle.dg_words.proofs.ListLemmas.{length-tabulate, get_or-tabulate}
use Rattle.dg_nor.specs.Sizes.{chip_size}
use Rattle.dg_nor.specs.Chip.{IsChip, blank, and_each, programmed}
use Rattle.dg_nor.specs.Sparse.{board_piece, board_pieces, placed_cell, sparse, stored_pieces, IsSparse}
use Rattle.dg_nor.proofs.ChipLemmas.{length-blank, get_or-blank, length-and_each}

-- ---- cell by cell

pub length-sparse : (places stored : List ℕ) → length (sparse places stored) ≡ chip_size
unfolding sparse
length-sparse places stored = length-tabulate chip_size (λ k. placed_cell stored (get_or places (k / board_piece) 0) (k % board_piece))

pub get_or-sparse : (places stored : List ℕ) (k : ℕ) → k < chip_size → get_or (sparse places stored) k 0 ≡ placed_cell stored (get_or places (k / board_piece) 0) (k % board_piece)
unfolding sparse
get_or-sparse places stored k h = get_or-tabulate chip_size k (λ k. placed_cell stored (get_or places (k / board_piece) 0) (k % board_piece)) 0 h

pub placed_cell-stored : (stored : List ℕ) (p o : ℕ) → 0 < p → placed_cell stored p o ≡ get_or stored (board_piece * (p - 1) + o) 0
placed_cell-stored stored zero o h = absurd (omega arith)
placed_cell-stored stored (suc b) o h = ap (λ n. get_or stored n 0) (omega arith)

-- the cell at an offset of a piece
pub get_or-sparse_in : (places stored : List ℕ) (s o p : ℕ) → s < board_pieces → o < board_piece → get_or places s 0 ≡ p → get_or (sparse places stored) (board_piece * s + o) 0 ≡ placed_cell stored p o
get_or-sparse_in places stored s o p h l e =
    let d : (board_piece * s + o) / board_piece ≡ s = omega arith in
    let m : (board_piece * s + o) % board_piece ≡ o = omega arith in
    get_or-sparse places stored (board_piece * s + o) (omega arith)
    ∙ ap (λ t. placed_cell stored (get_or places t 0) ((board_piece * s + o) % board_piece)) d
    ∙ ap (λ r. placed_cell stored (get_or places s 0) r) m
    ∙ ap (λ q. placed_cell stored q o) e

pub same_sparse : (ps xs qs ys : List ℕ) → ((t o : ℕ) → t < board_pieces → o < board_piece → placed_cell xs (get_or ps t 0) o ≡ placed_cell ys (get_or qs t 0) o) → sparse ps xs ≡ sparse qs ys
same_sparse ps xs qs ys each =
    let l = length-sparse ps xs in
    same_number_lists (sparse ps xs) (sparse qs ys) (l ∙ sym (length-sparse qs ys)) (λ k h.
    get_or-sparse ps xs k (omega arith) ∙ each (k / board_piece) (k % board_piece) (omega arith) (omega arith) ∙ sym (get_or-sparse qs ys k (omega arith)))

placed_byte : (stored : List ℕ) → AreBytes stored → (p o : ℕ) → placed_cell stored p o < 256
placed_byte stored small zero o = omega arith
placed_byte stored small (suc b) o = small (board_piece * b + o)

pub IsChip-sparse : (places stored : List ℕ) → AreBytes stored → IsChip (sparse places stored)
IsChip-sparse places stored small =
    let n = length-sparse places stored in
    record {
      cells = n;
      bytes = λ k. ⊎_elim
          (λ in_chip. subst (λ x. x < 256) (sym (get_or-sparse places stored k in_chip)) (placed_byte stored small (get_or places (k / board_piece) 0) (k % board_piece)))
          (λ out. let e = get_or_past (sparse places stored) k 0 (omega arith) in omega arith)
          (cases_lt k chip_size);
    }

-- ---- nothing is stored, and everything

none_placed : (n s : ℕ) → ◌≡◌ {A = ℕ} (get_or (replicate n 0) s 0) 0
none_placed n s = ⊎_elim
    (λ l. get_or-replicate n s 0 0 l)
    (λ out. let m : length (replicate {A = ℕ} n 0) ≡ n = length-replicate n 0 in get_or_past (replicate {A = ℕ} n 0) s 0 (omega arith))
    (cases_lt s n)

no_pieces : (n : ℕ) → stored_pieces (replicate n 0) ≡ 0
unfolding stored_pieces
no_pieces zero = refl
no_pieces (suc n) = no_pieces n

pub IsSparse-none : (n : ℕ) → IsSparse (replicate n 0) []
IsSparse-none n =
    let none = no_pieces n in
    record {
      count = omega arith;
      within = λ s. let e = none_placed n s in omega arith;
      apart = λ s t some same. let e = none_placed n s in absurd (omega arith);
    }

pub sparse-none : (stored : List ℕ) → sparse (replicate board_pieces 0) stored ≡ blank chip_size
sparse-none stored =
    let l = length-sparse (replicate board_pieces 0) stored in
    let m = length-blank chip_size in
    same_number_lists (sparse (replicate board_pieces 0) stored) (blank chip_size) (omega arith) (λ k h.
    get_or-sparse (replicate board_pieces 0) stored k (omega arith)
    ∙ ap (λ q. placed_cell stored q (k % board_piece)) (get_or-replicate board_pieces (k / board_piece) 0 0 (omega arith))
    ∙ sym (get_or-blank chip_size k 0 (omega arith)))

all_pieces : (places : List ℕ) → ((s : ℕ) → s < length places → 0 < get_or places s 0) → stored_pieces places ≡ length places
unfolding stored_pieces
all_pieces [] each = refl
all_pieces (zero ∷ ps) each = let h = each 0 (omega arith) in absurd (omega arith)
all_pieces (suc p ∷ ps) each = ap suc (all_pieces ps (λ s h. each (suc s) (omega arith)))

pub IsSparse-whole : (places stored : List ℕ) → length places ≡ board_pieces → length stored ≡ chip_size → ((s : ℕ) → s < board_pieces → get_or places s 0 ≡ s + 1) → IsSparse places stored
IsSparse-whole places stored n whole each =
    let all = all_pieces places (λ s h. let e = each s (omega arith) in omega arith) in
    record {
      count = omega arith;
      within = λ s. ⊎_elim
          (λ l. let e = each s l in omega arith)
          (λ out. let e = get_or_past places s 0 (omega arith) in omega arith)
          (cases_lt s board_pieces);
      apart = λ s t some same. ⊎_elim
          (λ l. ⊎_elim
          (λ m. let e = each s l in let f = each t m in omega arith)
          (λ out. let e = get_or_past places t 0 (omega arith) in absurd (omega arith))
          (cases_lt t board_pieces))
          (λ out. let e = get_or_past places s 0 (omega arith) in absurd (omega arith))
          (cases_lt s board_pieces);
    }

pub sparse-whole : (places stored : List ℕ) → length stored ≡ chip_size → ((s : ℕ) → s < board_pieces → get_or places s 0 ≡ s + 1) → sparse places stored ≡ stored
sparse-whole places stored whole each =
    let l = length-sparse places stored in
    same_number_lists (sparse places stored) stored (omega arith) (λ k h.
    get_or-sparse places stored k (omega arith)
    ∙ ap (λ q. placed_cell stored q (k % board_piece)) (each (k / board_piece) (omega arith))
    ∙ placed_cell-stored stored (k / board_piece + 1) (k % board_piece) (omega arith)
    ∙ ap (λ n. get_or stored n 0) (omega arith))

-- ---- a piece is stored

stored_pieces-le : (places : List ℕ) → stored_pieces places ≤ length places
unfolding stored_pieces
stored_pieces-le [] = omega arith
stored_pieces-le (zero ∷ ps) = let m = stored_pieces-le ps in omega arith
stored_pieces-le (suc p ∷ ps) = let m = stored_pieces-le ps in omega arith

-- One piece has no place yet, so not all pieces are stored.
pub stored_pieces-lt : (places : List ℕ) (s : ℕ) → s < length places → get_or places s 0 ≡ 0 → stored_pieces places < length places
unfolding stored_pieces
stored_pieces-lt [] s h e = absurd (omega arith)
stored_pieces-lt (zero ∷ ps) zero h e = let m = stored_pieces-le ps in omega arith
stored_pieces-lt (suc p ∷ ps) zero h e = absurd (omega arith)
stored_pieces-lt (zero ∷ ps) (suc s) h e = let m = stored_pieces-lt ps s (omega arith) e in omega arith
stored_pieces-lt (suc p ∷ ps) (suc s) h e = let m = stored_pieces-lt ps s (omega arith) e in omega arith

stored_pieces-set : (places : List ℕ) (s p : ℕ) → s < length places → get_or places s 0 ≡ 0 → 0 < p → stored_pieces (set places s p) ≡ stored_pieces places + 1
unfolding stored_pieces
stored_pieces-set [] s p h e l = absurd (omega arith)
stored_pieces-set (zero ∷ ps) zero zero h e l = absurd (omega arith)
stored_pieces-set (zero ∷ ps) zero (suc p) h e l = omega arith
stored_pieces-set (suc q ∷ ps) zero p h e l = absurd (omega arith)
stored_pieces-set (zero ∷ ps) (suc s) p h e l = stored_pieces-set ps s p (omega arith) e l
stored_pieces-set (suc q ∷ ps) (suc s) p h e l = let m = stored_pieces-set ps s p (omega arith) e l in omega arith

pub IsSparse-more : (places stored : List ℕ) (s p : ℕ) → IsSparse places stored → s < length places → get_or places s 0 ≡ 0 → board_piece * p ≡ length stored + board_piece → IsSparse (set places s p) (stored ++ blank board_piece)
IsSparse-more places stored s p old h none next =
    let c = old.count in
    let l = length-append stored (blank board_piece) in
    let b = length-blank board_piece in
    let n = stored_pieces-set places s p h none (omega arith) in
    let here : get_or (set places s p) s 0 ≡ p = get_or-set_same places s p 0 h in
    record {
      count = omega arith;
      within = λ t. ⊎_elim
          (λ e. let g : get_or (set places s p) t 0 ≡ p = ap (λ j. get_or (set places s p) j 0) e ∙ here in omega arith)
          (λ ne. let g = get_or-set_other places s t p 0 ne in let w = old.within t in omega arith)
          (cases_eq t s);
      apart = λ t u some same. ⊎_elim
          (λ e. ⊎_elim
          (λ f. e ∙ sym f)
          (λ nf. let a : get_or (set places s p) t 0 ≡ p = ap (λ j. get_or (set places s p) j 0) e ∙ here in
          let g = get_or-set_other places s u p 0 nf in let w = old.within u in absurd (omega arith))
          (cases_eq u s))
          (λ ne. let g = get_or-set_other places s t p 0 ne in let w = old.within t in ⊎_elim
          (λ f. let a : get_or (set places s p) u 0 ≡ p = ap (λ j. get_or (set places s p) j 0) f ∙ here in absurd (omega arith))
          (λ nf. let a = get_or-set_other places s u p 0 nf in old.apart t u (omega arith) (omega arith))
          (cases_eq u s))
          (cases_eq t s);
    }

placed_cell-more : (stored more : List ℕ) (q o : ℕ) → board_piece * q ≤ length stored → o < board_piece → placed_cell (stored ++ more) q o ≡ placed_cell stored q o
placed_cell-more stored more zero o h l = refl
placed_cell-more stored more (suc b) o h l = get_or_append_left stored more 0 (board_piece * b + o) (omega arith)

placed_cell-next : (stored : List ℕ) (p o : ℕ) → board_piece * p ≡ length stored + board_piece → o < board_piece → placed_cell (stored ++ blank board_piece) p o ≡ 255
placed_cell-next stored p o next l =
    placed_cell-stored (stored ++ blank board_piece) p o (omega arith)
    ∙ get_or-append_right stored (blank board_piece) (length stored) (board_piece * (p - 1) + o) 0 refl (omega arith)
    ∙ get_or-blank board_piece (board_piece * (p - 1) + o - length stored) 0 (omega arith)

pub sparse-more : (places stored : List ℕ) (s p : ℕ) → IsSparse places stored → s < length places → get_or places s 0 ≡ 0 → board_piece * p ≡ length stored + board_piece → sparse (set places s p) (stored ++ blank board_piece) ≡ sparse places stored
sparse-more places stored s p old h none next =
    let c = old.count in
    let here : get_or (set places s p) s 0 ≡ p = get_or-set_same places s p 0 h in
    same_sparse (set places s p) (stored ++ blank board_piece) places stored (λ t o in_chip in_piece. ⊎_elim
    (λ e. ap (λ q. placed_cell (stored ++ blank board_piece) q o) (ap (λ j. get_or (set places s p) j 0) e ∙ here) ∙ placed_cell-next stored p o next in_piece
    ∙ sym (ap (λ q. placed_cell stored q o) (ap (λ j. get_or places j 0) e ∙ none)))
    (λ ne. let w = old.within t in
    ap (λ q. placed_cell (stored ++ blank board_piece) q o) (get_or-set_other places s t p 0 ne) ∙ placed_cell-more stored (blank board_piece) (get_or places t 0) o (omega arith) in_piece)
    (cases_eq t s))

-- ---- what is read

pub part-sparse : (places stored : List ℕ) (s p at n : ℕ) → IsSparse places stored → get_or places s 0 ≡ p → 0 < p → s < board_pieces → at + n ≤ board_piece → part (sparse places stored) (board_piece * s + at) n ≡ part stored (board_piece * (p - 1) + at) n
part-sparse places stored s p at n old place some in_chip h =
    let l = length-sparse places stored in
    let c = old.count in
    let w = old.within s in
    let a = length-part (sparse places stored) (board_piece * s + at) n (omega arith) in
    let b = length-part stored (board_piece * (p - 1) + at) n (omega arith) in
    same_number_lists (part (sparse places stored) (board_piece * s + at) n) (part stored (board_piece * (p - 1) + at) n) (omega arith) (λ k i.
    get_or-part (sparse places stored) (board_piece * s + at) n k 0 (omega arith)
    ∙ ap (λ j. get_or (sparse places stored) j 0) (omega arith) ∙ get_or-sparse_in places stored s (at + k) p in_chip (omega arith) place
    ∙ placed_cell-stored stored p (at + k) some ∙ ap (λ j. get_or stored j 0) (omega arith)
    ∙ sym (get_or-part stored (board_piece * (p - 1) + at) n k 0 (omega arith)))

pub part-sparse_blank : (places stored : List ℕ) (s at n : ℕ) → get_or places s 0 ≡ 0 → s < board_pieces → at + n ≤ board_piece → part (sparse places stored) (board_piece * s + at) n ≡ blank n
part-sparse_blank places stored s at n none in_chip h =
    let l = length-sparse places stored in
    let a = length-part (sparse places stored) (board_piece * s + at) n (omega arith) in
    let b = length-blank n in
    same_number_lists (part (sparse places stored) (board_piece * s + at) n) (blank n) (omega arith) (λ k i.
    get_or-part (sparse places stored) (board_piece * s + at) n k 0 (omega arith)
    ∙ ap (λ j. get_or (sparse places stored) j 0) (omega arith) ∙ get_or-sparse_in places stored s (at + k) 0 in_chip (omega arith) none
    ∙ sym (get_or-blank n k 0 (omega arith)))

-- ---- what is written

pub IsSparse-same : (places old new : List ℕ) → IsSparse places old → length new ≡ length old → IsSparse places new
IsSparse-same places old new sparse n = record { count = n ∙ sparse.count; within = sparse.within; apart = sparse.apart }

-- a cell that was not written
kept : (stored : List ℕ) (q o at : ℕ) (bs : List ℕ) → at + length bs ≤ length stored → (0 < q → (board_piece * (q - 1) + o < at) ⊎ (at + length bs ≤ board_piece * (q - 1) + o)) → placed_cell (overwritten stored at bs) q o ≡ placed_cell stored q o
kept stored zero o at bs h outside = refl
kept stored (suc b) o at bs h outside =
    let e : board_piece * (suc b - 1) + o ≡ board_piece * b + o = omega arith in
    get_or-overwritten_outside stored at bs (board_piece * b + o) 0 h (subst (λ j. (j < at) ⊎ (at + length bs ≤ j)) e (outside (omega arith)))

kept_elsewhere : (places stored : List ℕ) (s p t o at : ℕ) (bs : List ℕ) → IsSparse places stored → get_or places s 0 ≡ p → 0 < p → at + length bs ≤ board_piece → o < board_piece → t ≢ s
    → placed_cell (overwritten stored (board_piece * (p - 1) + at) bs) (get_or places t 0) o ≡ placed_cell stored (get_or places t 0) o
kept_elsewhere places stored s p t o at bs old place some h l other =
    let c = old.count in
    let w = old.within s in
    kept stored (get_or places t 0) o (board_piece * (p - 1) + at) bs (omega arith) (λ has. ⊎_elim
    (λ below. inl (omega arith))
    (λ above. ⊎_elim
    (λ same. absurd (other (old.apart t s has (same ∙ sym place))))
    (λ differ. inr (omega arith))
    (cases_eq (get_or places t 0) p))
    (cases_lt (get_or places t 0) p))

kept_beside : (places stored : List ℕ) (s p o at : ℕ) (bs : List ℕ) → IsSparse places stored → get_or places s 0 ≡ p → 0 < p → at + length bs ≤ board_piece → (o < at) ⊎ (at + length bs ≤ o) → o < board_piece
    → placed_cell (overwritten stored (board_piece * (p - 1) + at) bs) p o ≡ placed_cell stored p o
kept_beside places stored s p o at bs old place some h beside l =
    let c = old.count in
    let w = old.within s in
    kept stored p o (board_piece * (p - 1) + at) bs (omega arith) (λ has. ⊎_elim (λ below. inl (omega arith)) (λ above. inr (omega arith)) beside)

written : (places stored : List ℕ) (s p j at : ℕ) (bs : List ℕ) → IsSparse places stored → get_or places s 0 ≡ p → 0 < p → at + length bs ≤ board_piece → j < length bs
    → placed_cell (overwritten stored (board_piece * (p - 1) + at) bs) p (at + j) ≡ get_or bs j 0
written places stored s p j at bs old place some h i =
    let c = old.count in
    let w = old.within s in
    placed_cell-stored (overwritten stored (board_piece * (p - 1) + at) bs) p (at + j) some
    ∙ ap (λ n. get_or (overwritten stored (board_piece * (p - 1) + at) bs) n 0) (omega arith)
    ∙ get_or-overwritten_inside stored (board_piece * (p - 1) + at) bs j 0 (omega arith) i

pub sparse-overwritten : (places stored : List ℕ) (s p at : ℕ) (bs : List ℕ) → IsSparse places stored → get_or places s 0 ≡ p → 0 < p → s < board_pieces → at + length bs ≤ board_piece
    → sparse places (overwritten stored (board_piece * (p - 1) + at) bs) ≡ overwritten (sparse places stored) (board_piece * s + at) bs
sparse-overwritten places stored s p at bs old place some in_chip h =
    let new = overwritten stored (board_piece * (p - 1) + at) bs in
    let l = length-sparse places stored in
    let m = length-sparse places new in
    let o = length-overwritten (sparse places stored) (board_piece * s + at) bs (omega arith) in
    same_number_lists (sparse places new) (overwritten (sparse places stored) (board_piece * s + at) bs) (omega arith) (λ k i.
    let same_cell = λ (e : placed_cell new (get_or places (k / board_piece) 0) (k % board_piece) ≡ placed_cell stored (get_or places (k / board_piece) 0) (k % board_piece)) (out : (k < board_piece * s + at) ⊎ (board_piece * s + at + length bs ≤ k)).
    get_or-sparse places new k (omega arith) ∙ e ∙ sym (get_or-sparse places stored k (omega arith)) ∙ sym (get_or-overwritten_outside (sparse places stored) (board_piece * s + at) bs k 0 (omega arith) out) in
    ⊎_elim
    (λ here. let same_place : get_or places (k / board_piece) 0 ≡ p = ap (λ t. get_or places t 0) here ∙ place in ⊎_elim
    (λ before. same_cell (subst (λ q. placed_cell new q (k % board_piece) ≡ placed_cell stored q (k % board_piece)) (sym same_place) (kept_beside places stored s p (k % board_piece) at bs old place some h (inl before) (omega arith))) (inl (omega arith)))
    (λ later. ⊎_elim
    (λ inside. let e : at + (k % board_piece - at) ≡ k % board_piece = omega arith in
    let f : board_piece * s + at + (k % board_piece - at) ≡ k = omega arith in
    get_or-sparse places new k (omega arith) ∙ ap (λ q. placed_cell new q (k % board_piece)) same_place ∙ ap (λ r. placed_cell new p r) (sym e)
    ∙ written places stored s p (k % board_piece - at) at bs old place some h (omega arith)
    ∙ sym (get_or-overwritten_inside (sparse places stored) (board_piece * s + at) bs (k % board_piece - at) 0 (omega arith) (omega arith))
    ∙ ap (λ n. get_or (overwritten (sparse places stored) (board_piece * s + at) bs) n 0) f)
    (λ after. same_cell (subst (λ q. placed_cell new q (k % board_piece) ≡ placed_cell stored q (k % board_piece)) (sym same_place) (kept_beside places stored s p (k % board_piece) at bs old place some h (inr after) (omega arith))) (inr (omega arith)))
    (cases_lt (k % board_piece) (at + length bs)))
    (cases_lt (k % board_piece) at))
    (λ other. same_cell (kept_elsewhere places stored s p (k / board_piece) (k % board_piece) at bs old place some h (omega arith) other) (⊎_elim (λ below. inl (omega arith)) (λ above. inr (omega arith)) (cases_lt (k / board_piece) s)))
    (cases_eq (k / board_piece) s))

pub sparse-programmed : (places stored : List ℕ) (s p at : ℕ) (bs : List ℕ) → IsSparse places stored → get_or places s 0 ≡ p → 0 < p → s < board_pieces → at + length bs ≤ board_piece
    → sparse places (programmed stored (board_piece * (p - 1) + at) bs) ≡ programmed (sparse places stored) (board_piece * s + at) bs
unfolding programmed
sparse-programmed places stored s p at bs old place some in_chip h =
    let c = old.count in
    let w = old.within s in
    let l = length-part stored (board_piece * (p - 1) + at) (length bs) (omega arith) in
    let n = length-and_each (part stored (board_piece * (p - 1) + at) (length bs)) bs l in
    sparse-overwritten places stored s p at (and_each (part stored (board_piece * (p - 1) + at) (length bs)) bs) old place some in_chip (omega arith)
    ∙ ap (λ ys. overwritten (sparse places stored) (board_piece * s + at) (and_each ys bs)) (sym (part-sparse places stored s p at (length bs) old place some in_chip h))

-- ---- piece by piece

and_each-append : (xs ys bs cs : List ℕ) → length xs ≡ length bs → and_each (xs ++ ys) (bs ++ cs) ≡ and_each xs bs ++ and_each ys cs
unfolding and_each
and_each-append [] ys [] cs h = refl
and_each-append [] ys (b ∷ bs) cs h = absurd (omega arith)
and_each-append (x ∷ xs) ys [] cs h = absurd (omega arith)
and_each-append (x ∷ xs) ys (b ∷ bs) cs h = ap (λ zs. bit_and x b ∷ zs) (and_each-append xs ys bs cs (omega arith))

pub programmed_none : (cells : List ℕ) (at : ℕ) (bs : List ℕ) → length bs ≡ 0 → at ≤ length cells → programmed cells at bs ≡ cells
unfolding programmed
programmed_none cells at bs none h =
    let p = length-part cells at (length bs) (omega arith) in
    let n = length-and_each (part cells at (length bs)) bs p in
    ap (overwritten cells at) (same_number_lists (and_each (part cells at (length bs)) bs) (part cells at (length bs)) (omega arith) (λ k i. absurd (omega arith)))
    ∙ overwritten_same cells at (length bs) (omega arith)

-- two programs, the second after the first
pub programmed_next : (cells : List ℕ) (at : ℕ) (bs cs : List ℕ) → at + (length bs + length cs) ≤ length cells → programmed (programmed cells at bs) (at + length bs) cs ≡ programmed cells at (bs ++ cs)
unfolding programmed
programmed_next cells at bs cs h =
    let x = and_each (part cells at (length bs)) bs in
    let y = and_each (part cells (at + length bs) (length cs)) cs in
    let p = length-part cells at (length bs) (omega arith) in
    let q = length-part cells (at + length bs) (length cs) (omega arith) in
    let m : length x ≡ length bs = length-and_each (part cells at (length bs)) bs p in
    let n : length y ≡ length cs = length-and_each (part cells (at + length bs) (length cs)) cs q in
    let l = length-append bs cs in
    ap (λ ys. overwritten (overwritten cells at x) (at + length bs) (and_each ys cs)) (part-overwritten_apart cells at x (at + length bs) (length cs) (omega arith) (omega arith) (inr (omega arith)))
    ∙ ap (λ k. overwritten (overwritten cells at x) (at + k) y) (sym m)
    ∙ overwritten_next cells at x y (omega arith)
    ∙ ap (overwritten cells at) (sym (and_each-append (part cells at (length bs)) (part cells (at + length bs) (length cs)) bs cs p))
    ∙ ap (λ ys. overwritten cells at (and_each ys (bs ++ cs))) (part-append-part cells at (length bs) (length cs) h ∙ ap (part cells at) (sym l))

pub erased_piece : (places stored : List ℕ) (s p : ℕ) → IsSparse places stored → get_or places s 0 ≡ p → 0 < p → s < board_pieces → sparse places (overwritten stored (board_piece * (p - 1)) (blank board_piece)) ≡ overwritten (sparse places stored) (board_piece * s) (blank board_piece)
erased_piece places stored s p old place some in_chip =
    let b = length-blank board_piece in
    let a : board_piece * (p - 1) ≡ board_piece * (p - 1) + 0 = omega arith in
    let c : board_piece * s + 0 ≡ board_piece * s = omega arith in
    ap (λ n. sparse places (overwritten stored n (blank board_piece))) a
    ∙ sparse-overwritten places stored s p 0 (blank board_piece) old place some in_chip (omega arith)
    ∙ ap (λ n. overwritten (sparse places stored) n (blank board_piece)) c

-- a piece that is not stored is as an erase leaves it
pub erased_piece_blank : (places stored : List ℕ) (s : ℕ) → get_or places s 0 ≡ 0 → s < board_pieces → sparse places stored ≡ overwritten (sparse places stored) (board_piece * s) (blank board_piece)
erased_piece_blank places stored s none in_chip =
    let l = length-sparse places stored in
    let c : board_piece * s + 0 ≡ board_piece * s = omega arith in
    sym (overwritten_same (sparse places stored) (board_piece * s) board_piece (omega arith))
    ∙ ap (λ xs. overwritten (sparse places stored) (board_piece * s) xs) (ap (λ n. part (sparse places stored) n board_piece) (sym c) ∙ part-sparse_blank places stored s 0 board_piece none in_chip (omega arith))

pub overwritten_blank_none : (cells : List ℕ) (at n : ℕ) → n ≡ 0 → at ≤ length cells → overwritten cells at (blank n) ≡ cells
overwritten_blank_none cells at n none h =
    let b = length-blank n in
    let p = length-part cells at 0 (omega arith) in
    ap (overwritten cells at) (same_number_lists (blank n) (part cells at 0) (omega arith) (λ k i. absurd (omega arith))) ∙ overwritten_same cells at 0 (omega arith)

-- blank cells after others that became blank
pub overwritten_blank_next : (cells : List ℕ) (at m n : ℕ) → at + (m + n) ≤ length cells → overwritten (overwritten cells at (blank m)) (at + m) (blank n) ≡ overwritten cells at (blank (m + n))
unfolding blank
overwritten_blank_next cells at m n h =
    let a = length-blank m in
    let b = length-blank n in
    ap (λ k. overwritten (overwritten cells at (blank m)) (at + k) (blank n)) (sym a) ∙ overwritten_next cells at (blank m) (blank n) (omega arith)
    ∙ ap (overwritten cells at) (replicate-append-replicate m n 255)

-- ---- what is read, piece by piece

pub read_next : (image into : List ℕ) (at done n : ℕ) → at + (done + n) ≤ length image → done + n ≤ length into → part into 0 done ≡ part image at done → part (overwritten into done (part image (at + done) n)) 0 (done + n) ≡ part image at (done + n)
read_next image into at done n h l before =
    let p = length-part image (at + done) n (omega arith) in
    let o = length-overwritten into done (part image (at + done) n) (omega arith) in
    sym (part-append-part (overwritten into done (part image (at + done) n)) 0 done n (omega arith))
    ∙ ap (λ xs. xs ++ part (overwritten into done (part image (at + done) n)) (0 + done) n) (part-overwritten_apart into done (part image (at + done) n) 0 done (omega arith) (omega arith) (inl (omega arith)) ∙ before)
    ∙ ap (λ xs. part image at done ++ xs) (ap (λ k. part (overwritten into done (part image (at + done) n)) k n) (omega arith) ∙ ap (part (overwritten into done (part image (at + done) n)) done) (sym p) ∙ part-overwritten_at into done (part image (at + done) n) (omega arith))
    ∙ part-append-part image at done n h

-- A page that is copied piece by piece.
use Rattle.std.proofs.Common.{◌≡◌, ◌≢◌, ◌⊎◌, ℕ, ◌+◌, ◌*◌, ◌<◌, ◌≤◌, List, ◌++◌, length, get_or, drop, sym, ap, ◌∙◌, inl, inr, ⊎_elim, arith}
use Rattle.std.proofs.lemmas.Bool.{cases_lt}
use Rattle.std.proofs.lemmas.List.{get_or_past, length-take}
use Rattle.dg_words.specs.Cells.{part, overwritten, AreBytes}
use Rattle.dg_words.proofs.CellLemmas.{length-part, get_or-part, part-append-part, part-overwritten_at, part-overwritten_apart, overwritten_next}
use Rattle.dg_nor.specs.Sizes.{sector_size}
use Rattle.dg_nor.specs.Chip.{blank, sector, programmed}
use Rattle.dg_nor.proofs.ChipLemmas.{length-blank, part-blank, programmed_blank}

-- ---- bytes of a part

pub AreBytes-part : (xs : List ℕ) (at n : ℕ) → AreBytes xs → AreBytes (part xs at n)
unfolding part
AreBytes-part xs at n h k =
    ⊎_elim
    (λ lt. rw (get_or-part xs at n k 0 lt) (h (at + k)))
    (λ ge. let past : get_or (part xs at n) k 0 ≡ 0 = get_or_past (part xs at n) k 0 (omega (arith, length-take n (drop at xs))) in rw past (omega arith))
    (cases_lt k n)

pub AreBytes-sector : (image : List ℕ) (k : ℕ) → AreBytes image → AreBytes (sector image k)
unfolding sector
AreBytes-sector image k h = AreBytes-part image (sector_size * k) sector_size h

zero_plus : (a n : ℕ) → a ≡ n → 0 + a ≡ n
zero_plus a n e = omega arith

-- ---- a page that is copied piece by piece

-- nothing was written yet
pub copy_none : (s new : List ℕ) → new ≡ blank sector_size → new ≡ overwritten (blank sector_size) 0 (part s 0 0)
unfolding part overwritten
copy_none s new e = e

-- the piece after those that were written
pub copy_more : (s old new bs : List ℕ) (n m k : ℕ) → length s ≡ sector_size → AreBytes s → old ≡ overwritten (blank sector_size) 0 (part s 0 n) → new ≡ programmed old n bs → bs ≡ part s n m → n + m ≡ k → k ≤ sector_size
    → new ≡ overwritten (blank sector_size) 0 (part s 0 k)
copy_more s old new bs n m k whole small e p same sum fits =
    let l = length-blank sector_size in
    let ln : length (part s 0 n) ≡ n = length-part s 0 n (omega arith) in
    let lm : length (part s n m) ≡ m = length-part s n m (omega arith) in
    let clear : part old n (length (part s n m)) ≡ blank (length (part s n m)) =
    ap (λ c. part c n (length (part s n m))) e
    ∙ part-overwritten_apart (blank sector_size) 0 (part s 0 n) n (length (part s n m)) (omega arith) (omega arith) (inr (omega arith))
    ∙ part-blank sector_size n (length (part s n m)) (omega arith) in
    let joined : part s 0 n ++ part s (0 + n) m ≡ part s 0 (n + m) = part-append-part s 0 n m (omega arith) in
    let zero : 0 + n ≡ n = omega arith in
    p ∙ ap (programmed old n) same ∙ programmed_blank old n (part s n m) (AreBytes-part s n m small) clear
    ∙ ap (λ c. overwritten c n (part s n m)) e ∙ ap (λ x. overwritten (overwritten (blank sector_size) 0 (part s 0 n)) x (part s n m)) (sym (zero_plus (length (part s 0 n)) n ln))
    ∙ overwritten_next (blank sector_size) 0 (part s 0 n) (part s n m) (omega arith)
    ∙ ap (λ x. overwritten (blank sector_size) 0 (part s 0 n ++ part s x m)) (sym zero) ∙ ap (overwritten (blank sector_size) 0) joined ∙ ap (λ x. overwritten (blank sector_size) 0 (part s 0 x)) sum

-- all of them
pub copy_all : (s new : List ℕ) (n : ℕ) → length s ≡ sector_size → n ≤ sector_size → new ≡ overwritten (blank sector_size) 0 (part s 0 n) → part new 0 n ≡ part s 0 n
copy_all s new n whole fits e =
    let l = length-blank sector_size in
    let ln : length (part s 0 n) ≡ n = length-part s 0 n (omega arith) in
    ap (λ c. part c 0 n) e ∙ ap (part (overwritten (blank sector_size) 0 (part s 0 n)) 0) (sym ln) ∙ part-overwritten_at (blank sector_size) 0 (part s 0 n) (omega arith)

-- a sector is before another, or after it
pub apart : (j k : ℕ) → j ≢ k → (j < k) ⊎ (k + 1 ≤ j)
apart j k ne = ⊎_elim (λ lt. inl lt) (λ ge. inr (omega arith)) (cases_lt j k)

-- The checksum of the first bytes of a page, while it is copied.
use Rattle.std.proofs.Common.{◌≡◌, ℕ, ◌+◌, ◌-◌, ◌≤◌, min, List, length, take, drop, refl, sym, ap, ◌∙◌, ⊎_elim, arith}
use Rattle.std.proofs.lemmas.Bool.{cases_lt}
use Rattle.std.proofs.lemmas.List.{take-take}
use Rattle.dg_words.specs.Cells.{part}
use Rattle.dg_base.specs.Crc.{crc_more}
use Rattle.dg_slot.proofs.PageLemmas.{crc_none, crc_piece}

take-part : (cells : List ℕ) (at n m : ℕ) → n ≤ m → take n (part cells at m) ≡ part cells at n
unfolding part
take-part cells at n m h = take-take n m (drop at cells) h

-- a prefix of a piece that was read
pub crc_front : (cells read : List ℕ) (at n m before more : ℕ) → more ≡ crc_more before (take n read) → read ≡ part cells at m → n ≤ m → more ≡ crc_more before (part cells at n)
crc_front cells read at n m before more e same h = e ∙ ap (λ (x : List ℕ). crc_more before (take n x)) same ∙ ap (crc_more before) (take-part cells at n m h)

pub sum_none : (cells : List ℕ) (n before : ℕ) → n ≡ 0 → before ≡ crc_more before (part cells 0 n)
sum_none cells n before e = crc_none cells 0 before ∙ ap (λ (m : ℕ). crc_more before (part cells 0 m)) (sym e)

-- one more piece, of m bytes from `at` on, of which those before `count` are summed
pub sum_more : (cells : List ℕ) (count before crc more at m k : ℕ) → crc ≡ crc_more before (part cells 0 (min at count)) → more ≡ crc_more crc (part cells at (min (count - at) m)) → at + m ≡ k → k ≤ length cells
    → more ≡ crc_more before (part cells 0 (min k count))
sum_more cells count before crc more at m k e f sum fits =
    let n = min (count - at) m in
    ⊎_elim
    (λ less.
    let none : n ≡ 0 = omega arith in
    let same : min at count ≡ min k count = omega arith in
    f ∙ ap (λ (x : ℕ). crc_more crc (part cells at x)) none ∙ sym (crc_none cells at crc) ∙ e ∙ ap (λ (x : ℕ). crc_more before (part cells 0 x)) same)
    (λ more_of.
    let here : min at count ≡ at = omega arith in
    let e' : crc ≡ crc_more before (part cells 0 at) = e ∙ ap (λ (x : ℕ). crc_more before (part cells 0 x)) here in
    crc_piece cells cells 0 before crc more at n n at (min k count) e' f refl refl (omega arith) (omega arith) (omega arith))
    (cases_lt count at)

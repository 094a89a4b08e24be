-- A range of stored cells that is blank: to program them is to copy, and what is erased or newly stored is blank too.
use Rattle.std.proofs.Common.{◌≡◌, ◌⊎◌, ℕ, ◌+◌, ◌-◌, ◌<◌, ◌≤◌, List, ◌++◌, length, get_or, refl, sym, ap, ◌∙◌, inl, inr, ⊎_elim, arith}
use Rattle.std.proofs.lemmas.List.{length-append, get_or_append_left, get_or-append_right}
use Rattle.std.proofs.lemmas.Bool.{cases_lt}
use Rattle.std.proofs.lemmas.Grind.{same_number_lists}
use Rattle.dg_words.specs.Cells.{part, overwritten}
use Rattle.dg_words.proofs.CellLemmas.{length-part, get_or-part, get_or-overwritten_inside, get_or-overwritten_outside}
use Rattle.dg_nor.specs.Chip.{blank, and_each, programmed}
use Rattle.dg_nor.specs.Sparse.{IsBlankIn}
use Rattle.dg_nor.proofs.ChipLemmas.{length-blank, get_or-blank, length-and_each}

pub IsBlankIn-none : (cells : List ℕ) (from to : ℕ) → to ≤ from → IsBlankIn cells from to
IsBlankIn-none cells from to none = record { each = λ k a i. absurd (omega arith) }

pub IsBlankIn-part : (cells : List ℕ) (from to at n : ℕ) → IsBlankIn cells from to → from ≤ at → at + n ≤ to → at + n ≤ length cells → part cells at n ≡ blank n
IsBlankIn-part cells from to at n clear later inside h =
    let p = length-part cells at n h in
    let b = length-blank n in
    same_number_lists (part cells at n) (blank n) (omega arith) (λ k i.
    get_or-part cells at n k 0 (omega arith) ∙ clear.each (at + k) (omega arith) (omega arith) ∙ sym (get_or-blank n k 0 (omega arith)))

pub IsBlankIn-programmed : (cells : List ℕ) (from to at m : ℕ) (bs : List ℕ) → IsBlankIn cells from to → at + length bs ≤ length cells → from ≤ m → (at < to → at + length bs ≤ m) → IsBlankIn (programmed cells at bs) m to
unfolding programmed
IsBlankIn-programmed cells from to at m bs clear h l behind =
    let x = and_each (part cells at (length bs)) bs in
    let p = length-part cells at (length bs) h in
    let n : length x ≡ length bs = length-and_each (part cells at (length bs)) bs p in
    record {
      each = λ k a i. ⊎_elim
          (λ reached. let e = behind reached in get_or-overwritten_outside cells at x k 0 (omega arith) (inr (omega arith)) ∙ clear.each k (omega arith) (omega arith))
          (λ apart. get_or-overwritten_outside cells at x k 0 (omega arith) (inl (omega arith)) ∙ clear.each k (omega arith) (omega arith))
          (cases_lt at to);
    }

pub IsBlankIn-more : (cells : List ℕ) (from to at m n : ℕ) → IsBlankIn cells from to → at ≡ length cells → (m ≡ at) ⊎ ((to ≡ at) × (m ≡ from)) → IsBlankIn (cells ++ blank n) m (at + n)
IsBlankIn-more cells from to at m n clear end joined =
    let b = length-blank n in
    let l = length-append cells (blank n) in
    record {
      each = λ k a i. ⊎_elim
          (λ inside. ⊎_elim
          (λ alone. absurd (omega arith))
          (λ taken. let e = taken.0 in let f = taken.1 in get_or_append_left cells (blank n) 0 k (omega arith) ∙ clear.each k (omega arith) (omega arith))
          joined)
          (λ behind. get_or-append_right cells (blank n) (length cells) k 0 refl (omega arith) ∙ get_or-blank n (k - length cells) 0 (omega arith))
          (cases_lt k at);
    }

pub IsBlankIn-erased : (cells : List ℕ) (from to at m n : ℕ) → IsBlankIn cells from to → at + n ≤ length cells → (m ≡ at) ⊎ ((to ≡ at) × (m ≡ from)) → IsBlankIn (overwritten cells at (blank n)) m (at + n)
IsBlankIn-erased cells from to at m n clear h joined =
    let b = length-blank n in
    record {
      each = λ k a i. ⊎_elim
          (λ before. ⊎_elim
          (λ alone. absurd (omega arith))
          (λ taken. let e = taken.0 in let f = taken.1 in
          get_or-overwritten_outside cells at (blank n) k 0 (omega arith) (inl before) ∙ clear.each k (omega arith) (omega arith))
          joined)
          (λ later. let e : at + (k - at) ≡ k = omega arith in
          ap (λ j. get_or (overwritten cells at (blank n)) j 0) (sym e) ∙ get_or-overwritten_inside cells at (blank n) (k - at) 0 (omega arith) (omega arith) ∙ get_or-blank n (k - at) 0 (omega arith))
          (cases_lt k at);
    }

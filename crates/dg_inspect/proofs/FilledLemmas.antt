-- A file that is shorter than a chip: the cells after its bytes are blank.
use Rattle.std.proofs.Common.{◌≡◌, ℕ, ◌+◌, ◌-◌, ◌<◌, ◌≤◌, List, ◌++◌, length, get_or, refl, ap, ◌∙◌, arith, ⊎_elim}
use Rattle.std.proofs.lemmas.List.{length-append, get_or_append_left, get_or-append_right, get_or_past}
use Rattle.std.proofs.lemmas.Bool.{cases_lt}
use Rattle.dg_words.specs.Cells.{AreBytes}
use Rattle.dg_nor.specs.Sizes.{chip_size}
use Rattle.dg_nor.specs.Chip.{IsChip, blank}
use Rattle.dg_nor.proofs.ChipLemmas.{length-blank, get_or-blank}

-- the cells of a chip that begins with these, and is blank after them
unfoldable pub filled : List ℕ → List ℕ
filled cells = cells ++ blank (chip_size - length cells)

length-filled : (xs : List ℕ) → length xs ≤ chip_size → length (filled xs) ≡ chip_size
unfolding filled
length-filled xs h =
    let l = length-blank (chip_size - length xs) in
    length-append xs (blank (chip_size - length xs)) ∙ ap (λ n. length xs + n) l ∙ omega arith

-- a cell that the file has, and one that it lacks
get_or-filled_held : (xs : List ℕ) (k : ℕ) → k < length xs → get_or (filled xs) k 0 ≡ get_or xs k 0
unfolding filled
get_or-filled_held xs k h = get_or_append_left xs (blank (chip_size - length xs)) 0 k h

get_or-filled_behind : (xs : List ℕ) (k : ℕ) → length xs ≤ k → k < chip_size → get_or (filled xs) k 0 ≡ 255
unfolding filled
get_or-filled_behind xs k h l =
    get_or-append_right xs (blank (chip_size - length xs)) (length xs) k 0 refl h ∙ get_or-blank (chip_size - length xs) (k - length xs) 0 (omega arith)

pub IsChip-filled : (xs : List ℕ) → length xs ≤ chip_size → AreBytes xs → IsChip (filled xs)
IsChip-filled xs h small =
    let n = length-filled xs h in
    record {
      cells = n;
      bytes = λ k. ⊎_elim
          (λ held. let e = get_or-filled_held xs k held in let s = small k in omega arith)
          (λ behind. ⊎_elim
          (λ in_chip. let e = get_or-filled_behind xs k behind in_chip in omega arith)
          (λ out. let e = get_or_past (filled xs) k 0 (omega arith) in omega arith)
          (cases_lt k chip_size))
          (cases_lt k (length xs));
    }

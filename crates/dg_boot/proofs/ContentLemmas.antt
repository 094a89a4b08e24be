-- The checksum of an image's bytes, page by page.
use Rattle.std.proofs.Common.{◌≡◌, ℕ, suc, ◌+◌, ◌-◌, ◌/◌, ◌%◌, ◌<◌, ◌≤◌, min, List, [], ◌++◌, map, length, take, drop, sym, ap, ◌∙◌, ⊎_elim, arith}
use Rattle.std.specs.List.{range_with_len}
use Rattle.std.proofs.lemmas.Bool.{cases_lt}
use Rattle.std.proofs.lemmas.List.{take-append-le, take-take, take_all}
use Rattle.std.proofs.Math.Seq.{take-append-add}
use Rattle.dg_words.specs.Lists.{concatenated, tabulate}
use Rattle.dg_words.specs.Cells.{part}
use Rattle.dg_words.proofs.CellLemmas.{length-part}
use Rattle.dg_base.specs.Crc.{crc_more}
use Rattle.dg_object.specs.Object.{content, pages_for}
use Rattle.dg_slot.specs.Layout.{page_size, most_pages, most_bytes}
use Rattle.dg_base.proofs.CrcLemmas.{crc_more-append, crc_more-nil}

-- a prefix of a part
take-part : (cells : List ℕ) (n m : ℕ) → n ≤ m → take n (part cells 0 m) ≡ part cells 0 n
unfolding part
take-part cells n m h = take-take n m (drop 0 cells) h

-- one more page is summed
pub page_summed : (f : ℕ → List ℕ) (cells : List ℕ) (left count a m crc more total : ℕ) → f a ≡ part cells 0 page_size → page_size ≤ length cells → count ≡ min left page_size → more ≡ crc_more crc (part cells 0 count)
    → crc_more crc (take left (concatenated (map f (range_with_len a (suc m))))) ≡ total → crc_more more (take (left - page_size) (concatenated (map f (range_with_len (a + 1) m)))) ≡ total
page_summed f cells left count a m crc more total page whole counted e before =
    let rest = concatenated (map f (range_with_len (a + 1) m)) in
    let long : length (f a) ≡ page_size = ap length page ∙ length-part cells 0 page_size (omega arith) in
    ⊎_elim
    (λ last.
    let c : count ≡ left = omega arith in
    let none : left - page_size ≡ 0 = omega arith in
    let front : take left (f a ++ rest) ≡ part cells 0 left = take-append-le left (f a) rest (omega arith) ∙ ap (take left) page ∙ take-part cells left page_size (omega arith) in
    ap (λ n. crc_more more (take n rest)) none ∙ crc_more-nil more ∙ e ∙ ap (λ n. crc_more crc (part cells 0 n)) c ∙ ap (crc_more crc) (sym front) ∙ before)
    (λ some.
    let c : count ≡ page_size = omega arith in
    let sum : left ≡ length (f a) + (left - page_size) = omega arith in
    let front : take left (f a ++ rest) ≡ f a ++ take (left - page_size) rest = ap (λ n. take n (f a ++ rest)) sum ∙ take-append-add (f a) rest (left - page_size) in
    let here : more ≡ crc_more crc (f a) = e ∙ ap (λ n. crc_more crc (part cells 0 n)) c ∙ ap (crc_more crc) (sym page) in
    ap (λ n. crc_more n (take (left - page_size) rest)) here ∙ crc_more-append crc (f a) (take (left - page_size) rest) ∙ ap (crc_more crc) (sym front) ∙ before)
    (cases_lt left (page_size + 1))

-- ---- the image's bytes in a table of pages

pub content-tabulate : (len n m : ℕ) (f : ℕ → List ℕ) → n ≡ suc m → content len (tabulate n f) ≡ take len (concatenated (map f (range_with_len 1 m)))
content-tabulate len n m f e = ap (λ (k : ℕ). content len (tabulate k f)) e

-- nothing is left
pub all_summed : (f : ℕ → List ℕ) (left a m crc total : ℕ) → m ≡ 0 → crc_more crc (take left (concatenated (map f (range_with_len a m)))) ≡ total → crc ≡ total
all_summed f left a m crc total none e =
    let empty : take left (concatenated (map f (range_with_len a m))) ≡ [] = ap (λ (k : ℕ). take left (concatenated (map f (range_with_len a k)))) none ∙ take_nothing left in
    sym (crc_more-nil crc) ∙ ap (crc_more crc) (sym empty) ∙ e
  where
    take_nothing : (n : ℕ) → take {A = ℕ} n [] ≡ []
    take_nothing n = take_all n [] (omega arith)

-- as many pages are begun as hold the bytes
pub pages_begun : (len m : ℕ) → m ≡ len / page_size + min 1 (len % page_size) → pages_for len ≡ suc m
pages_begun len m e = omega arith

-- the last page of an image
pub page_inside : (len m p : ℕ) → m ≡ len / page_size + min 1 (len % page_size) → len ≤ most_bytes → p < m → p + 2 ≤ most_pages
page_inside len m p e fits h = omega arith

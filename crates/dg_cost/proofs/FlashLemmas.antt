-- The rows of programs and erases are those of the run that was counted.
use Rattle.std.proofs.Common.{◌≡◌, ℕ, zero, suc, ◌+◌, ◌-◌, ◌^◌, ◌<◌, ◌≤◌, List, [], ◌∷◌, ◌++◌, min, refl, sym, ap, ◌∙◌, append_assoc, arith}
use Rattle.std.specs.Prelude.{slice_get, slice_index, slice_index_or, Option, Some, None}
use Rattle.std.specs.List.{sum}
use Rattle.dg_nor.specs.Device.{PartsRise}
use Rattle.dg_meter.specs.Shares.{both, those_since}
use Rattle.dg_meter.specs.Tallies.{counts_of}
use Rattle.dg_meter.specs.declared.share.Share.{Share}
use Rattle.dg_meter.specs.declared.shares.Shares.{Shares}
use Rattle.dg_meter.specs.declared.tally.Tally.{Tally}
use Rattle.dg_cost_text.specs.Table.{share_rows}
use Rattle.dg_cost.specs.EventRows.{HasRows}
use Rattle.dg_cost.specs.FlashRows.{part_rows, flash_run_rows, count_keys, HasFlashRows}
use Rattle.dg_cost.proofs.RowLemmas.{Entries, then_rows}

-- ---- rows that are added

-- the two rows of a part
pub part_added : {new : Entries} (old : Entries) (before name : List ℕ) (s earlier late : Share) → new ≡ old ++ share_rows before name s.count s.bytes → s ≡ those_since earlier late
    → new ≡ old ++ part_rows before name earlier late
part_added old before name s earlier late is same = is ∙ ap (λ (t : Share). old ++ share_rows before name t.count t.bytes) same

-- without what was counted of two parts together
pub both_since : (s x y a b c d : Share) → s ≡ those_since x y → x ≡ both a b → y ≡ both c d → s ≡ those_since (both a b) (both c d)
both_since s x y a b c d is first next = is ∙ ap (λ (t : Share). those_since t y) first ∙ ap (λ (t : Share). those_since (both a b) t) next

pub five_added : {first second third fourth fifth : Entries} (old p q r s t : Entries) → first ≡ old ++ p → second ≡ first ++ q → third ≡ second ++ r → fourth ≡ third ++ s
    → fifth ≡ fourth ++ t → fifth ≡ old ++ (p ++ (q ++ (r ++ (s ++ t))))
five_added {first} {second} {third} {fourth} {fifth} old p q r s t e f g h i =
    then_rows old p (q ++ (r ++ (s ++ t))) e (then_rows first q (r ++ (s ++ t)) f (then_rows second r (s ++ t) g (then_rows third s t h i)))

-- ---- one row of a table

none_some : {A : Type 0} (x : A) → None ≡ Some x → ⊥
none_some x e = cc

same_some : {A : Type 0} (x y : A) → Some x ≡ Some y → x ≡ y
same_some x y e = cc

row_split : (rows : Entries) (i : ℕ) (r : List ℕ × ℕ) → slice_get rows i ≡ Some r → (x : Entries) × (y : Entries) × (rows ≡ x ++ r ∷ y)
row_split [] i r there = absurd (none_some r there)
row_split (q ∷ rows) zero r there = ([], rows, ap (λ (z : List ℕ × ℕ). z ∷ rows) (same_some q r there))
row_split (q ∷ rows) (suc i) r there =
    let s = row_split rows i r there in (q ∷ s.0, s.1, ap (λ (l : Entries). q ∷ l) s.2)

row_in : {table : Entries} (rows : Entries) (i : ℕ) (r : List ℕ × ℕ) → slice_get rows i ≡ Some r → HasRows rows table → HasRows (r ∷ []) table
row_in {table} rows i r there has =
    let s = row_split rows i r there in
    record {
      before = has.before ++ s.0;
      after = s.1 ++ has.after;
      is = has.is ∙ ap (λ (l : Entries). has.before ++ (l ++ has.after)) s.2 ∙ ap (λ (l : Entries). has.before ++ l) (append_assoc s.0 (r ∷ s.1) has.after)
          ∙ sym (append_assoc has.before s.0 (r ∷ (s.1 ++ has.after)));
    }

-- ---- the rows of a mote

-- how many there were of each kind in each part
abbrev counts_since : (f t : Tally) → List ℕ
counts_since f t =
    (t.programs.ledger.count - f.programs.ledger.count) ∷ (t.programs.control.count - f.programs.control.count)
    ∷ (t.programs.program.count - f.programs.program.count) ∷ ((both t.programs.page t.programs.head).count - (both f.programs.page f.programs.head).count)
    ∷ (t.erases.ledger.count - f.erases.ledger.count) ∷ (t.erases.control.count - f.erases.control.count)
    ∷ (t.erases.program.count - f.erases.program.count) ∷ ((both t.erases.page t.erases.head).count - (both f.erases.page f.erases.head).count) ∷ []

rows_in : (f t : Tally) (table : Entries) → HasRows (flash_run_rows f t) table → (k : ℕ) → k < 8
    → HasRows ((slice_index_or count_keys k [], slice_index (counts_since f t) k) ∷ []) table
rows_in f t table has zero lt = row_in (flash_run_rows f t) 0 _ refl has
rows_in f t table has (suc zero) lt = row_in (flash_run_rows f t) 2 _ refl has
rows_in f t table has (suc (suc zero)) lt = row_in (flash_run_rows f t) 4 _ refl has
rows_in f t table has (suc (suc (suc zero))) lt = row_in (flash_run_rows f t) 6 _ refl has
rows_in f t table has (suc (suc (suc (suc zero)))) lt = row_in (flash_run_rows f t) 10 _ refl has
rows_in f t table has (suc (suc (suc (suc (suc zero))))) lt = row_in (flash_run_rows f t) 12 _ refl has
rows_in f t table has (suc (suc (suc (suc (suc (suc zero)))))) lt = row_in (flash_run_rows f t) 14 _ refl has
rows_in f t table has (suc (suc (suc (suc (suc (suc (suc zero))))))) lt = row_in (flash_run_rows f t) 16 _ refl has
rows_in f t table has (suc (suc (suc (suc (suc (suc (suc (suc k)))))))) lt = absurd (omega (arith, lt))

-- ---- in all

eight : (a b c d e f g h : ℕ) → sum (a ∷ b ∷ c ∷ d ∷ e ∷ f ∷ g ∷ h ∷ []) ≡ (a + b + c + d) + (e + f + g + h)
eight a b c d e f g h =
    let is : sum (a ∷ b ∷ c ∷ d ∷ e ∷ f ∷ g ∷ h ∷ []) ≡ 0 + a + b + c + d + e + f + g + h = refl in omega (arith, is)

ten : (a b c d e f g h i j : ℕ) → sum (a ∷ b ∷ c ∷ d ∷ e ∷ f ∷ g ∷ h ∷ i ∷ j ∷ []) ≡ (a + b + c + d + e) + (f + g + h + i + j)
ten a b c d e f g h i j =
    let is : sum (a ∷ b ∷ c ∷ d ∷ e ∷ f ∷ g ∷ h ∷ i ∷ j ∷ []) ≡ 0 + a + b + c + d + e + f + g + h + i + j = refl in omega (arith, is)

sum_in : Shares → ℕ
sum_in s = s.ledger.count + s.control.count + s.program.count + s.head.count + s.page.count

since_in : (a b : Shares) → ℕ
since_in a b =
    (b.ledger.count - a.ledger.count) + (b.control.count - a.control.count) + (b.program.count - a.program.count)
    + ((both b.page b.head).count - (both a.page a.head).count)

-- what is added to each part
parts_add : (p q r s l c m h g l' c' m' h' g' : ℕ) → p + l ≡ l' → q + c ≡ c' → r + m ≡ m' → s + (g + h) ≡ g' + h' → (p + q + r + s) + (l + c + m + h + g) ≡ l' + c' + m' + h' + g'
parts_add p q r s l c m h g l' c' m' h' g' e f i j = omega (arith, e, f, i, j)

minus_plus : (a b : ℕ) → a ≤ b → (b - a) + a ≡ b
minus_plus a b le = omega (arith, le)

-- the headers and pages of slots together, where a u64 holds them
both_add : (p h p' h' : ℕ) → p ≤ p' → h ≤ h' → p' + h' ≤ 2 ^ 64 - 1 → (min (p' + h') (2 ^ 64 - 1) - min (p + h) (2 ^ 64 - 1)) + (p + h) ≡ p' + h'
both_add p h p' h' first next fits = omega (arith, first, next, fits)

-- each part of a is at most that of b
record AtMost (a b : Shares) : Type 0 where
  ledger : a.ledger.count ≤ b.ledger.count
  control : a.control.count ≤ b.control.count
  program : a.program.count ≤ b.program.count
  head : a.head.count ≤ b.head.count
  page : a.page.count ≤ b.page.count

kind_adds : (a b : Shares) → AtMost a b → sum_in b ≤ 2 ^ 64 - 1 → since_in a b + sum_in a ≡ sum_in b
unfolding sum_in since_in
kind_adds a b most fits =
    parts_add (b.ledger.count - a.ledger.count) (b.control.count - a.control.count) (b.program.count - a.program.count) ((both b.page b.head).count - (both a.page a.head).count)
    a.ledger.count a.control.count a.program.count a.head.count a.page.count b.ledger.count b.control.count b.program.count b.head.count b.page.count
    (minus_plus a.ledger.count b.ledger.count most.ledger) (minus_plus a.control.count b.control.count most.control) (minus_plus a.program.count b.program.count most.program)
    (both_add a.page.count a.head.count b.page.count b.head.count most.page most.head (few b.ledger.count b.control.count b.program.count b.head.count b.page.count fits))
  where
    few : (l c m h g : ℕ) → l + c + m + h + g ≤ 2 ^ 64 - 1 → g + h ≤ 2 ^ 64 - 1
    few l c m h g fits = omega (arith, fits)

most_in : (a b : Shares) → AtMost a b → sum_in a ≤ sum_in b
unfolding sum_in
most_in a b most = le a.ledger.count a.control.count a.program.count a.head.count a.page.count b.ledger.count b.control.count b.program.count b.head.count b.page.count
    most.ledger most.control most.program most.head most.page
  where
    le : (l c m h g l' c' m' h' g' : ℕ) → l ≤ l' → c ≤ c' → m ≤ m' → h ≤ h' → g ≤ g' → l + c + m + h + g ≤ l' + c' + m' + h' + g'
    le l c m h g l' c' m' h' g' e f i j k = omega (arith, e, f, i, j, k)

sum_counts : (t : Tally) → sum (counts_of t) ≡ sum_in t.programs + sum_in t.erases
unfolding sum_in
sum_counts t =
    ten t.programs.ledger.count t.programs.control.count t.programs.program.count t.programs.head.count t.programs.page.count
    t.erases.ledger.count t.erases.control.count t.erases.program.count t.erases.head.count t.erases.page.count

sum_since : (f t : Tally) → sum (counts_since f t) ≡ since_in f.programs t.programs + since_in f.erases t.erases
unfolding since_in
sum_since f t = eight _ _ _ _ _ _ _ _

in_all : (x y c n p q a b d e : ℕ) → x ≡ a + b → y ≡ d + e → c ≡ p + q → y + n ≤ 2 ^ 64 - 1 → a ≤ d → b ≤ e → (x + n ≤ 2 ^ 64 - 1 → y ≡ x + n) → (d ≤ 2 ^ 64 - 1 → p + a ≡ d)
    → (e ≤ 2 ^ 64 - 1 → q + b ≡ e) → c ≡ n
in_all x y c n p q a b d e first next all fits low high total one other =
    let is : y ≡ x + n = total (omega (arith, first, next, fits, low, high)) in
    let g : p + a ≡ d = one (omega (arith, next, fits)) in
    let h : q + b ≡ e = other (omega (arith, next, fits)) in
    omega (arith, first, next, all, is, g, h)

-- where a u64 holds it
total_since : (f t : Tally) (n : ℕ) → PartsRise n (counts_of f) (counts_of t) → sum (counts_of t) + n ≤ 2 ^ 64 - 1 → sum (counts_since f t) ≡ n
total_since f t n rises fits =
    in_all (sum (counts_of f)) (sum (counts_of t)) (sum (counts_since f t)) n (since_in f.programs t.programs) (since_in f.erases t.erases) (sum_in f.programs) (sum_in f.erases)
    (sum_in t.programs) (sum_in t.erases) (sum_counts f) (sum_counts t) (sum_since f t) fits (most_in f.programs t.programs programs) (most_in f.erases t.erases erases) rises.total
    (λ few. kind_adds f.programs t.programs programs few) (λ few. kind_adds f.erases t.erases erases few)
  where
    programs : AtMost f.programs t.programs
    programs = record { ledger = rises.each 0; control = rises.each 1; program = rises.each 2; head = rises.each 3; page = rises.each 4 }

    erases : AtMost f.erases t.erases
    erases = record { ledger = rises.each 5; control = rises.each 6; program = rises.each 7; head = rises.each 8; page = rises.each 9 }

pub mote_flash : (f t : Tally) (n : ℕ) (made : Option (List ℕ)) (table : Entries) → made ≡ Some (counts_of t) → PartsRise n (counts_of f) (counts_of t)
    → HasRows (flash_run_rows f t) table → HasFlashRows n made table
mote_flash f t n made table shown rises has = record {
  meter = counts_of t;
  shown = shown;
  counts = counts_since f t;
  all = refl;
  rows = rows_in f t table has;
  total = total_since f t n rises;
}

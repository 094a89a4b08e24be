-- The pages of an image, as a table, and what is seen of them.
use Rattle.std.proofs.Common.{◌≡◌, ◌≢◌, ℕ, suc, ◌+◌, ◌-◌, ◌<◌, ◌≤◌, min, Bool, true, false, List, [], ◌++◌, map, length, take, get_or, refl, sym, ap, ◌∙◌, ⊎_elim, arith, append_assoc, eq-eqb, drop, Some, None}
use Rattle.std.specs.Prelude.{◌==◌, ◌&&◌, ◌||◌, not, nat_le, nat_lt, if◌then◌else◌}
use Rattle.std.specs.FinSet as set_of
use Rattle.std.specs.List.{range_with_len}
use Rattle.std.proofs.lemmas.Bool.{cases_lt, cases_eq, ne_eqb}
use Rattle.std.proofs.lemmas.Bool.Decides.{nat_tests}
use Rattle.std.proofs.lemmas.List.{take-append-le, take-take, take_all, append-nil}
use Rattle.std.proofs.Math.Seq.{take-append-add}
use Rattle.dg_words.specs.Lists.{concatenated, tabulate}
use Rattle.dg_words.specs.Cells.{part}
use Rattle.dg_words.proofs.CellLemmas.{length-part}
use Rattle.dg_words.proofs.ListLemmas.{length-tabulate, get_or-tabulate}
use Rattle.dg_bits.specs.Sets.{Numbers}
use Rattle.dg_bits.proofs.SetLaws.{contains-put}
use Rattle.dg_base.specs.Crc.{crc_of}
use Rattle.sha2.specs.Sha256.{sha256}
use Rattle.dg_object.specs.Object.{content, pages_for}
use Rattle.dg_object.specs.Descriptor.{Details, IsDescriptor, crc_in}
use Rattle.dg_object.specs.Tested.{fields_in}
use Rattle.dg_object.proofs.TestedLemmas.{fields_read}
use Rattle.dg_slot.specs.Layout.{page_size}
use Rattle.dg_slot.specs.Pages.{page_in}
use Rattle.dg_inspect.specs.Pages.{pages_from, said_in, is_unsound, bytes_in, bytes_seen}
use Rattle.dg_inspect.specs.declared.seen.BytesSeen.{BytesSeen}

-- ---- tests

pub if_true : {A : Type 0} (b : Bool) (x y : A) → b ≡ true → (if b then x else y) ≡ x
if_true true x y h = refl
if_true false x y h = absurd cc

pub if_false : {A : Type 0} (b : Bool) (x y : A) → b ≡ false → (if b then x else y) ≡ y
if_false false x y h = refl
if_false true x y h = absurd cc

pub lt_true : (m n : ℕ) → m < n → nat_lt m n ≡ true
lt_true m n h = grind (arith, nat_tests)

pub lt_false : (m n : ℕ) → n ≤ m → nat_lt m n ≡ false
lt_false m n h = grind (arith, nat_tests)

pub le_true : (m n : ℕ) → m ≤ n → nat_le m n ≡ true
le_true m n h = grind (arith, nat_tests)

pub lt_of : (m n : ℕ) → nat_lt m n ≡ true → m < n
lt_of m n h = grind (arith, nat_tests)

pub le_of : (m n : ℕ) → nat_le m n ≡ true → m ≤ n
le_of m n h = grind (arith, nat_tests)

-- ---- which pages are unsound

-- page p has the CRC that page 0 keeps of it
abbrev pub has_crc : (ℕ → List ℕ) → ℕ → Bool
has_crc f p = crc_of (f p) == crc_in (f 0) p

-- page q is among data pages 1 to n - 1, and is not sound
abbrev pub is_bad : (ℕ → List ℕ) → (n q : ℕ) → Bool
is_bad f n q = (nat_le 1 q && nat_lt q n) && not (has_crc f q)

here_is : (s x b : Bool) → s ≡ x → b ≡ true → (true && not s) || ((b && false) && not x) ≡ (b && true) && not x
here_is true true true e h = refl
here_is false false true e h = refl
here_is true false b e h = absurd cc
here_is false true b e h = absurd cc
here_is s x false e h = absurd cc

pub bad_more : (f : ℕ → List ℕ) (p q : ℕ) (s : Bool) → 1 ≤ p → s ≡ has_crc f p → ((q == p) && not s) || is_bad f p q ≡ is_bad f (p + 1) q
bad_more f p q s some e =
    ⊎_elim
    (λ same.
    let one : (q == p) ≡ true = eq-eqb q p same in
    let low : nat_lt q p ≡ false = lt_false q p (omega arith) in
    let more : nat_lt q (p + 1) ≡ true = lt_true q (p + 1) (omega arith) in
    let place : has_crc f p ≡ has_crc f q = ap (has_crc f) (sym same) in
    ap (λ b. (b && not s) || is_bad f p q) one
    ∙ ap (λ b. (true && not s) || ((nat_le 1 q && b) && not (has_crc f q))) low
    ∙ here_is s (has_crc f q) (nat_le 1 q) (e ∙ place) (le_true 1 q (omega arith))
    ∙ ap (λ b. (nat_le 1 q && b) && not (has_crc f q)) (sym more))
    (λ other.
    let one : (q == p) ≡ false = ne_eqb q p other in
    let more : nat_lt q p ≡ nat_lt q (p + 1) = grind (arith, nat_tests) in
    ap (λ b. (b && not s) || is_bad f p q) one ∙ ap (λ b. (nat_le 1 q && b) && not (has_crc f q)) more)
    (cases_eq q p)

pub bad_none : (f : ℕ → List ℕ) (q : ℕ) → false ≡ is_bad f 1 q
bad_none f q = ⊎_elim
    (λ low. let e : nat_le 1 q ≡ false = grind (arith, nat_tests) in sym (ap (λ b. (b && nat_lt q 1) && not (has_crc f q)) e))
    (λ high. let e : nat_lt q 1 ≡ false = lt_false q 1 high in sym (ap (λ b. (nat_le 1 q && b) && not (has_crc f q)) e ∙ ap (λ b. b && not (has_crc f q)) (and_false (nat_le 1 q))))
    (cases_lt q 1)
  where
    and_false : (b : Bool) → b && false ≡ false
    and_false true = refl
    and_false false = refl

-- in a table of pages
pub bad_table : (f : ℕ → List ℕ) (n q : ℕ) → is_bad f n q ≡ is_unsound (tabulate n f) q
bad_table f n q = ⊎_elim
    (λ low.
    let here : f q ≡ get_or (tabulate n f) q [] = sym (get_or-tabulate n q f [] low) in
    let first : f 0 ≡ get_or (tabulate n f) 0 [] = sym (get_or-tabulate n 0 f [] (omega arith)) in
    ap (λ m. (nat_le 1 q && nat_lt q m) && not (has_crc f q)) (sym (length-tabulate n f))
    ∙ ap (λ (x : List ℕ). (nat_le 1 q && nat_lt q (length (tabulate n f))) && not (crc_of x == crc_in (f 0) q)) here
    ∙ ap (λ (x : List ℕ). (nat_le 1 q && nat_lt q (length (tabulate n f))) && not (crc_of (get_or (tabulate n f) q []) == crc_in x q)) first)
    (λ high.
    let out : nat_lt q n ≡ false = lt_false q n high in
    let out_too : nat_lt q (length (tabulate n f)) ≡ false = ap (nat_lt q) (length-tabulate n f) ∙ out in
    ap (λ b. (nat_le 1 q && b) && not (has_crc f q)) out
    ∙ none (nat_le 1 q) (not (has_crc f q)) (not (crc_of (get_or (tabulate n f) q []) == crc_in (get_or (tabulate n f) 0 []) q))
    ∙ ap (λ b. (nat_le 1 q && b) && not (crc_of (get_or (tabulate n f) q []) == crc_in (get_or (tabulate n f) 0 []) q)) (sym out_too))
    (cases_lt q n)
  where
    none : (a x y : Bool) → (a && false) && x ≡ (a && false) && y
    none true x y = refl
    none false x y = refl

-- ---- what page 0 says

pub first_place : (c : List ℕ) (k n : ℕ) → 1 ≤ n → get_or (pages_from c k n) 0 [] ≡ page_in c k
first_place c k n some =
    let e : k + 0 ≡ k = omega arith in
    get_or-tabulate n 0 (λ p. page_in c (k + p)) [] (omega arith) ∙ ap (page_in c) e

pub said_is : (c : List ℕ) (k n : ℕ) (d : Details) → 1 ≤ n → IsDescriptor (page_in c k) d → said_in (pages_from c k n) ≡ d
said_is c k n d some described = ap fields_in (first_place c k n some) ∙ sym (fields_read (page_in c k) d described)

-- ---- the bytes of an image, page by page

take-part : (cells : List ℕ) (n m : ℕ) → n ≤ m → take n (part cells 0 m) ≡ part cells 0 n
unfolding part
take-part cells n m h = take-take n m (drop 0 cells) h

-- one page more is added
pub page_added : (f : ℕ → List ℕ) (cells before total : List ℕ) (left count a m : ℕ) → f a ≡ part cells 0 page_size → page_size ≤ length cells → count ≡ min left page_size
    → before ++ take left (concatenated (map f (range_with_len a (suc m)))) ≡ total → (before ++ part cells 0 count) ++ take (left - page_size) (concatenated (map f (range_with_len (a + 1) m))) ≡ total
page_added f cells before total left count a m page whole counted e =
    let rest = concatenated (map f (range_with_len (a + 1) m)) in
    let long : length (f a) ≡ page_size = ap length page ∙ length-part cells 0 page_size (omega arith) in
    ⊎_elim
    (λ last.
    let c : count ≡ left = omega arith in
    let none : left - page_size ≡ 0 = omega arith in
    let front : take left (f a ++ rest) ≡ part cells 0 left = take-append-le left (f a) rest (omega arith) ∙ ap (take left) page ∙ take-part cells left page_size (omega arith) in
    ap (λ n. (before ++ part cells 0 count) ++ take n rest) none ∙ append-nil (before ++ part cells 0 count) ∙ ap (λ n. before ++ part cells 0 n) c ∙ ap (λ (x : List ℕ). before ++ x) (sym front) ∙ e)
    (λ some.
    let c : count ≡ page_size = omega arith in
    let sum : left ≡ length (f a) + (left - page_size) = omega arith in
    let front : take left (f a ++ rest) ≡ f a ++ take (left - page_size) rest = ap (λ n. take n (f a ++ rest)) sum ∙ take-append-add (f a) rest (left - page_size) in
    ap (λ n. (before ++ part cells 0 n) ++ take (left - page_size) rest) c ∙ ap (λ (x : List ℕ). (before ++ x) ++ take (left - page_size) rest) (sym page)
    ∙ append_assoc before (f a) (take (left - page_size) rest) ∙ ap (λ (x : List ℕ). before ++ x) (sym front) ∙ e)
    (cases_lt left (page_size + 1))

-- nothing is left
pub all_added : (f : ℕ → List ℕ) (before total : List ℕ) (left a m : ℕ) → m ≡ 0 → before ++ take left (concatenated (map f (range_with_len a m))) ≡ total → before ≡ total
all_added f before total left a m none e =
    let empty : take left (concatenated (map f (range_with_len a m))) ≡ [] = ap (λ (k : ℕ). take left (concatenated (map f (range_with_len a k)))) none ∙ take_nothing left in
    sym (append-nil before) ∙ ap (λ (x : List ℕ). before ++ x) (sym empty) ∙ e
  where
    take_nothing : (n : ℕ) → take {A = ℕ} n [] ≡ []
    take_nothing n = take_all n [] (omega arith)

-- all bytes of an image that is whole
pub whole_bytes : (c : List ℕ) (k n : ℕ) (d : Details) (seen : BytesSeen) → 1 ≤ n → IsDescriptor (page_in c k) d → n ≡ d.pages → seen.crc ≡ crc_of (content d.length (pages_from c k (pages_for d.length))) → seen.sha256 ≡ sha256 (content d.length (pages_from c k (pages_for d.length)))
    → Some seen ≡ bytes_seen (pages_from c k n)
whole_bytes c k n d seen some described whole crc sha =
    let pages = pages_from c k n in
    let said = said_is c k n d some described in
    let count : pages_for d.length ≡ n = sym described.head.range.pages ∙ sym whole in
    let bytes : content d.length (pages_from c k (pages_for d.length)) ≡ bytes_in pages = ap (λ m. content d.length (pages_from c k m)) count ∙ ap (λ (e : Details). content e.length pages) (sym said) in
    let same : (length pages == (said_in pages).pages) ≡ true = eq-eqb (length pages) (said_in pages).pages (length-tabulate n (λ p. page_in c (k + p)) ∙ whole ∙ ap (λ (e : Details). e.pages) (sym said)) in
    let read : Some seen ≡ Some (record { crc = crc_of (bytes_in pages); sha256 = sha256 (bytes_in pages) }) =
    ap (λ x. Some (record { crc = x; sha256 = seen.sha256 })) (crc ∙ ap crc_of bytes) ∙ ap (λ x. Some (record { crc = crc_of (bytes_in pages); sha256 = x })) (sha ∙ ap sha256 bytes) in
    read ∙ sym (if_true (length pages == (said_in pages).pages) _ _ same)

pub part_bytes : (c : List ℕ) (k n : ℕ) (d : Details) → 1 ≤ n → IsDescriptor (page_in c k) d → n ≢ d.pages → None ≡ bytes_seen (pages_from c k n)
part_bytes c k n d some described other =
    let pages = pages_from c k n in
    let said = said_is c k n d some described in
    let differ : (length pages == (said_in pages).pages) ≡ false = ne_eqb (length pages) (said_in pages).pages (λ e. other (sym (length-tabulate n (λ p. page_in c (k + p))) ∙ e ∙ ap (λ (x : Details). x.pages) said)) in
    sym (if_false (length pages == (said_in pages).pages) _ _ differ)

pub zero_place : (k : ℕ) → k ≡ k + 0
zero_place k = omega arith

marked_by : (s a b : Bool) → s ≡ false → a || b ≡ (a && not s) || b
marked_by true a b h = absurd cc
marked_by false true b h = refl
marked_by false false b h = refl

-- a page that is not sound is added
pub marked_is : (old new : Numbers) (p q : ℕ) (s : Bool) → s ≡ false → new ≡ set_of.insert old p → set_of.contains new q ≡ ((q == p) && not s) || set_of.contains old q
marked_is old new p q s h e = ap (λ t. set_of.contains t q) e ∙ contains-put old p q ∙ marked_by s (q == p) (set_of.contains old q) h

-- Names in their field of 16 bytes, which is filled up with 0.
use Rattle.std.proofs.Common.{◌≡◌, ◌≢◌, ℕ, ◌+◌, ◌-◌, ◌<◌, ◌≤◌, IsTrue, true, List, ◌++◌, length, take, drop, get_or, refl, sym, ap, ◌∙◌, arith, inl, inr, replicate, length-drop, length-take, get_or-drop, take-append-drop}
use Rattle.std.proofs.lemmas.Grind.{common_steps}
use Rattle.std.proofs.lemmas.Bool.{cases_lt}
use Rattle.std.proofs.lemmas.Bool.Decides.{nat_tests}
use Rattle.std.proofs.lemmas.List.{get_or_past, get_or-replicate, length-replicate, ext_get_or}
use Rattle.std.proofs.lemmas.List.Folds.{list_all_at}
use Rattle.dg_words.specs.Lists.{padded}
use Rattle.dg_words.proofs.ListLemmas.{take-padded, get_or-padded_front, get_or-padded_behind, length-padded}
use Rattle.dg_base.specs.Texts.{spells_name, is_name_byte}

pub names-some : (n : List ℕ) → IsTrue (spells_name n) → 1 ≤ length n
names-some n h = grind (arith, nat_tests)

pub names-fits : (n : List ℕ) → IsTrue (spells_name n) → length n ≤ 16
names-fits n h = grind (arith, common_steps)

-- a byte of a name is not 0
is_name_byte-true : (c : ℕ) → is_name_byte c ≡ true → (1 ≤ c) × (c < 256)
is_name_byte-true c h = grind (arith, nat_tests)

names-byte : (n : List ℕ) (k : ℕ) → IsTrue (spells_name n) → k < length n → is_name_byte (get_or n k 0) ≡ true
names-byte n k h low = grind (arith, list_all_at, common_steps)

pub names-nonzero : (n : List ℕ) (k : ℕ) → IsTrue (spells_name n) → k < length n → get_or n k 0 ≢ 0
names-nonzero n k h low e = let byte = is_name_byte-true (get_or n k 0) (names-byte n k h low) in omega arith

pub names-bytes : (n : List ℕ) (k : ℕ) → IsTrue (spells_name n) → get_or n k 0 < 256
names-bytes n k h = elim (cases_lt k (length n)) [ inl low ↦ (is_name_byte-true (get_or n k 0) (names-byte n k h low)).1 | inr past ↦ rw (get_or_past n k 0 past) (omega arith) ]

-- The first 0 of the field ends the name.
pub length_of_name : (field n : List ℕ) (k : ℕ) → IsTrue (spells_name n) → field ≡ padded 16 0 n → length field ≡ 16 → k ≤ length field
    → ((j : ℕ) → j < k → get_or field j 0 ≢ 0) → (k < length field → get_or field k 0 ≡ 0) → length n ≡ k
length_of_name field n k h is len within before ended =
    elim (cases_lt k (length n)) [
      | inl low ↦ absurd (names-nonzero n k h low (sym (at_front low) ∙ ended (omega (arith, names-fits n h))))
      | inr high ↦ elim (cases_lt (length n) k) [ inl low ↦ absurd (before (length n) low (at_end (omega arith))) | inr same ↦ omega arith ]
    ]
  where
    at_front : k < length n → get_or field k 0 ≡ get_or n k 0
    at_front low = ap (λ (xs : List ℕ). get_or xs k 0) is ∙ get_or-padded_front 16 0 k 0 n low

    at_end : length n < 16 → get_or field (length n) 0 ≡ 0
    at_end low = ap (λ (xs : List ℕ). get_or xs (length n) 0) is ∙ get_or-padded_behind 16 0 (length n) 0 n (omega arith) low

-- So the field before that 0 is the name.
pub name_is_front : (field n : List ℕ) (k : ℕ) → IsTrue (spells_name n) → field ≡ padded 16 0 n → length field ≡ 16 → k ≤ length field
    → ((j : ℕ) → j < k → get_or field j 0 ≢ 0) → (k < length field → get_or field k 0 ≡ 0) → take k field ≡ n
name_is_front field n k h is len within before ended =
    ap (take k) is ∙ take-padded 16 0 k n (length_of_name field n k h is len within before ended)

-- The bytes after the name are 0.
pub behind_is_filling : (field n : List ℕ) (k j : ℕ) → field ≡ padded 16 0 n → length n ≡ k → j < length (drop k field) → length field ≡ 16 → get_or (drop k field) j 0 ≡ 0
behind_is_filling field n k j is same low len =
    get_or-drop k field j 0
    ∙ ap (λ (xs : List ℕ). get_or xs (k + j) 0) is
    ∙ get_or-padded_behind 16 0 (k + j) 0 n (omega arith) (omega (arith, length-drop k field))

-- A prefix with nothing but filling after it is the prefix filled up.
pub padded-from_parts : (n x k : ℕ) (field : List ℕ) → length field ≡ n → k ≤ n → ((j : ℕ) → j < length (drop k field) → get_or (drop k field) j 0 ≡ x) → field ≡ padded n x (take k field)
unfolding padded
padded-from_parts n x k field len low filled =
    sym (take-append-drop k field) ∙ ap (λ (xs : List ℕ). take k field ++ xs) rest
  where
    counted : length (drop k field) ≡ n - length (take k field)
    counted = omega (arith, length-drop k field, length-take k field)

    rest : drop k field ≡ replicate (n - length (take k field)) x
    rest = ext_get_or 0 (drop k field) (replicate (n - length (take k field)) x) (counted ∙ sym (length-replicate _ x)) (λ j h. filled j h ∙ sym (get_or-replicate (n - length (take k field)) j x 0 (omega (arith, counted))))

-- Two names that make the same field are equal.
pub same_names : (n m : List ℕ) → IsTrue (spells_name n) → IsTrue (spells_name m) → padded 16 0 n ≡ padded 16 0 m → n ≡ m
same_names n m hn hm same =
    sym (take-padded 16 0 (length n) n refl)
    ∙ name_is_front (padded 16 0 n) m (length n) hm same (length-padded 16 0 n (names-fits n hn)) (omega (arith, length-padded 16 0 n (names-fits n hn), names-fits n hn))
    (λ j low e. names-nonzero n j hn low (sym (get_or-padded_front 16 0 j 0 n low) ∙ e))
    (λ low. get_or-padded_behind 16 0 (length n) 0 n (omega arith) (omega (arith, length-padded 16 0 n (names-fits n hn))))

-- What the models of sets have to satisfy: sets with the same numbers are equal, and bytes are the byte form of the set that
-- they make (the laws that std asks of a `Model`).
use Rattle.std.proofs.Common.{◌≡◌, ℕ, zero, suc, ◌+◌, ◌-◌, ◌*◌, ◌/◌, ◌%◌, ◌<◌, ◌≤◌, Bool, true, false, Decides, ◌&&◌, ◌||◌, cond}
use Rattle.std.proofs.Common.{List, length, get_or, eqb, leb, ltb, refl, sym, ap, ◌∙◌, inl, inr, arith}
use Rattle.std.proofs.lemmas.Bool.{and_parts, and_from, cases_lt, eqb-true, false≢true}
use Rattle.std.proofs.lemmas.Bool.Decides.{nat_tests}
use Rattle.std.proofs.lemmas.List.{get_or_past}
use Rattle.std.proofs.lemmas.List.FromFn.{fill_by_all}
use Rattle.std.proofs.lemmas.Map.Views.{any-filter_same}
use Rattle.std.proofs.lemmas.Nat.Bits.{bit_at-zero, bit_at-lt}
use Rattle.std.specs.Cmp.{IsEquivalence, IsPartialEquivalence, decided, partial_equiv_from_equiv, nat_cmp_total}
use Rattle.std.specs.Int.{bit_at}
use Rattle.std.specs.List.{range_with_len, list_any}
use Rattle.std.specs.FinSet as set
use Rattle.dg_bits.specs.Sets.{Numbers, are_same_sets}
use Rattle.dg_bits.specs.ByteForm.{is_marked, numbers_of, bit_in_set, byte_of, byte_form}

-- two sets with the same numbers are equal
pub same_numbers : (s t : Numbers) → ((q : ℕ) → set.contains s q ≡ set.contains t q) → s ≡ t
same_numbers s t each = set.same_set nat_cmp_total set.nat_cmp-IsAntisymmetric s t each

-- the test of equal sets
pub same_decides : (s t : Numbers) → Decides (are_same_sets s t) (s ≡ t)
unfolding are_same_sets
same_decides s t = (
  λ is.
      let parts = and_parts _ _ is in
      same_numbers s t (λ q. same_tests _ _ (set.is_subset-contains nat_cmp_total s t parts.0 q)
      (set.is_subset-contains nat_cmp_total t s parts.1 q)),
  λ e.
      and_from _ _
      (set.contains-is_subset nat_cmp_total s t (λ q in_s. ap (λ u. set.contains u q) (sym e) ∙ in_s))
      (set.contains-is_subset nat_cmp_total t s (λ q in_t. ap (λ u. set.contains u q) e ∙ in_t)),
)
  where
    same_tests : (a b : Bool) → (a ≡ true → b ≡ true) → (b ≡ true → a ≡ true) → a ≡ b
    same_tests true b there back = sym (there refl)
    same_tests false true there back = back refl
    same_tests false false there back = refl

pub same_equivalence : IsEquivalence are_same_sets
same_equivalence = decided are_same_sets same_decides

pub same_partial : IsPartialEquivalence are_same_sets
same_partial = partial_equiv_from_equiv same_equivalence

range_none : (lo q : ℕ) → false ≡ (leb lo q && ltb q (lo + 0))
range_none lo q = grind (arith, nat_tests)

range_more : (lo n q : ℕ) → (eqb lo q || (leb (lo + 1) q && ltb q ((lo + 1) + n))) ≡ (leb lo q && ltb q (lo + suc n))
range_more lo n q = grind (arith, nat_tests)

pub any_in_range : (lo n q : ℕ) → list_any (λ y. eqb y q) (range_with_len lo n) ≡ (leb lo q && ltb q (lo + n))
any_in_range lo zero q = range_none lo q
any_in_range lo (suc n) q = ap (λ b. eqb lo q || b) (any_in_range (lo + 1) n q) ∙ range_more lo n q

pub no_bit : (b i : ℕ) → b ≡ 0 → eqb (bit_at b i) 1 ≡ false
no_bit b i e = ap (λ x. eqb (bit_at x i) 1) e ∙ ap (λ x. eqb x 1) (bit_at-zero i)

-- past the end there is no bit
pub unmarked_past : (bytes : List ℕ) (n : ℕ) → 8 * length bytes ≤ n → is_marked bytes n ≡ false
unfolding is_marked
unmarked_past bytes n h = no_bit _ _ (get_or_past bytes (n / 8) 0 (omega arith))

within_length : (len n : ℕ) (m : Bool) → (len ≤ n → m ≡ false) → (m && (leb 0 n && ltb n (0 + len))) ≡ m
within_length len n true past = elim (cases_lt n len)
    [ inl h ↦ grind (arith, nat_tests) | inr h ↦ absurd (false≢true (sym (past h))) ]
within_length len n false past = refl

-- a number is in the set of some bytes exactly if its bit is set
pub contains-numbers_of : (bytes : List ℕ) (n : ℕ) → set.contains (numbers_of bytes) n ≡ is_marked bytes n
unfolding numbers_of
contains-numbers_of bytes n =
    set.contains-from_list_nat _ n
    ∙ any-filter_same (λ y. eqb y n) (is_marked bytes) (is_marked bytes n) (λ k e. ap (is_marked bytes) (eqb-true k n e)) _
    ∙ ap (λ b. is_marked bytes n && b) (any_in_range 0 (8 * length bytes) n)
    ∙ within_length (8 * length bytes) n (is_marked bytes n) (unmarked_past bytes n)

-- eight bits as a number, the highest first
abbrev pub weights : (ℕ → ℕ) → ℕ
weights bit = 128 * bit 0 + 64 * bit 1 + 32 * bit 2 + 16 * bit 3 + 8 * bit 4 + 4 * bit 5 + 2 * bit 6 + bit 7

eight_bits : (b : ℕ) → b < 256 → b ≡ weights (λ r. bit_at b (7 - r))
eight_bits b h = omega arith

bit_back : (x : ℕ) → x < 2 → cond (eqb x 1) 1 0 ≡ x
bit_back x h = grind (arith, nat_tests)

bit_of-placed : (bytes : List ℕ) (n k r : ℕ) → n / 8 ≡ k → n % 8 ≡ r
    → bit_in_set (numbers_of bytes) n ≡ bit_at (get_or bytes k 0) (7 - r)
unfolding is_marked
bit_of-placed bytes n k r place at =
    ap (λ b. cond b 1 0) (contains-numbers_of bytes n)
    ∙ bit_back (bit_at (get_or bytes (n / 8) 0) (7 - n % 8)) (bit_at-lt (get_or bytes (n / 8) 0) (7 - n % 8))
    ∙ (λ i. bit_at (get_or bytes (place i) 0) (7 - at i))

bit_of-numbers_of : (bytes : List ℕ) (k r : ℕ) → r < 8
    → bit_in_set (numbers_of bytes) (8 * k + r) ≡ bit_at (get_or bytes k 0) (7 - r)
bit_of-numbers_of bytes k r lt = bit_of-placed bytes (8 * k + r) k r (omega arith) (omega arith)

pub byte_of-numbers_of : (bytes : List ℕ) (k : ℕ) → get_or bytes k 0 < 256 → get_or bytes k 0 ≡ byte_of (numbers_of bytes) k
unfolding byte_of
byte_of-numbers_of bytes k h =
    let e0 = bit_of-numbers_of bytes k 0 (omega arith) in
    let e1 = bit_of-numbers_of bytes k 1 (omega arith) in
    let e2 = bit_of-numbers_of bytes k 2 (omega arith) in
    let e3 = bit_of-numbers_of bytes k 3 (omega arith) in
    let e4 = bit_of-numbers_of bytes k 4 (omega arith) in
    let e5 = bit_of-numbers_of bytes k 5 (omega arith) in
    let e6 = bit_of-numbers_of bytes k 6 (omega arith) in
    let e7 = bit_of-numbers_of bytes k 7 (omega arith) in
    eight_bits (get_or bytes k 0) h
    ∙ sym (λ i. 128 * (ap (bit_in_set (numbers_of bytes)) first ∙ e0) i + 64 * e1 i + 32 * e2 i + 16 * e3 i + 8 * e4 i + 4 * e5
    i + 2 * e6 i + e7 i)
  where
    first : 8 * k ≡ 8 * k + 0
    first = omega arith

-- bytes are the byte form of the set that they make
pub byte_form-numbers_of : (bytes : List ℕ) (width : ℕ) → length bytes ≡ width
    → ((k : ℕ) → k < width → get_or bytes k 0 < 256) → byte_form width (numbers_of bytes) ≡ bytes
unfolding byte_form
byte_form-numbers_of bytes width e fit = sym (fill_by_all (byte_of (numbers_of bytes)) bytes width 0 e
    (λ k h. byte_of-numbers_of bytes k (fit k h)))

-- The bits of a byte form, and the set that they make.
use Rattle.std.proofs.Common.{◌≡◌, ℕ, zero, suc, ◌+◌, ◌-◌, ◌*◌, ◌/◌, ◌%◌, ◌<◌, ◌≤◌, Bool, true, false, Decides, cond, List, [], ◌∷◌, ◌++◌, take, drop, length, get_or, replicate, eqb, refl, sym, ap, ◌∙◌, inl, inr, arith}
use Rattle.std.proofs.Math.ListN.{length-replicate}
use Rattle.std.proofs.lemmas.Bool.{both_ways, cases_lt, cond_both}
use Rattle.std.proofs.lemmas.Bool.Decides.{same_from_decides, Decides-like}
use Rattle.std.proofs.lemmas.List.{get_or_past, get_or-drop, get_or-take, get_or-replicate, length-append, length-drop, length-take-le}
use Rattle.std.proofs.lemmas.List.FromFn.{fill_by_all, get_or-map-range_with_len, length-map-range_with_len}
use Rattle.std.proofs.lemmas.Nat.Bits.{bit_at-lt}
use Rattle.std.specs.Cmp.Lexicographic.{pointwise, bytes_decides}
use Rattle.std.specs.Int.{bit_at}
use Rattle.std.specs.FinSet as set
use Rattle.dg_bits.specs.Sets.{Numbers, AllBelow, IsLeast, are_same_sets}
use Rattle.dg_bits.specs.ByteForm.{is_marked, numbers_of, bit_in_set, byte_of, byte_form, IsPacked}
pub use Rattle.dg_bits.specs.ModelLaws.{unmarked_past, contains-numbers_of, byte_form-numbers_of}
use Rattle.dg_bits.specs.ModelLaws.{same_numbers, same_decides, no_bit, weights, byte_of-numbers_of}
use Rattle.dg_bits.proofs.SetLaws.{contains-none, up_to, len-up_to_in, len-up_to_out}

-- ---- packed bytes

abbrev pub zeros : ℕ → List ℕ
zeros n = replicate n 0

length_of_zeros : (n : ℕ) → length (zeros n) ≡ n
length_of_zeros n = length-replicate {A = ℕ} n 0

byte_of_zeros : (n k : ℕ) → get_or (zeros n) k 0 ≡ 0
byte_of_zeros n k =
    elim (cases_lt k n) [
      | inl h ↦ get_or-replicate n k 0 0 h
      | inr h ↦ let e : length (zeros n) ≡ n = length_of_zeros n in get_or_past (zeros n) k 0 (omega arith)
    ]

-- bytes of 0 have no bit
pub is_marked-zeros : (width n : ℕ) → is_marked (replicate width 0) n ≡ false
unfolding is_marked
is_marked-zeros width n = no_bit _ _ (byte_of_zeros width (n / 8))

pub numbers_of-zeros : (width : ℕ) → numbers_of (replicate width 0) ≡ set.empty
numbers_of-zeros width = same_numbers _ _ (λ q. contains-numbers_of _ q ∙ is_marked-zeros width q ∙ sym (contains-none q))

pub IsPacked-zeros : (size : ℕ) → 1 ≤ size → size ≤ 72 → IsPacked size (replicate 9 0)
IsPacked-zeros size some fits =
    record {
      width = refl;
      bytes_fit = λ k. let e = byte_of_zeros 9 k in omega arith;
      within = λ n _. is_marked-zeros 9 n;
      not_empty = some;
      not_over = fits;
    }

below_size : (size n : ℕ) (m : Bool) → (size ≤ n → m ≡ false) → m ≡ true → n < size
below_size size n m none is = elim (cases_lt n size) [ inl h ↦ h | inr h ↦ absurd (both_ways m (none h) is) ]

-- the set of packed bytes has only numbers below the size
pub AllBelow-packed : (size : ℕ) (bytes : List ℕ) (s : Numbers) → numbers_of bytes ≡ s → ((n : ℕ) → size ≤ n → is_marked bytes n ≡ false) → AllBelow size s
AllBelow-packed size bytes s e within q is = below_size size q (is_marked bytes q) (within q) (sym (contains-numbers_of bytes q) ∙ ap (λ t. set.contains t q) e ∙ is)

-- the first number whose bit is set is the least
pub IsLeast-marked : (bytes : List ℕ) (s : Numbers) (n : ℕ) → numbers_of bytes ≡ s → is_marked bytes n ≡ true → ((q : ℕ) → q < n → is_marked bytes q ≡ false) → IsLeast s n
IsLeast-marked bytes s n e here before =
    record {
      member = ap (λ t. set.contains t n) (sym e) ∙ contains-numbers_of bytes n ∙ here;
      no_smaller = λ q is. not_before n q _ (before q) (sym (contains-numbers_of bytes q) ∙ ap (λ t. set.contains t q) e ∙ is);
    }
  where
    not_before : (low high : ℕ) (m : Bool) → (high < low → m ≡ false) → m ≡ true → low ≤ high
    not_before low high m none is = elim (cases_lt high low) [ inl h ↦ absurd (both_ways m (none h) is) | inr h ↦ h ]

-- if no bit is set, the set is empty
pub empty_unmarked : (size : ℕ) (bytes : List ℕ) (s : Numbers) → numbers_of bytes ≡ s → ((q : ℕ) → q < size → is_marked bytes q ≡ false) → ((q : ℕ) → size ≤ q → is_marked bytes q ≡ false) → s ≡ set.empty
empty_unmarked size bytes s e low high =
    sym e ∙ same_numbers _ _ (λ q.
    contains-numbers_of bytes q
    ∙ elim (cases_lt q size) as (λ _. is_marked bytes q ≡ false) [ inl h ↦ low q h | inr h ↦ high q h ]
    ∙ sym (contains-none q))

-- ---- a byte at a time

-- a byte of 0 has no number
pub unmarked_zero : (bytes : List ℕ) (n : ℕ) → get_or bytes (n / 8) 0 ≡ 0 → is_marked bytes n ≡ false
unfolding is_marked
unmarked_zero bytes n e = no_bit _ _ e

-- bit 7 − r of byte k is that of number 8k + r
marked_placed : (bytes : List ℕ) (n k r : ℕ) → n / 8 ≡ k → n % 8 ≡ r → is_marked bytes n ≡ eqb (bit_at (get_or bytes k 0) (7 - r)) 1
unfolding is_marked
marked_placed bytes n k r place at i = eqb (bit_at (get_or bytes (place i) 0) (7 - at i)) 1

-- r bits are above the highest one of a byte
pub record IsFirstBit (b r : ℕ) : Type 0 where
  pub below : r < 8
  pub here : bit_at b (7 - r) ≡ 1
  pub before : (i : ℕ) → i < r → bit_at b (7 - i) ≡ 0

-- the highest bit of the first byte that is not 0 is the set's least number
pub IsLeast-first_bit : (bytes : List ℕ) (s : Numbers) (k r : ℕ) → numbers_of bytes ≡ s → ((i : ℕ) → i < k → get_or bytes i 0 ≡ 0) → IsFirstBit (get_or bytes k 0) r → IsLeast s (8 * k + r)
IsLeast-first_bit bytes s k r e zero_before first =
    IsLeast-marked bytes s (8 * k + r) e
    (marked_placed bytes (8 * k + r) k r (omega (arith, first.below)) (omega (arith, first.below)) ∙ ap (λ x. eqb x 1) first.here)
    (λ q lt.
    elim (cases_lt (q / 8) k) [
      | inl earlier ↦ unmarked_zero bytes q (zero_before (q / 8) earlier)
      | inr here ↦ marked_placed bytes q k (q % 8) (omega (arith, first.below)) refl ∙ ap (λ x. eqb x 1) (first.before (q % 8) (omega (arith, first.below)))
    ])

count_step : (bytes : List ℕ) (n d : ℕ) → d < 2 → is_marked bytes n ≡ eqb d 1 → set.len (up_to (numbers_of bytes) (n + 1)) ≡ set.len (up_to (numbers_of bytes) n) + d
count_step bytes n zero lt e = omega (arith, len-up_to_out (numbers_of bytes) n (contains-numbers_of bytes n ∙ e))
count_step bytes n (suc zero) lt e = len-up_to_in (numbers_of bytes) n (contains-numbers_of bytes n ∙ e)
count_step bytes n (suc (suc d)) lt e = absurd (omega arith)

-- a number adds its bit to the count of those below
counts_bit : (bytes : List ℕ) (k r : ℕ) → r < 8 → set.len (up_to (numbers_of bytes) (8 * k + (r + 1))) ≡ set.len (up_to (numbers_of bytes) (8 * k + r)) + bit_at (get_or bytes k 0) (7 - r)
counts_bit bytes k r lt =
    let next : 8 * k + (r + 1) ≡ 8 * k + r + 1 = omega arith in
    ap (λ n. set.len (up_to (numbers_of bytes) n)) next
    ∙ count_step bytes (8 * k + r) _ (bit_at-lt (get_or bytes k 0) (7 - r)) (marked_placed bytes (8 * k + r) k r (omega arith) (omega arith))

add_eight : (f : ℕ → ℕ) (d : ℕ → ℕ) (n : ℕ) → ((r : ℕ) → r < 8 → f (n + (r + 1)) ≡ f (n + r) + d (7 - r)) → f (n + 8) ≡ f n + (d 7 + d 6 + d 5 + d 4 + d 3 + d 2 + d 1 + d 0)
add_eight f d n step =
    let start : f (n + 0) ≡ f n = ap f (omega arith) in
    let e0 : f (n + 1) ≡ f (n + 0) + d 7 = step 0 (omega arith) in
    let e1 : f (n + 2) ≡ f (n + 1) + d 6 = step 1 (omega arith) in
    let e2 : f (n + 3) ≡ f (n + 2) + d 5 = step 2 (omega arith) in
    let e3 : f (n + 4) ≡ f (n + 3) + d 4 = step 3 (omega arith) in
    let e4 : f (n + 5) ≡ f (n + 4) + d 3 = step 4 (omega arith) in
    let e5 : f (n + 6) ≡ f (n + 5) + d 2 = step 5 (omega arith) in
    let e6 : f (n + 7) ≡ f (n + 6) + d 1 = step 6 (omega arith) in
    let e7 : f (n + 8) ≡ f (n + 7) + d 0 = step 7 (omega arith) in
    omega arith

-- a byte adds its bits
pub counts_byte : (bytes : List ℕ) (k : ℕ) → let b = get_or bytes k 0 in set.len (up_to (numbers_of bytes) (8 * (k + 1))) ≡ set.len (up_to (numbers_of bytes) (8 * k)) + (bit_at b 7 + bit_at b 6 + bit_at b 5 + bit_at b 4 + bit_at b 3 + bit_at b 2 + bit_at b 1 + bit_at b 0)
counts_byte bytes k =
    let whole : 8 * (k + 1) ≡ 8 * k + 8 = omega arith in
    ap (λ n. set.len (up_to (numbers_of bytes) n)) whole
    ∙ add_eight (λ n. set.len (up_to (numbers_of bytes) n)) (bit_at (get_or bytes k 0)) (8 * k) (counts_bit bytes k)

-- ---- from a set to bytes

bit_of-lt : (s : Numbers) (n : ℕ) → bit_in_set s n < 2
bit_of-lt s n = cond_both (set.contains s n) 1 0 (λ x. x < 2) (λ _. omega arith) (λ _. omega arith)

bit_of-is : (b : Bool) → eqb (cond b 1 0) 1 ≡ b
bit_of-is true = refl
bit_of-is false = refl

module _ (bit : ℕ → ℕ) (h0 : bit 0 < 2) (h1 : bit 1 < 2) (h2 : bit 2 < 2) (h3 : bit 3 < 2) (h4 : bit 4 < 2) (h5 : bit 5 < 2) (h6 : bit 6 < 2) (h7 : bit 7 < 2) where
  bit_at-weights : (r : ℕ) → r < 8 → bit_at (weights bit) (7 - r) ≡ bit r
  bit_at-weights zero lt = omega arith
  bit_at-weights (suc zero) lt = omega arith
  bit_at-weights (suc (suc zero)) lt = omega arith
  bit_at-weights (suc (suc (suc zero))) lt = omega arith
  bit_at-weights (suc (suc (suc (suc zero)))) lt = omega arith
  bit_at-weights (suc (suc (suc (suc (suc zero))))) lt = omega arith
  bit_at-weights (suc (suc (suc (suc (suc (suc zero)))))) lt = omega arith
  bit_at-weights (suc (suc (suc (suc (suc (suc (suc zero))))))) lt = omega arith
  bit_at-weights (suc (suc (suc (suc (suc (suc (suc (suc r)))))))) lt = absurd (omega arith)

bit_at-byte_of : (s : Numbers) (k r : ℕ) → r < 8 → bit_at (byte_of s k) (7 - r) ≡ bit_in_set s (8 * k + r)
unfolding byte_of
bit_at-byte_of s k r lt =
    ap (λ n. bit_at (128 * bit_in_set s n + 64 * bit_in_set s (8 * k + 1) + 32 * bit_in_set s (8 * k + 2) + 16 * bit_in_set s (8 * k + 3) + 8 * bit_in_set s (8 * k + 4) + 4 * bit_in_set s (8 * k + 5) + 2 * bit_in_set s (8 * k + 6) + bit_in_set s (8 * k + 7)) (7 - r)) first
    ∙ bit_at-weights (λ i. bit_in_set s (8 * k + i)) (bit_of-lt s (8 * k + 0)) (bit_of-lt s (8 * k + 1)) (bit_of-lt s (8 * k + 2)) (bit_of-lt s (8 * k + 3)) (bit_of-lt s (8 * k + 4)) (bit_of-lt s (8 * k + 5)) (bit_of-lt s (8 * k + 6)) (bit_of-lt s (8 * k + 7)) r lt
  where
    first : 8 * k ≡ 8 * k + 0
    first = omega arith

pub byte_of-fits : (s : Numbers) (k : ℕ) → byte_of s k < 256
unfolding byte_of
byte_of-fits s k =
    let h0 = bit_of-lt s (8 * k) in
    let h1 = bit_of-lt s (8 * k + 1) in
    let h2 = bit_of-lt s (8 * k + 2) in
    let h3 = bit_of-lt s (8 * k + 3) in
    let h4 = bit_of-lt s (8 * k + 4) in
    let h5 = bit_of-lt s (8 * k + 5) in
    let h6 = bit_of-lt s (8 * k + 6) in
    let h7 = bit_of-lt s (8 * k + 7) in
    omega arith

pub length-byte_form : (width : ℕ) (s : Numbers) → length (byte_form width s) ≡ width
unfolding byte_form
length-byte_form width s = length-map-range_with_len (byte_of s) 0 width

get_or-byte_form : (width : ℕ) (s : Numbers) (k : ℕ) → k < width → get_or (byte_form width s) k 0 ≡ byte_of s k
unfolding byte_form
get_or-byte_form width s k h = get_or-map-range_with_len (byte_of s) 0 width k k 0 h (omega arith)

is_marked-byte_form : (width : ℕ) (s : Numbers) (n : ℕ) → n < 8 * width → is_marked (byte_form width s) n ≡ set.contains s n
unfolding is_marked
is_marked-byte_form width s n h =
    let whole : 8 * (n / 8) + n % 8 ≡ n = omega arith in
    ap (λ x. eqb (bit_at x (7 - n % 8)) 1) (get_or-byte_form width s (n / 8) (omega arith))
    ∙ ap (λ x. eqb x 1) (bit_at-byte_of s (n / 8) (n % 8) (omega arith) ∙ ap (bit_in_set s) whole)
    ∙ bit_of-is (set.contains s n)

past_all : (width n : ℕ) (b : Bool) → (b ≡ true → n < 8 * width) → 8 * width ≤ n → false ≡ b
past_all width n true within past = absurd (omega (arith, within refl))
past_all width n false within past = refl

-- a set of numbers that fit is the one that its byte form makes
pub numbers_of-byte_form : (width : ℕ) (s : Numbers) → AllBelow (8 * width) s → numbers_of (byte_form width s) ≡ s
numbers_of-byte_form width s fits =
    same_numbers _ _ (λ q.
    contains-numbers_of _ q
    ∙ elim (cases_lt q (8 * width)) [
      | inl h ↦ is_marked-byte_form width s q h
      | inr h ↦ unmarked_past (byte_form width s) q (rw (length-byte_form width s) h) ∙ past_all width q _ (fits q) h
    ])

-- ---- packed bytes and the byte form

-- two packed forms of one set are equal
pub same_packed : (size : ℕ) (a b : List ℕ) → IsPacked size a → IsPacked size b → numbers_of a ≡ numbers_of b → a ≡ b
same_packed size a b pa pb e =
    sym (byte_form-numbers_of a 9 pa.width (λ k _. pa.bytes_fit k)) ∙ ap (byte_form 9) e ∙ byte_form-numbers_of b 9 pb.width (λ k _. pb.bytes_fit k)

lists_decide : (xs ys : List ℕ) → Decides (pointwise eqb xs ys) (xs ≡ ys)
lists_decide xs ys = bytes_decides xs ys

-- packed bytes are all 0 exactly if their set is empty
pub empty_zeros : (size : ℕ) (bytes : List ℕ) (s : Numbers) → IsPacked size bytes → numbers_of bytes ≡ s → Decides (pointwise eqb bytes (replicate 9 0)) (s ≡ set.empty)
empty_zeros size bytes s packed e =
    Decides-like _ (λ all. sym e ∙ ap numbers_of all ∙ numbers_of-zeros 9)
    (λ none. same_packed size bytes (zeros 9) packed (IsPacked-zeros size packed.not_empty packed.not_over) (e ∙ none ∙ sym (numbers_of-zeros 9)))
    (lists_decide bytes (zeros 9))

-- the test of equal bytes is that of equal sets
pub same-packed : (size : ℕ) (a b : List ℕ) → IsPacked size a → IsPacked size b → pointwise eqb a b ≡ are_same_sets (numbers_of a) (numbers_of b)
same-packed size a b pa pb =
    same_from_decides _ _
    (Decides-like _ (ap numbers_of) (same_packed size a b pa pb) (lists_decide a b))
    (same_decides (numbers_of a) (numbers_of b))

-- the first bytes of a packed form are the byte form of that width
pub byte_form-packed : (size width : ℕ) (bytes : List ℕ) → IsPacked size bytes → width ≤ 9 → take width bytes ≡ byte_form width (numbers_of bytes)
unfolding byte_form
byte_form-packed size width bytes packed fits =
    let room : width ≤ length bytes = omega (arith, packed.width) in
    fill_by_all (byte_of (numbers_of bytes)) (take width bytes) width 0 (length-take-le width bytes room) (λ k h.
    get_or-take width bytes k 0 h ∙ byte_of-numbers_of bytes k (packed.bytes_fit k))

pub AllBelow-wider : (low high : ℕ) (s : Numbers) → low ≤ high → AllBelow low s → AllBelow high s
AllBelow-wider low high s h all q is = omega (arith, all q is)

-- bytes of 0 after it change nothing
byte_of_padded : (bytes rest : List ℕ) → ((k : ℕ) → get_or rest k 0 ≡ 0) → (k : ℕ) → get_or (bytes ++ rest) k 0 ≡ get_or bytes k 0
byte_of_padded [] rest none zero = none 0
byte_of_padded [] rest none (suc k) = none (suc k)
byte_of_padded (b ∷ bytes) rest none zero = refl
byte_of_padded (b ∷ bytes) rest none (suc k) = byte_of_padded bytes rest none k

no_byte_after : (len k : ℕ) → get_or (drop len (zeros 9)) k 0 ≡ 0
no_byte_after len k = get_or-drop len (zeros 9) k 0 ∙ byte_of_zeros 9 (len + k)

-- bytes made up to nine by bytes of 0
abbrev pub padded : List ℕ → List ℕ
padded bytes = bytes ++ drop (length bytes) (zeros 9)

is_marked-padded : (bytes : List ℕ) (n : ℕ) → is_marked (padded bytes) n ≡ is_marked bytes n
unfolding is_marked
is_marked-padded bytes n =
    ap (λ x. eqb (bit_at x (7 - n % 8)) 1) (byte_of_padded bytes (drop (length bytes) (zeros 9)) (no_byte_after (length bytes)) (n / 8))

pub numbers_of-padded : (bytes : List ℕ) → numbers_of (padded bytes) ≡ numbers_of bytes
numbers_of-padded bytes =
    same_numbers _ _ (λ q. contains-numbers_of (padded bytes) q ∙ is_marked-padded bytes q ∙ sym (contains-numbers_of bytes q))

pub IsPacked-padded : (size : ℕ) (bytes : List ℕ) → 1 ≤ size → size ≤ 72 → length bytes ≡ (size + 7) / 8 → ((k : ℕ) → get_or bytes k 0 < 256) → ((q : ℕ) → size ≤ q → q < 8 * length bytes → is_marked bytes q ≡ false) → IsPacked size (padded bytes)
IsPacked-padded size bytes some fits e fit none =
    record {
      width = length-append bytes _ ∙ ap (λ n. length bytes + n) (length-drop (length bytes) (zeros 9)) ∙ whole;
      bytes_fit = λ k. let are_same_sets : get_or (padded bytes) k 0 ≡ get_or bytes k 0 = byte_of_padded bytes (drop (length bytes) (zeros 9)) (no_byte_after (length bytes)) k in omega (arith, fit k);
      within = λ q past. is_marked-padded bytes q ∙ elim (cases_lt q (8 * length bytes)) [ inl h ↦ none q past h | inr h ↦ unmarked_past bytes q h ];
      not_empty = some;
      not_over = fits;
    }
  where
    whole : length bytes + (9 - length bytes) ≡ 9
    whole = omega arith

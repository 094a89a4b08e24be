-- Bytes of which the first bits are cleared: each byte, how many bits are cleared, and the next one.
use Rattle.std.proofs.Common.{◌≡◌, ◌≢◌, ℕ, zero, suc, ◌+◌, ◌-◌, ◌*◌, ◌/◌, ◌%◌, ◌^◌, ◌<◌, ◌≤◌, ◌↔◌, ⊎_elim, min, Bool, true, false, List, [], ◌∷◌, ◌++◌, length, get_or, take, bit_and, refl, sym, ap, ◌∙◌, subst, arith}
use Rattle.std.specs.Prelude.{◌==◌, ◌&&◌, nat_lt}
use Rattle.std.specs.List.{list_all, range_with_len, sum_by}
use Rattle.std.specs.Int.{bit_at, count_zeros, w8}
use Rattle.std.proofs.lemmas.Bool.{eqb-true, ltb-true, cases_lt}
use Rattle.std.proofs.lemmas.List.FromFn.{length-map-range_with_len, get_or-map-range_with_len, take-map-range_with_len, map-range_with_len_more, fill_by_all}
use Rattle.std.proofs.lemmas.List.Sums.{sum_by_push}
use Rattle.std.proofs.lemmas.List.{get_or_past}
use lib.Count.{ones, ones_in}
use Rattle.std.proofs.lemmas.Nat.Bits.{bit_at_ones, bit_at_ones_above}
use Rattle.dg_words.specs.Bits.{cleared_bits, bit_of}
use Rattle.dg_words.specs.Cells.{AreBytes}

both : (a b : Bool) → a && b ≡ true → (a ≡ true) × (b ≡ true)
both true b h = (refl, h)
both false b h = absurd cc

-- what a test says of each number from a on, n of them
all_from : (p : ℕ → Bool) (a n k : ℕ) → list_all p (range_with_len a n) ≡ true → k < n → p (a + k) ≡ true
all_from p a zero k h lt = absurd (omega arith)
all_from p a (suc n) zero h lt = let e : a ≡ a + 0 = omega arith in subst (λ (m : ℕ). p m ≡ true) e (both (p a) (list_all p (range_with_len (a + 1) n)) h).0
all_from p a (suc n) (suc k) h lt =
    let e : (a + 1) + k ≡ a + suc k = omega arith in
    subst (λ (m : ℕ). p m ≡ true) e (all_from p (a + 1) n k (both (p a) (list_all p (range_with_len (a + 1) n)) h).1 (omega arith))

all_below : (p : ℕ → Bool) (n k : ℕ) → list_all p (range_with_len 0 n) ≡ true → k < n → p k ≡ true
all_below p n k h lt = let e : 0 + k ≡ k = omega arith in subst (λ (m : ℕ). p m ≡ true) e (all_from p 0 n k h lt)

-- ---- one byte

-- a byte of set bits, shifted by as many as are cleared
pub shifted_byte : (c : ℕ) → c ≤ 8 → 255 / 2 ^ c ≡ 2 ^ (8 - c) - 1
shifted_byte c h = eqb-true (255 / 2 ^ c) (2 ^ (8 - c) - 1) (all_below (λ k. 255 / 2 ^ k == 2 ^ (8 - k) - 1) 9 c refl (omega arith))

-- the same with one bit fewer to begin with
pub shifted_next : (c : ℕ) → c < 8 → 127 / 2 ^ c ≡ 2 ^ (8 - (c + 1)) - 1
shifted_next c h = eqb-true (127 / 2 ^ c) (2 ^ (8 - (c + 1)) - 1) (all_below (λ k. 127 / 2 ^ k == 2 ^ (8 - (k + 1)) - 1) 8 c refl h)

-- how many of its bits are cleared
pub zeros-byte : (c : ℕ) → c ≤ 8 → count_zeros w8 (2 ^ (8 - c) - 1) ≡ c
unfolding ones ones_in
zeros-byte c h = eqb-true (count_zeros w8 (2 ^ (8 - c) - 1)) c (all_below (λ k. count_zeros w8 (2 ^ (8 - k) - 1) == k) 9 c refl (omega arith))

pub byte-small : (c : ℕ) → c ≤ 8 → 2 ^ (8 - c) - 1 < 256
byte-small c h = ltb-true (2 ^ (8 - c) - 1) 256 (all_below (λ k. nat_lt (2 ^ (8 - k) - 1) 256) 9 c refl (omega arith))

-- clearing the next bit leaves the other bits
pub and_next : (c : ℕ) → c < 8 → bit_and (2 ^ (8 - c) - 1) (2 ^ (8 - (c + 1)) - 1) ≡ 2 ^ (8 - (c + 1)) - 1
and_next c h = eqb-true (bit_and (2 ^ (8 - c) - 1) (2 ^ (8 - (c + 1)) - 1)) (2 ^ (8 - (c + 1)) - 1)
    (all_below (λ k. bit_and (2 ^ (8 - k) - 1) (2 ^ (8 - (k + 1)) - 1) == 2 ^ (8 - (k + 1)) - 1) 8 c refl h)

-- and subtracts its value
pub byte_next : (c : ℕ) → c < 8 → 2 ^ (8 - c) - 1 ≡ 2 ^ (8 - (c + 1)) - 1 + 2 ^ (7 - c)
byte_next c h = eqb-true (2 ^ (8 - c) - 1) (2 ^ (8 - (c + 1)) - 1 + 2 ^ (7 - c))
    (all_below (λ k. 2 ^ (8 - k) - 1 == 2 ^ (8 - (k + 1)) - 1 + 2 ^ (7 - k)) 8 c refl h)

-- ---- the list

abbrev byte_at : ℕ → ℕ → ℕ
byte_at n j = 2 ^ (8 - min 8 (n - 8 * j)) - 1

pub length-cleared_bits : (bytes n : ℕ) → length (cleared_bits bytes n) ≡ bytes
unfolding cleared_bits
length-cleared_bits bytes n = length-map-range_with_len (byte_at n) 0 bytes

pub get_or-cleared_bits : (bytes n k d : ℕ) → k < bytes → get_or (cleared_bits bytes n) k d ≡ 2 ^ (8 - min 8 (n - 8 * k)) - 1
unfolding cleared_bits
get_or-cleared_bits bytes n k d h = get_or-map-range_with_len (byte_at n) 0 bytes k k d h (omega arith)

-- a list that holds each byte
pub cleared_bits_from : (xs : List ℕ) (bytes n : ℕ) → length xs ≡ bytes → ((k : ℕ) → k < bytes → get_or xs k 0 ≡ 2 ^ (8 - min 8 (n - 8 * k)) - 1) → xs ≡ cleared_bits bytes n
unfolding cleared_bits
cleared_bits_from xs bytes n l each = fill_by_all (byte_at n) xs bytes 0 l each

pub take-cleared_bits : (k bytes n : ℕ) → k ≤ bytes → take k (cleared_bits bytes n) ≡ cleared_bits k n
unfolding cleared_bits
take-cleared_bits k bytes n h = take-map-range_with_len (byte_at n) 0 bytes k h

pub cleared_bits-more : (bytes n : ℕ) → cleared_bits (bytes + 1) n ≡ cleared_bits bytes n ++ (2 ^ (8 - min 8 (n - 8 * bytes)) - 1) ∷ []
unfolding cleared_bits
cleared_bits-more bytes n = map-range_with_len_more (byte_at n) 0 bytes bytes (omega arith)

zeros_none : (n : ℕ) → sum_by (λ b. count_zeros w8 b) (cleared_bits 0 n) ≡ min n (8 * 0)
unfolding cleared_bits
zeros_none n = omega arith

-- as many bits are cleared as there are, up to all of them
pub zeros-cleared_bits : (bytes n : ℕ) → sum_by (λ b. count_zeros w8 b) (cleared_bits bytes n) ≡ min n (8 * bytes)
zeros-cleared_bits zero n = zeros_none n
zeros-cleared_bits (suc bytes) n =
    let before = zeros-cleared_bits bytes n in
    let next : count_zeros w8 (2 ^ (8 - min 8 (n - 8 * bytes)) - 1) ≡ min 8 (n - 8 * bytes) = zeros-byte (min 8 (n - 8 * bytes)) (omega arith) in
    let count : suc bytes ≡ bytes + 1 = omega arith in
    ap (λ k. sum_by (λ b. count_zeros w8 b) (cleared_bits k n)) count
    ∙ ap (sum_by (λ b. count_zeros w8 b)) (cleared_bits-more bytes n)
    ∙ sum_by_push (λ b. count_zeros w8 b) (cleared_bits bytes n) (2 ^ (8 - min 8 (n - 8 * bytes)) - 1)
    ∙ omega (arith, before, next)

pub zeros_are : (bytes n : ℕ) → n ≤ 8 * bytes → sum_by (λ b. count_zeros w8 b) (cleared_bits bytes n) ≡ n
zeros_are bytes n h = zeros-cleared_bits bytes n ∙ omega arith

-- one list has one count
pub same_count : (bytes m n : ℕ) → cleared_bits bytes m ≡ cleared_bits bytes n → min m (8 * bytes) ≡ min n (8 * bytes)
same_count bytes m n e = sym (zeros-cleared_bits bytes m) ∙ ap (sum_by (λ b. count_zeros w8 b)) e ∙ zeros-cleared_bits bytes n

pub one_count : (bytes m n : ℕ) → m ≤ 8 * bytes → n ≤ 8 * bytes → cleared_bits bytes m ≡ cleared_bits bytes n → m ≡ n
one_count bytes m n h l e = let s = same_count bytes m n e in omega arith

pub AreBytes-cleared_bits : (bytes n : ℕ) → AreBytes (cleared_bits bytes n)
AreBytes-cleared_bits bytes n k = ⊎_elim
    (λ lt. rw (get_or-cleared_bits bytes n k 0 lt) (byte-small (min 8 (n - 8 * k)) (omega arith)))
    (λ ge. rw (get_or_past (cleared_bits bytes n) k 0 (omega (arith, length-cleared_bits bytes n))) (omega arith))
    (cases_lt k bytes)

-- ---- the next bit

-- the byte that holds the next bit, before and after it is cleared
pub byte_before : (n : ℕ) → min 8 (n - 8 * (n / 8)) ≡ n % 8
byte_before n = omega arith

pub byte_after : (n : ℕ) → min 8 (n + 1 - 8 * (n / 8)) ≡ n % 8 + 1
byte_after n = omega arith

-- all other bytes stay
pub other_bytes : (n k : ℕ) → k ≢ n / 8 → min 8 (n + 1 - 8 * k) ≡ min 8 (n - 8 * k)
other_bytes n k ne = omega arith

-- ---- bit by bit

pub bit_is_cleared : (bytes n i : ℕ) → i < 8 * bytes → (bit_of (cleared_bits bytes n) i ≡ 0) ↔ (i < n)
bit_is_cleared bytes n i h =
    let c = min 8 (n - 8 * (i / 8)) in
    let byte : get_or (cleared_bits bytes n) (i / 8) 0 ≡ 2 ^ (8 - c) - 1 = get_or-cleared_bits bytes n (i / 8) 0 (omega arith) in
    let bit : bit_of (cleared_bits bytes n) i ≡ bit_at (2 ^ (8 - c) - 1) (7 - i % 8) = ap (λ b. bit_at b (7 - i % 8)) byte in (
      λ zero. ⊎_elim (λ lt. lt)
          (λ ge. let set = bit_at_ones (8 - c) (7 - i % 8) (omega arith) in absurd (omega (arith, set, bit, zero)))
          (cases_lt i n),
      λ lt. bit ∙ bit_at_ones_above (8 - c) (7 - i % 8) (omega arith),
    )

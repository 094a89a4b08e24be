-- The checksum, by the byte and in parts.
use Rattle.std.proofs.Common.{◌≡◌, ℕ, zero, suc, ◌+◌, ◌-◌, ◌*◌, ◌/◌, ◌%◌, ◌^◌, ◌<◌, ◌≤◌, ◌==◌, bit_xor, Bool, true, false, List, [], ◌∷◌, ◌++◌, length, get_or, drop, fold, All, if◌then◌else◌, zero-add, pow-suc, refl, sym, ap, ap₂, ◌∙◌, subst, arith, inl, inr}
use lib.Bits.{xor_assoc, xor_self, xor_zero_r, xor_zero_l}
use Rattle.std.proofs.lemmas.Bool.{agree_below_at, eqb-true, cases_lt}
use Rattle.std.proofs.lemmas.List.{drop_all, drop_more}
use Rattle.std.proofs.lemmas.List.Sums.{fold-append}
use Rattle.std.proofs.lemmas.List.Elements.{All-cons, All-head, All-nil, All-tail}
use Rattle.std.proofs.lemmas.Nat.{mul-le, pow_pos, xor_block, xor_comm, xor_lt, xor_shr}
use Rattle.dg_base.specs.declared.checksum_tables.TheConstants.{AFTER}
use Rattle.dg_base.specs.Crc.{crc_more, crc_of, generator, polynomial_of, product, shifted, times_x, with_byte}

-- ---- sums of polynomials

xor_swap : (a b c d : ℕ) → bit_xor (bit_xor a b) (bit_xor c d) ≡ bit_xor (bit_xor a c) (bit_xor b d)
xor_swap a b c d =
    xor_assoc a b (bit_xor c d) ∙ ap (bit_xor a) (sym (xor_assoc b c d) ∙ ap (λ t. bit_xor t d) (xor_comm b c) ∙ xor_assoc c b d)
    ∙ sym (xor_assoc a c (bit_xor b d))

xor_double : (a b : ℕ) → 2 * bit_xor a b ≡ bit_xor (2 * a) (2 * b)
xor_double a b =
    let left : a * 2 ^ 1 + 0 ≡ 2 * a = omega arith in
    let right : b * 2 ^ 1 + 0 ≡ 2 * b = omega arith in
    let whole : bit_xor a b * 2 ^ 1 + bit_xor 0 0 ≡ 2 * bit_xor a b = omega arith in
    sym whole ∙ sym (xor_block 1 a b 0 0 (omega arith) (omega arith)) ∙ ap (λ t. bit_xor t (b * 2 ^ 1 + 0)) left ∙ ap (bit_xor (2 * a)) right

-- a bit times the generator
xor_bits : (t u : ℕ) → t < 2 → u < 2 → bit_xor t u * generator ≡ bit_xor (t * generator) (u * generator)
xor_bits zero u h k = ap (λ v. v * generator) (xor_zero_l u) ∙ sym (xor_zero_l (u * generator))
xor_bits (suc zero) zero h k = refl
xor_bits (suc zero) (suc zero) h k = refl
xor_bits (suc zero) (suc (suc u)) h k = absurd (omega arith)
xor_bits (suc (suc t)) u h k = absurd (omega arith)

-- ---- the register

times_x-xor : (a b : ℕ) → a < 2 ^ 16 → b < 2 ^ 16 → times_x (bit_xor a b) ≡ bit_xor (times_x a) (times_x b)
unfolding times_x
times_x-xor a b h k =
    let top = xor_bits (a / 2 ^ 15) (b / 2 ^ 15) (omega arith) (omega arith) in
    ap (λ t. bit_xor t (bit_xor a b / 2 ^ 15 * generator)) (xor_double a b)
    ∙ ap (λ t. bit_xor (bit_xor (2 * a) (2 * b)) t) (ap (λ t. t * generator) (xor_shr a b 15) ∙ top)
    ∙ xor_swap (2 * a) (2 * b) (a / 2 ^ 15 * generator) (b / 2 ^ 15 * generator)

-- below x^15 nothing is subtracted
times_x-low : (r : ℕ) → r < 2 ^ 15 → times_x r ≡ 2 * r
unfolding times_x
times_x-low r h =
    let none : r / 2 ^ 15 ≡ 0 = omega arith in
    ap (λ t. bit_xor (2 * r) (t * generator)) none ∙ xor_zero_r (2 * r)

times_x-high : (r : ℕ) → 2 ^ 15 ≤ r → r < 2 ^ 16 → times_x r ≡ bit_xor (2 * r - 2 ^ 16) 0x1021
unfolding times_x
times_x-high r h k =
    let one : r / 2 ^ 15 ≡ 1 = omega arith in
    let parted : 2 * r ≡ 1 * 2 ^ 16 + (2 * r - 2 ^ 16) = omega arith in
    ap (λ t. bit_xor (2 * r) (t * generator)) one ∙ ap (λ t. bit_xor t (1 * generator)) parted
    ∙ xor_block 16 1 1 (2 * r - 2 ^ 16) 0x1021 (omega arith) (omega arith) ∙ zero-add (bit_xor (2 * r - 2 ^ 16) 0x1021)

pub times_x-lt : (r : ℕ) → r < 2 ^ 16 → times_x r < 2 ^ 16
times_x-lt r h =
    elim (cases_lt r (2 ^ 15)) [
      | inl low ↦ let e = times_x-low r low in omega (arith, e)
      | inr high ↦
          let e = times_x-high r high h in
          let s = xor_lt 16 (2 * r - 2 ^ 16) 0x1021 (omega arith) (omega arith) in
          omega (arith, e, s)
    ]

shifted-none : (r : ℕ) → shifted 0 r ≡ r
unfolding shifted
shifted-none r = refl

pub shifted-lt : (n r : ℕ) → r < 2 ^ 16 → shifted n r < 2 ^ 16
unfolding shifted
shifted-lt zero r h = h
shifted-lt (suc n) r h = shifted-lt n (times_x r) (times_x-lt r h)

pub shifted-xor : (n a b : ℕ) → a < 2 ^ 16 → b < 2 ^ 16 → shifted n (bit_xor a b) ≡ bit_xor (shifted n a) (shifted n b)
unfolding shifted
shifted-xor zero a b h k = refl
shifted-xor (suc n) a b h k = ap (shifted n) (times_x-xor a b h k) ∙ shifted-xor n (times_x a) (times_x b) (times_x-lt a h) (times_x-lt b k)

pub shifted-shifted : (m n r : ℕ) → shifted n (shifted m r) ≡ shifted (m + n) r
unfolding shifted
shifted-shifted zero n r = ap (λ k. shifted k r) (let e : n ≡ 0 + n = omega arith in e)
shifted-shifted (suc m) n r = shifted-shifted m n (times_x r) ∙ ap (λ k. shifted k r) (let e : suc (m + n) ≡ suc m + n = omega arith in e)

-- eight shifts of a low byte
shifted-low : (n r : ℕ) → r * 2 ^ n < 2 ^ 16 → shifted n r ≡ r * 2 ^ n
unfolding shifted
shifted-low zero r h = omega arith
shifted-low (suc n) r h =
    let twice : r * 2 ^ suc n ≡ 2 * r * 2 ^ n = ap (λ t. r * t) (pow-suc 2 n) ∙ (let e : r * (2 ^ n * 2) ≡ 2 * r * 2 ^ n = omega arith in e) in
    let some : 1 ≤ 2 ^ n = pow_pos n in
    let fits : 2 * r * 2 ^ n < 2 ^ 16 = omega (arith, twice) in
    let least : 2 * r * 1 ≤ 2 * r * 2 ^ n = mul-le (2 * r) 1 (2 * r) (2 ^ n) (omega arith) some in
    ap (shifted n) (times_x-low r (omega arith)) ∙ shifted-low n (2 * r) fits ∙ sym twice

-- ---- one more byte

-- the table
pub after_1 : (v : ℕ) → v < 256 → get_or AFTER v 0 ≡ shifted 8 (v * 2 ^ 8)
unfolding shifted times_x
after_1 v h = eqb-true _ _ (agree_below_at (λ v. get_or AFTER v 0 == shifted 8 (v * 2 ^ 8)) (λ _. true) 256 v refl h)

pub after_2 : (v : ℕ) → v < 256 → get_or AFTER (256 + v) 0 ≡ shifted 16 (v * 2 ^ 8)
unfolding shifted times_x
after_2 v h = eqb-true _ _ (agree_below_at (λ v. get_or AFTER (256 + v) 0 == shifted 16 (v * 2 ^ 8)) (λ _. true) 256 v refl h)

pub after_3 : (v : ℕ) → v < 256 → get_or AFTER (512 + v) 0 ≡ shifted 24 (v * 2 ^ 8)
unfolding shifted times_x
after_3 v h = eqb-true _ _ (agree_below_at (λ v. get_or AFTER (512 + v) 0 == shifted 24 (v * 2 ^ 8)) (λ _. true) 256 v refl h)

pub after_4 : (v : ℕ) → v < 256 → get_or AFTER (768 + v) 0 ≡ shifted 32 (v * 2 ^ 8)
unfolding shifted times_x
after_4 v h = eqb-true _ _ (agree_below_at (λ v. get_or AFTER (768 + v) 0 == shifted 32 (v * 2 ^ 8)) (λ _. true) 256 v refl h)

pub after_5 : (v : ℕ) → v < 256 → get_or AFTER (1024 + v) 0 ≡ shifted 40 (v * 2 ^ 8)
unfolding shifted times_x
after_5 v h = eqb-true _ _ (agree_below_at (λ v. get_or AFTER (1024 + v) 0 == shifted 40 (v * 2 ^ 8)) (λ _. true) 256 v refl h)

pub after_6 : (v : ℕ) → v < 256 → get_or AFTER (1280 + v) 0 ≡ shifted 48 (v * 2 ^ 8)
unfolding shifted times_x
after_6 v h = eqb-true _ _ (agree_below_at (λ v. get_or AFTER (1280 + v) 0 == shifted 48 (v * 2 ^ 8)) (λ _. true) 256 v refl h)

pub after_7 : (v : ℕ) → v < 256 → get_or AFTER (1536 + v) 0 ≡ shifted 56 (v * 2 ^ 8)
unfolding shifted times_x
after_7 v h = eqb-true _ _ (agree_below_at (λ v. get_or AFTER (1536 + v) 0 == shifted 56 (v * 2 ^ 8)) (λ _. true) 256 v refl h)

pub after_8 : (v : ℕ) → v < 256 → get_or AFTER (1792 + v) 0 ≡ shifted 64 (v * 2 ^ 8)
unfolding shifted times_x
after_8 v h = eqb-true _ _ (agree_below_at (λ v. get_or AFTER (1792 + v) 0 == shifted 64 (v * 2 ^ 8)) (λ _. true) 256 v refl h)

pub crc_more-nil : (r : ℕ) → crc_more r [] ≡ r
unfolding crc_more
crc_more-nil r = refl

pub crc_more-cons : (r byte : ℕ) (bytes : List ℕ) → crc_more r (byte ∷ bytes) ≡ crc_more (with_byte r byte) bytes
unfolding crc_more
crc_more-cons r byte bytes = refl

-- The checksum of two parts is that of the second, continued from that of the first.
pub crc_more-append : (r : ℕ) (xs ys : List ℕ) → crc_more (crc_more r xs) ys ≡ crc_more r (xs ++ ys)
unfolding crc_more
crc_more-append r [] ys = refl
crc_more-append r (x ∷ xs) ys = crc_more-append (with_byte r x) xs ys

pub with_byte-lt : (r byte : ℕ) → r < 2 ^ 16 → byte < 2 ^ 8 → with_byte r byte < 2 ^ 16
with_byte-lt r byte h k = shifted-lt 8 (bit_xor r (byte * 2 ^ 8)) (xor_lt 16 r (byte * 2 ^ 8) h (omega arith))

pub crc_more-lt : (r : ℕ) (bytes : List ℕ) → r < 2 ^ 16 → All (λ b. b < 2 ^ 8) bytes → crc_more r bytes < 2 ^ 16
unfolding crc_more
crc_more-lt r [] h k = h
crc_more-lt r (b ∷ bytes) h k = crc_more-lt (with_byte r b) bytes (with_byte-lt r b h (All-head (λ b. b < 2 ^ 8) b bytes k)) (All-tail (λ b. b < 2 ^ 8) b bytes k)

-- one more byte, by the table
pub with_byte-table : (r byte : ℕ) → r < 2 ^ 16 → byte < 2 ^ 8 → bit_xor (shifted 8 (bit_xor (r / 2 ^ 8) byte * 2 ^ 8)) (r * 2 ^ 8 % 2 ^ 16) ≡ with_byte r byte
with_byte-table r byte h k =
    let high = r / 2 ^ 8 in
    let low = r % 2 ^ 8 in
    let top = bit_xor high byte in
    let small : top < 2 ^ 8 = xor_lt 8 high byte (omega arith) k in
    let parted : r ≡ high * 2 ^ 8 + low = omega arith in
    let added : bit_xor r (byte * 2 ^ 8) ≡ top * 2 ^ 8 + low =
    ap₂ bit_xor parted (let e : byte * 2 ^ 8 ≡ byte * 2 ^ 8 + 0 = omega arith in e)
    ∙ xor_block 8 high byte low 0 (omega arith) (omega arith) ∙ ap (λ t. top * 2 ^ 8 + t) (xor_zero_r low) in
    let apart : top * 2 ^ 8 + low ≡ bit_xor (top * 2 ^ 8) low =
    sym (
    ap₂ bit_xor (let e : top * 2 ^ 8 ≡ top * 2 ^ 8 + 0 = omega arith in e) (let e : low ≡ 0 * 2 ^ 8 + low = omega arith in e)
    ∙ xor_block 8 top 0 0 low (omega arith) (omega arith) ∙ ap₂ (λ t u. t * 2 ^ 8 + u) (xor_zero_r top) (xor_zero_l low)
    ) in
    let out : r * 2 ^ 8 % 2 ^ 16 ≡ low * 2 ^ 8 = omega arith in
    sym (
    ap (shifted 8) (added ∙ apart) ∙ shifted-xor 8 (top * 2 ^ 8) low (omega arith) (omega arith)
    ∙ ap (bit_xor (shifted 8 (top * 2 ^ 8))) (shifted-low 8 low (omega arith) ∙ sym out)
    )

-- ---- the remainder

-- the two polynomials differ by a multiple of the generator
abbrev IsCongruent : ℕ → ℕ → Type 0
IsCongruent n r = (quotient : List Bool) × (bit_xor n r ≡ product quotient generator)

remainder-times_x : (n r : ℕ) → r < 2 ^ 16 → IsCongruent n r → IsCongruent (2 * n) (times_x r)
unfolding times_x product
remainder-times_x n r h e =
    let q = e.0 in
    let whole : 2 * bit_xor n r ≡ bit_xor (2 * n) (2 * r) = xor_double n r in
    elim (cases_lt r (2 ^ 15)) [
      | inl low ↦
          let none : r / 2 ^ 15 ≡ 0 = omega arith in (
            q ++ false ∷ [],
            ap (λ t. bit_xor (2 * n) (bit_xor (2 * r) (t * generator))) none ∙ sym (xor_assoc (2 * n) (2 * r) 0)
                ∙ ap (λ t. bit_xor t 0) (sym whole ∙ ap (λ t. 2 * t) e.1) ∙ sym (fold-append (λ n c. bit_xor (2 * n) (if c then generator else 0)) 0 q (false ∷ [])),
          )
      | inr high ↦
          let one : r / 2 ^ 15 ≡ 1 = omega arith in (
            q ++ true ∷ [],
            ap (λ t. bit_xor (2 * n) (bit_xor (2 * r) (t * generator))) one ∙ sym (xor_assoc (2 * n) (2 * r) generator)
                ∙ ap (λ t. bit_xor t generator) (sym whole ∙ ap (λ t. 2 * t) e.1) ∙ sym (fold-append (λ n c. bit_xor (2 * n) (if c then generator else 0)) 0 q (true ∷ [])),
          )
    ]

remainder-shifted : (k n r : ℕ) → r < 2 ^ 16 → IsCongruent n r → IsCongruent (n * 2 ^ k) (shifted k r)
unfolding shifted
remainder-shifted zero n r h e = subst (λ m. IsCongruent m r) (let same : n ≡ n * 2 ^ 0 = omega arith in same) e
remainder-shifted (suc k) n r h e =
    let same : 2 * n * 2 ^ k ≡ n * 2 ^ suc k = (let e : 2 * n * 2 ^ k ≡ n * (2 ^ k * 2) = omega arith in e) ∙ ap (λ t. n * t) (sym (pow-suc 2 k)) in
    subst (λ m. IsCongruent m (shifted k (times_x r))) same (remainder-shifted k (2 * n) (times_x r) (times_x-lt r h) (remainder-times_x n r h e))

remainder-byte : (m r byte : ℕ) → r < 2 ^ 16 → byte < 2 ^ 8 → IsCongruent (m * 2 ^ 16) r → IsCongruent ((m * 2 ^ 8 + byte) * 2 ^ 16) (with_byte r byte)
remainder-byte m r byte h k e =
    let c = byte * 2 ^ 8 in
    let n = m * 2 ^ 16 in
    let added : bit_xor n c ≡ n + c =
    ap₂ bit_xor (let e : m * 2 ^ 16 ≡ m * 2 ^ 16 + 0 = omega arith in e) (let e : byte * 2 ^ 8 ≡ 0 * 2 ^ 16 + byte * 2 ^ 8 = omega arith in e)
    ∙ xor_block 16 m 0 0 c (omega arith) (omega arith) ∙ ap₂ (λ t u. t * 2 ^ 16 + u) (xor_zero_r m) (xor_zero_l c) in
    let same : bit_xor (n + c) (bit_xor r c) ≡ bit_xor n r =
    ap (λ t. bit_xor t (bit_xor r c)) (sym added) ∙ xor_swap n c r c ∙ ap (bit_xor (bit_xor n r)) (xor_self c) ∙ xor_zero_r (bit_xor n r) in
    let moved : (n + c) * 2 ^ 8 ≡ (m * 2 ^ 8 + byte) * 2 ^ 16 = omega arith in
    subst (λ t. IsCongruent t (with_byte r byte)) moved
    (remainder-shifted 8 (n + c) (bit_xor r c) (xor_lt 16 r c h (omega arith)) (e.0, same ∙ e.1))

remainder-more : (m r : ℕ) (bytes : List ℕ) → r < 2 ^ 16 → All (λ b. b < 2 ^ 8) bytes → IsCongruent (m * 2 ^ 16) r
    → IsCongruent (fold (λ n byte. n * 2 ^ 8 + byte) m bytes * 2 ^ 16) (crc_more r bytes)
unfolding crc_more
remainder-more m r [] h k e = e
remainder-more m r (b ∷ bytes) h k e =
    let small = All-head (λ b. b < 2 ^ 8) b bytes k in
    remainder-more (m * 2 ^ 8 + b) (with_byte r b) bytes (with_byte-lt r b h small) (All-tail (λ b. b < 2 ^ 8) b bytes k) (remainder-byte m r b h small e)

-- The checksum is the remainder of the message times x^16.
pub crc_of-remainder : (bytes : List ℕ) → All (λ b. b < 2 ^ 8) bytes → IsCongruent (polynomial_of bytes * 2 ^ 16) (crc_of bytes)
unfolding product
crc_of-remainder bytes h = remainder-more 0 0 bytes (omega arith) h ([], refl)

-- ---- the loop

-- one more byte of a rest
pub crc_more-drop : (r : ℕ) (bytes : List ℕ) (i : ℕ) → i < length bytes → crc_more r (drop i bytes) ≡ crc_more (with_byte r (get_or bytes i 0)) (drop (i + 1) bytes)
crc_more-drop r bytes i h = ap (crc_more r) (drop_more bytes i 0 h) ∙ crc_more-cons r (get_or bytes i 0) (drop (i + 1) bytes)

pub crc_more-drop_all : (r : ℕ) (bytes : List ℕ) (i : ℕ) → length bytes ≤ i → crc_more r (drop i bytes) ≡ r
crc_more-drop_all r bytes i h = ap (crc_more r) (drop_all i bytes h) ∙ crc_more-nil r

-- ---- eight bytes at a time

-- what came before, and the bytes, add up
crc_more-parts : (r : ℕ) (bytes : List ℕ) → r < 2 ^ 16 → All (λ b. b < 2 ^ 8) bytes → crc_more r bytes ≡ bit_xor (shifted (8 * length bytes) r) (crc_more 0 bytes)
unfolding crc_more
crc_more-parts r [] h k = sym (xor_zero_r r) ∙ ap (λ t. bit_xor t 0) (sym (shifted-none r))
crc_more-parts r (b ∷ bytes) h k =
    let n = 8 * length bytes in
    let c = b * 2 ^ 8 in
    let byte : b < 2 ^ 8 = All-head (λ b. b < 2 ^ 8) b bytes k in
    let small : c < 2 ^ 16 = omega arith in
    let others = All-tail (λ b. b < 2 ^ 8) b bytes k in
    let before = shifted 8 r in
    let here = shifted 8 c in
    let here-lt : here < 2 ^ 16 = shifted-lt 8 c small in
    let one : with_byte r b ≡ bit_xor before here = shifted-xor 8 r c h small in
    let alone : with_byte 0 b ≡ here = ap (shifted 8) (xor_zero_l c) in
    let steps : 8 + n ≡ 8 * suc (length bytes) = omega arith in
    crc_more-parts (with_byte r b) bytes (with_byte-lt r b h byte) others
    ∙ ap (λ t. bit_xor (shifted n t) (crc_more 0 bytes)) one
    ∙ ap (λ t. bit_xor t (crc_more 0 bytes)) (shifted-xor n before here (shifted-lt 8 r h) here-lt)
    ∙ xor_assoc (shifted n before) (shifted n here) (crc_more 0 bytes)
    ∙ ap₂ bit_xor (shifted-shifted 8 n r ∙ ap (λ m. shifted m r) steps)
    (sym (crc_more-parts here bytes here-lt others) ∙ ap (λ t. crc_more t bytes) (sym alone))

-- a sum of two bytes at the top
at_top : (n a b : ℕ) → a < 2 ^ 8 → b < 2 ^ 8 → bit_xor (shifted n (a * 2 ^ 8)) (shifted n (b * 2 ^ 8)) ≡ shifted n (bit_xor a b * 2 ^ 8)
at_top n a b h k =
    sym (shifted-xor n (a * 2 ^ 8) (b * 2 ^ 8) (omega arith) (omega arith))
    ∙ ap (shifted n) (
    ap₂ bit_xor (let e : a * 2 ^ 8 ≡ a * 2 ^ 8 + 0 = omega arith in e) (let e : b * 2 ^ 8 ≡ b * 2 ^ 8 + 0 = omega arith in e)
    ∙ xor_block 8 a b 0 0 (omega arith) (omega arith) ∙ (let e : bit_xor a b * 2 ^ 8 + 0 ≡ bit_xor a b * 2 ^ 8 = omega arith in e)
    )

-- the first of some bytes adds what it becomes
crc_more-first : (b n : ℕ) (bytes : List ℕ) → n ≡ 8 * length bytes → b < 2 ^ 8 → All (λ b. b < 2 ^ 8) bytes
    → crc_more 0 (b ∷ bytes) ≡ bit_xor (shifted (8 + n) (b * 2 ^ 8)) (crc_more 0 bytes)
crc_more-first b n bytes e h k =
    crc_more-cons 0 b bytes ∙ ap (λ t. crc_more (shifted 8 t) bytes) (xor_zero_l (b * 2 ^ 8))
    ∙ crc_more-parts (shifted 8 (b * 2 ^ 8)) bytes (shifted-lt 8 (b * 2 ^ 8) (omega arith)) k
    ∙ ap (λ t. bit_xor t (crc_more 0 bytes)) (ap (λ m. shifted m (shifted 8 (b * 2 ^ 8))) (sym e) ∙ shifted-shifted 8 n (b * 2 ^ 8))

-- the register overlaps the first two bytes
register : (m n r b c : ℕ) → m ≡ 8 + n → r < 2 ^ 16 → b < 2 ^ 8 → c < 2 ^ 8
    → bit_xor (shifted m r) (bit_xor (shifted m (b * 2 ^ 8)) (shifted n (c * 2 ^ 8)))
    ≡ bit_xor (shifted m (bit_xor (r / 2 ^ 8) b * 2 ^ 8)) (shifted n (bit_xor (r % 2 ^ 8) c * 2 ^ 8))
register m n r b c e h k l =
    let high = r / 2 ^ 8 in
    let low = r % 2 ^ 8 in
    let whole : bit_xor (high * 2 ^ 8) low ≡ r =
    ap₂ bit_xor (let e : high * 2 ^ 8 ≡ high * 2 ^ 8 + 0 = omega arith in e) (let e : low ≡ 0 * 2 ^ 8 + low = omega arith in e)
    ∙ xor_block 8 high 0 0 low (omega arith) (omega arith) ∙ ap₂ (λ t u. t * 2 ^ 8 + u) (xor_zero_r high) (xor_zero_l low)
    ∙ (let e : high * 2 ^ 8 + low ≡ r = omega arith in e) in
    let parted : shifted m r ≡ bit_xor (shifted m (high * 2 ^ 8)) (shifted n (low * 2 ^ 8)) =
    ap (shifted m) (sym whole) ∙ shifted-xor m (high * 2 ^ 8) low (omega arith) (omega arith)
    ∙ ap (bit_xor (shifted m (high * 2 ^ 8))) (ap (λ t. shifted t low) e ∙ sym (shifted-shifted 8 n low) ∙ ap (shifted n) (shifted-low 8 low (omega arith))) in
    ap (λ t. bit_xor t (bit_xor (shifted m (b * 2 ^ 8)) (shifted n (c * 2 ^ 8)))) parted
    ∙ xor_swap (shifted m (high * 2 ^ 8)) (shifted n (low * 2 ^ 8)) (shifted m (b * 2 ^ 8)) (shifted n (c * 2 ^ 8))
    ∙ ap₂ bit_xor (at_top m high b (omega arith) k) (at_top n low c (omega arith) l)

grouped : (z a b c d e f g h : ℕ) → bit_xor z (bit_xor a (bit_xor b (bit_xor c (bit_xor d (bit_xor e (bit_xor f (bit_xor g (bit_xor h 0))))))))
    ≡ bit_xor (bit_xor z (bit_xor a b)) (bit_xor (bit_xor (bit_xor c d) e) (bit_xor (bit_xor f g) h))
grouped z a b c d e f g h = simp (xor_assoc, xor_zero_r)

pub crc_more-eight : (r a b c d e f g h : ℕ) (rest : List ℕ) → r < 2 ^ 16 → a < 2 ^ 8 → b < 2 ^ 8 → c < 2 ^ 8 → d < 2 ^ 8 → e < 2 ^ 8 → f < 2 ^ 8 → g < 2 ^ 8 → h < 2 ^ 8
    → crc_more (bit_xor (bit_xor (bit_xor (bit_xor (shifted 48 (c * 2 ^ 8)) (shifted 40 (d * 2 ^ 8))) (shifted 32 (e * 2 ^ 8)))
    (bit_xor (bit_xor (shifted 24 (f * 2 ^ 8)) (shifted 16 (g * 2 ^ 8))) (shifted 8 (h * 2 ^ 8))))
    (bit_xor (shifted 64 (bit_xor (r / 2 ^ 8) a * 2 ^ 8)) (shifted 56 (bit_xor (r % 2 ^ 8) b * 2 ^ 8)))) rest
    ≡ crc_more r (a ∷ b ∷ c ∷ d ∷ e ∷ f ∷ g ∷ h ∷ rest)
crc_more-eight r a b c d e f g h rest low la lb lc ld le lf lg lh =
    let P : ℕ → Type 0 = λ b. b < 2 ^ 8 in
    let kh : All P (h ∷ []) = All-cons P h [] lh (All-nil P) in
    let kg : All P (g ∷ h ∷ []) = All-cons P g (h ∷ []) lg kh in
    let kf : All P (f ∷ g ∷ h ∷ []) = All-cons P f (g ∷ h ∷ []) lf kg in
    let ke : All P (e ∷ f ∷ g ∷ h ∷ []) = All-cons P e (f ∷ g ∷ h ∷ []) le kf in
    let kd : All P (d ∷ e ∷ f ∷ g ∷ h ∷ []) = All-cons P d (e ∷ f ∷ g ∷ h ∷ []) ld ke in
    let kc : All P (c ∷ d ∷ e ∷ f ∷ g ∷ h ∷ []) = All-cons P c (d ∷ e ∷ f ∷ g ∷ h ∷ []) lc kd in
    let kb : All P (b ∷ c ∷ d ∷ e ∷ f ∷ g ∷ h ∷ []) = All-cons P b (c ∷ d ∷ e ∷ f ∷ g ∷ h ∷ []) lb kc in
    let bytes = a ∷ b ∷ c ∷ d ∷ e ∷ f ∷ g ∷ h ∷ [] in
    let x = bit_xor in
    let s = λ (n b : ℕ). shifted n (b * 2 ^ 8) in
    let e1 : crc_more 0 (h ∷ []) ≡ x (s 8 h) 0 = crc_more-first h 0 [] refl lh (All-nil P) ∙ ap (x (s 8 h)) (crc_more-nil 0) in
    let e2 : crc_more 0 (g ∷ h ∷ []) ≡ x (s 16 g) (x (s 8 h) 0) = crc_more-first g 8 _ refl lg kh ∙ ap (x (s 16 g)) e1 in
    let e3 : crc_more 0 (f ∷ g ∷ h ∷ []) ≡ x (s 24 f) (x (s 16 g) (x (s 8 h) 0)) = crc_more-first f 16 _ refl lf kg ∙ ap (x (s 24 f)) e2 in
    let e4 : crc_more 0 (e ∷ f ∷ g ∷ h ∷ []) ≡ x (s 32 e) (x (s 24 f) (x (s 16 g) (x (s 8 h) 0))) = crc_more-first e 24 _ refl le kf ∙ ap (x (s 32 e)) e3 in
    let e5 : crc_more 0 (d ∷ e ∷ f ∷ g ∷ h ∷ []) ≡ x (s 40 d) (x (s 32 e) (x (s 24 f) (x (s 16 g) (x (s 8 h) 0)))) = crc_more-first d 32 _ refl ld ke ∙ ap (x (s 40 d)) e4 in
    let e6 : crc_more 0 (c ∷ d ∷ e ∷ f ∷ g ∷ h ∷ []) ≡ x (s 48 c) (x (s 40 d) (x (s 32 e) (x (s 24 f) (x (s 16 g) (x (s 8 h) 0))))) =
    crc_more-first c 40 _ refl lc kd ∙ ap (x (s 48 c)) e5 in
    let e7 : crc_more 0 (b ∷ c ∷ d ∷ e ∷ f ∷ g ∷ h ∷ []) ≡ x (s 56 b) (x (s 48 c) (x (s 40 d) (x (s 32 e) (x (s 24 f) (x (s 16 g) (x (s 8 h) 0)))))) =
    crc_more-first b 48 _ refl lb kc ∙ ap (x (s 56 b)) e6 in
    let e8 : crc_more 0 bytes ≡ x (s 64 a) (x (s 56 b) (x (s 48 c) (x (s 40 d) (x (s 32 e) (x (s 24 f) (x (s 16 g) (x (s 8 h) 0))))))) =
    crc_more-first a 56 _ refl la kb ∙ ap (x (s 64 a)) e7 in
    let all : crc_more r bytes ≡ x (x (shifted 64 r) (x (s 64 a) (s 56 b))) (x (x (x (s 48 c) (s 40 d)) (s 32 e)) (x (x (s 24 f) (s 16 g)) (s 8 h))) =
    crc_more-parts r bytes low (All-cons P a (b ∷ c ∷ d ∷ e ∷ f ∷ g ∷ h ∷ []) la kb) ∙ ap (x (shifted 64 r)) e8
    ∙ grouped (shifted 64 r) (s 64 a) (s 56 b) (s 48 c) (s 40 d) (s 32 e) (s 24 f) (s 16 g) (s 8 h) in
    let tail = x (x (x (s 48 c) (s 40 d)) (s 32 e)) (x (x (s 24 f) (s 16 g)) (s 8 h)) in
    ap (λ t. crc_more t rest) (xor_comm tail _ ∙ ap (λ t. x t tail) (sym (register 64 56 r a b refl low la lb)) ∙ sym all) ∙ crc_more-append r bytes rest

-- ---- four bytes at a time

grouped_four : (z a b c d : ℕ) → bit_xor z (bit_xor a (bit_xor b (bit_xor c (bit_xor d 0)))) ≡ bit_xor (bit_xor z (bit_xor a b)) (bit_xor c d)
grouped_four z a b c d = simp (xor_assoc, xor_zero_r)

pub crc_more-four : (r a b c d : ℕ) (rest : List ℕ) → r < 2 ^ 16 → a < 2 ^ 8 → b < 2 ^ 8 → c < 2 ^ 8 → d < 2 ^ 8
    → crc_more (bit_xor (bit_xor (shifted 16 (c * 2 ^ 8)) (shifted 8 (d * 2 ^ 8)))
    (bit_xor (shifted 32 (bit_xor (r / 2 ^ 8) a * 2 ^ 8)) (shifted 24 (bit_xor (r % 2 ^ 8) b * 2 ^ 8)))) rest
    ≡ crc_more r (a ∷ b ∷ c ∷ d ∷ rest)
crc_more-four r a b c d rest low la lb lc ld =
    let P : ℕ → Type 0 = λ b. b < 2 ^ 8 in
    let kd : All P (d ∷ []) = All-cons P d [] ld (All-nil P) in
    let kc : All P (c ∷ d ∷ []) = All-cons P c (d ∷ []) lc kd in
    let kb : All P (b ∷ c ∷ d ∷ []) = All-cons P b (c ∷ d ∷ []) lb kc in
    let bytes = a ∷ b ∷ c ∷ d ∷ [] in
    let x = bit_xor in
    let s = λ (n b : ℕ). shifted n (b * 2 ^ 8) in
    let e1 : crc_more 0 (d ∷ []) ≡ x (s 8 d) 0 = crc_more-first d 0 [] refl ld (All-nil P) ∙ ap (x (s 8 d)) (crc_more-nil 0) in
    let e2 : crc_more 0 (c ∷ d ∷ []) ≡ x (s 16 c) (x (s 8 d) 0) = crc_more-first c 8 _ refl lc kd ∙ ap (x (s 16 c)) e1 in
    let e3 : crc_more 0 (b ∷ c ∷ d ∷ []) ≡ x (s 24 b) (x (s 16 c) (x (s 8 d) 0)) = crc_more-first b 16 _ refl lb kc ∙ ap (x (s 24 b)) e2 in
    let e4 : crc_more 0 bytes ≡ x (s 32 a) (x (s 24 b) (x (s 16 c) (x (s 8 d) 0))) = crc_more-first a 24 _ refl la kb ∙ ap (x (s 32 a)) e3 in
    let all : crc_more r bytes ≡ x (x (shifted 32 r) (x (s 32 a) (s 24 b))) (x (s 16 c) (s 8 d)) =
    crc_more-parts r bytes low (All-cons P a (b ∷ c ∷ d ∷ []) la kb) ∙ ap (x (shifted 32 r)) e4 ∙ grouped_four (shifted 32 r) (s 32 a) (s 24 b) (s 16 c) (s 8 d) in
    let tail = x (s 16 c) (s 8 d) in
    ap (λ t. crc_more t rest) (xor_comm tail _ ∙ ap (λ t. x t tail) (sym (register 32 24 r a b refl low la lb)) ∙ sym all) ∙ crc_more-append r bytes rest

-- ---- the bytes at a place

drop_next : (bytes : List ℕ) (at k j : ℕ) → at + k + 1 ≡ at + j → at + k < length bytes → drop (at + k) bytes ≡ get_or bytes (at + k) 0 ∷ drop (at + j) bytes
drop_next bytes at k j e h = drop_more bytes (at + k) 0 h ∙ ap (λ n. get_or bytes (at + k) 0 ∷ drop n bytes) e

pub drop_eight : (bytes : List ℕ) (at : ℕ) → at + 8 ≤ length bytes → drop at bytes ≡ get_or bytes at 0 ∷ get_or bytes (at + 1) 0 ∷ get_or bytes (at + 2) 0 ∷ get_or bytes (at + 3) 0
    ∷ get_or bytes (at + 4) 0 ∷ get_or bytes (at + 5) 0 ∷ get_or bytes (at + 6) 0 ∷ get_or bytes (at + 7) 0 ∷ drop (at + 8) bytes
drop_eight bytes at h =
    let g = λ (n : ℕ). get_or bytes n 0 in
    drop_more bytes at 0 (omega arith)
    ∙ ap (λ t. g at ∷ t) (drop_next bytes at 1 2 (omega arith) (omega arith)
    ∙ ap (λ t. g (at + 1) ∷ t) (drop_next bytes at 2 3 (omega arith) (omega arith)
    ∙ ap (λ t. g (at + 2) ∷ t) (drop_next bytes at 3 4 (omega arith) (omega arith)
    ∙ ap (λ t. g (at + 3) ∷ t) (drop_next bytes at 4 5 (omega arith) (omega arith)
    ∙ ap (λ t. g (at + 4) ∷ t) (drop_next bytes at 5 6 (omega arith) (omega arith)
    ∙ ap (λ t. g (at + 5) ∷ t) (drop_next bytes at 6 7 (omega arith) (omega arith)
    ∙ ap (λ t. g (at + 6) ∷ t) (drop_next bytes at 7 8 (omega arith) (omega arith))))))))

pub drop_four : (bytes : List ℕ) (at : ℕ) → at + 4 ≤ length bytes
    → drop at bytes ≡ get_or bytes at 0 ∷ get_or bytes (at + 1) 0 ∷ get_or bytes (at + 2) 0 ∷ get_or bytes (at + 3) 0 ∷ drop (at + 4) bytes
drop_four bytes at h =
    let g = λ (n : ℕ). get_or bytes n 0 in
    drop_more bytes at 0 (omega arith)
    ∙ ap (λ t. g at ∷ t) (drop_next bytes at 1 2 (omega arith) (omega arith)
    ∙ ap (λ t. g (at + 1) ∷ t) (drop_next bytes at 2 3 (omega arith) (omega arith)
    ∙ ap (λ t. g (at + 2) ∷ t) (drop_next bytes at 3 4 (omega arith) (omega arith))))

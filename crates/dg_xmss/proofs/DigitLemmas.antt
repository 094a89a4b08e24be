-- The digits of a digest, one by one, and their checksum.
use Rattle.std.proofs.Common.{◌≡◌, ℕ, zero, suc, ◌+◌, ◌-◌, ◌*◌, ◌/◌, ◌%◌, ◌<◌, ◌≤◌, List, [], ◌∷◌, length, drop, get_or, refl, ap, sym, ◌∙◌, arith, inl, inr}
use Rattle.std.proofs.lemmas.Bool.{cases_lt}
use Rattle.std.proofs.lemmas.List.{drop_more, drop_all, take_all, get_or_append_left, get_or-append_right}
use Rattle.dg_xmss.specs.Functions.{to_byte}
use Rattle.dg_xmss.specs.Wots.{digits_of_bytes, base_w, wots_checksum, digits}

pub length-digits_of_bytes : (xs : List ℕ) → length (digits_of_bytes xs) ≡ 2 * length xs
unfolding digits_of_bytes
length-digits_of_bytes [] = refl
length-digits_of_bytes (x ∷ xs) = omega (arith, length-digits_of_bytes xs)

pub upper_digit : (xs : List ℕ) (j : ℕ) → get_or (digits_of_bytes xs) (j * 2) 0 ≡ get_or xs j 0 / 16
unfolding digits_of_bytes
upper_digit [] j = refl
upper_digit (x ∷ xs) zero = refl
upper_digit (x ∷ xs) (suc j) =
    ap (λ (i : ℕ). get_or (digits_of_bytes (x ∷ xs)) i 0) (let e : suc j * 2 ≡ suc (suc (j * 2)) = omega arith in e) ∙ upper_digit xs j

pub lower_digit : (xs : List ℕ) (j : ℕ) → get_or (digits_of_bytes xs) (j * 2 + 1) 0 ≡ get_or xs j 0 % 16
unfolding digits_of_bytes
lower_digit [] j = refl
lower_digit (x ∷ xs) zero = refl
lower_digit (x ∷ xs) (suc j) =
    ap (λ (i : ℕ). get_or (digits_of_bytes (x ∷ xs)) i 0) (let e : suc j * 2 + 1 ≡ suc (suc (j * 2 + 1)) = omega arith in e) ∙ lower_digit xs j

pub digit_of_bytes : (xs : List ℕ) (i r : ℕ) → (i % 2 ≡ 0 → r ≡ get_or xs (i / 2) 0 / 16) → (i % 2 ≡ 1 → r ≡ get_or xs (i / 2) 0 % 16)
    → r ≡ get_or (digits_of_bytes xs) i 0
digit_of_bytes xs i r up low =
    elim (cases_lt 0 (i % 2)) [
      | inl h ↦
          let odd : i % 2 ≡ 1 = omega arith in
          let is : i / 2 * 2 + 1 ≡ i = omega arith in
          low odd ∙ sym (lower_digit xs (i / 2)) ∙ ap (λ (k : ℕ). get_or (digits_of_bytes xs) k 0) is
      | inr h ↦
          let even : i % 2 ≡ 0 = omega arith in
          let is : i / 2 * 2 ≡ i = omega arith in
          up even ∙ sym (upper_digit xs (i / 2)) ∙ ap (λ (k : ℕ). get_or (digits_of_bytes xs) k 0) is
    ]

base_w_all : (xs : List ℕ) → length xs ≡ 32 → base_w xs 64 ≡ digits_of_bytes xs
unfolding base_w
base_w_all xs e = take_all 64 (digits_of_bytes xs) (omega (arith, length-digits_of_bytes xs, e))

length-base_w : (xs : List ℕ) → length xs ≡ 32 → length (base_w xs 64) ≡ 64
length-base_w xs e = ap length (base_w_all xs e) ∙ omega (arith, length-digits_of_bytes xs, e)

-- digit i of a message, below 64
pub message_digit : (xs : List ℕ) (i r : ℕ) → length xs ≡ 32 → i < 64 → (i % 2 ≡ 0 → r ≡ get_or xs (i / 2) 0 / 16) → (i % 2 ≡ 1 → r ≡ get_or xs (i / 2) 0 % 16)
    → r ≡ get_or (digits xs) i 0
unfolding digits
message_digit xs i r e h up low =
    let within : i < length (base_w xs 64) = omega (arith, length-base_w xs e) in
    digit_of_bytes xs i r up low
    ∙ ap (λ (ds : List ℕ). get_or ds i 0) (sym (base_w_all xs e))
    ∙ sym (get_or_append_left (base_w xs 64) (base_w (to_byte (wots_checksum (base_w xs 64) * 16) 2) 3) 0 i within)

csum_at : (c r j : ℕ) → c ≤ 960 → j < 3 → (j ≡ 0 → r ≡ c / 256) → (j ≡ 1 → r ≡ c / 16 % 16) → (1 < j → r ≡ c % 16)
    → r ≡ get_or (base_w (to_byte (c * 16) 2) 3) j 0
unfolding base_w digits_of_bytes to_byte
csum_at c r zero most h f s t = f refl ∙ (let e : c / 256 ≡ c * 16 / 256 % 256 / 16 = omega arith in e)
csum_at c r (suc zero) most h f s t = s refl ∙ (let e : c / 16 % 16 ≡ c * 16 / 256 % 256 % 16 = omega arith in e)
csum_at c r (suc (suc zero)) most h f s t = t (omega arith) ∙ (let e : c % 16 ≡ c * 16 % 256 / 16 = omega arith in e)
csum_at c r (suc (suc (suc j))) most h f s t = absurd (omega arith)

-- and from 64 on
pub checksum_digit : (xs : List ℕ) (c i r : ℕ) → length xs ≡ 32 → 64 ≤ i → i < 67 → c ≡ wots_checksum (base_w xs 64) → c ≤ 960
    → (i - 64 ≡ 0 → r ≡ c / 256) → (i - 64 ≡ 1 → r ≡ c / 16 % 16) → (1 < i - 64 → r ≡ c % 16) → r ≡ get_or (digits xs) i 0
unfolding digits
checksum_digit xs c i r e low high is most f s t =
    csum_at c r (i - 64) most (omega arith) f s t
    ∙ ap (λ (n : ℕ). get_or (base_w (to_byte (n * 16) 2) 3) (i - 64) 0) is
    ∙ sym (get_or-append_right (base_w xs 64) (base_w (to_byte (wots_checksum (base_w xs 64) * 16) 2) 3) 64 i 0 (length-base_w xs e) low)

-- ---- the checksum

first_digits : (x : ℕ) (xs : List ℕ) → wots_checksum (digits_of_bytes (x ∷ xs)) ≡ (15 - x / 16) + ((15 - x % 16) + wots_checksum (digits_of_bytes xs))
unfolding wots_checksum digits_of_bytes
first_digits x xs = refl

lacking_joined : (s l t a b rest all : ℕ) → l ≡ a + b → all ≡ a + (b + rest) → s + all ≡ t → (s + l) + rest ≡ t
lacking_joined s l t a b rest all e f g = omega arith

pub lacking_more : (xs : List ℕ) (i s l t : ℕ) → i < length xs → l ≡ (15 - get_or xs i 0 / 16) + (15 - get_or xs i 0 % 16)
    → s + wots_checksum (digits_of_bytes (drop i xs)) ≡ t → (s + l) + wots_checksum (digits_of_bytes (drop (i + 1) xs)) ≡ t
lacking_more xs i s l t h e sum =
    let x : ℕ = get_or xs i 0 in
    let rest : ℕ = wots_checksum (digits_of_bytes (drop (i + 1) xs)) in
    let one : wots_checksum (digits_of_bytes (x ∷ drop (i + 1) xs)) ≡ (15 - x / 16) + ((15 - x % 16) + rest) = first_digits x (drop (i + 1) xs) in
    let more : wots_checksum (digits_of_bytes (drop i xs)) ≡ (15 - x / 16) + ((15 - x % 16) + rest) =
    ap (λ (ys : List ℕ). wots_checksum (digits_of_bytes ys)) (drop_more xs i 0 h) ∙ one in
    lacking_joined s l t (15 - x / 16) (15 - x % 16) rest (wots_checksum (digits_of_bytes (drop i xs))) e more sum

pub lacking_none : (xs : List ℕ) → 0 + wots_checksum (digits_of_bytes (drop 0 xs)) ≡ wots_checksum (digits_of_bytes xs)
lacking_none xs = omega arith

pub lacking_all : (xs : List ℕ) (s i : ℕ) → length xs ≡ 32 → i ≡ 32 → s + wots_checksum (digits_of_bytes (drop i xs)) ≡ wots_checksum (digits_of_bytes xs)
    → s ≡ wots_checksum (base_w xs 64)
unfolding wots_checksum digits_of_bytes
lacking_all xs s i e f sum =
    let none : wots_checksum (digits_of_bytes (drop i xs)) ≡ 0 = ap (λ (ys : List ℕ). wots_checksum (digits_of_bytes ys)) (drop_all i xs (omega (arith, e, f))) in
    let all : wots_checksum (base_w xs 64) ≡ wots_checksum (digits_of_bytes xs) = ap wots_checksum (base_w_all xs e) in
    omega arith

-- Reading a number digit by digit.
use Rattle.std.proofs.Common.{◌≡◌, ℕ, ◌+◌, ◌-◌, ◌*◌, ◌^◌, ◌<◌, ◌≤◌, ◌==◌, ◌&&◌, ◌||◌, not, nat_lt, Bool, true, false, List, [], ◌∷◌, length, get_or, drop, Option, Some, None, if◌then◌else◌, decimal, refl, sym, ap, ◌∙◌, arith, inl, inr}
use Rattle.std.proofs.lemmas.Bool.{cases_Bool, cases_lt, lt-ltb, le-ltb, ltb-true, and_parts, and_from, and_right, or_left, or_right, or_from, or_cases, not_from_false, not-true, cases_eq, eq-eqb, eqb-true, eqb-false, ne_eqb}
use Rattle.std.proofs.lemmas.Bool.Decides.{nat_tests}
use Rattle.std.proofs.lemmas.List.{drop_more}
use Rattle.std.proofs.lemmas.Fmt.{decimal-digits_value, digits_decimal, digits_value-decimal, decimal_nonempty, first_decimal, length-decimal-le}
use Rattle.std.proofs.lemmas.Str.Parse.{IsNumeralModel, numerals_by_value, tells_all_ascii_digits}
use Rattle.std.specs.Char.{is_ascii_digit, digit_value}
use Rattle.std.specs.Str.{all_ascii_digits}
use Rattle.std.specs.Str.Parse.{digits_value, digits_value_after}
use Rattle.dg_base.specs.Numbers.{is_numeral, number_of, with_digit}

-- the number so far, with one more digit
abbrev pub one_more : Option ℕ → ℕ → Option ℕ
one_more None c = None
one_more (Some n) c = with_digit n c

-- the number so far, with the digits after it
abbrev pub read_on : List ℕ → Option ℕ → Option ℕ
read_on [] o = o
read_on (c ∷ cs) o = read_on cs (one_more o c)

pub read_on-none : (cs : List ℕ) → read_on cs None ≡ None
read_on-none [] = refl
read_on-none (c ∷ cs) = read_on-none cs

-- the value of n and the digits after it, if it is below 2 ^ 32
abbrev value_on : ℕ → List ℕ → Option ℕ
value_on n cs = if all_ascii_digits cs && nat_lt (digits_value_after 10 n cs) (2 ^ 32) then Some (digits_value_after 10 n cs) else None

digit_is : (c : ℕ) → is_ascii_digit c ≡ true → digit_value c ≡ c - 48
digit_is c h = grind (arith, nat_tests)

grows : (n : ℕ) (cs : List ℕ) → n ≤ digits_value_after 10 n cs
grows n [] = omega arith
grows n (c ∷ cs) = let h = grows (n * 10 + digit_value c) cs in omega (arith, h)

value_on-too_large : (n : ℕ) (cs : List ℕ) → 2 ^ 32 ≤ n → value_on n cs ≡ None
value_on-too_large n cs h =
    let g = grows n cs in
    let over : nat_lt (digits_value_after 10 n cs) (2 ^ 32) ≡ false = le-ltb _ _ (omega (arith, g)) in
    elim (cases_Bool (all_ascii_digits cs)) [ inl digit ↦ rw (digit, over) refl | inr other ↦ rw other refl ]

read_on-value : (n : ℕ) (cs : List ℕ) → n < 2 ^ 32 → read_on cs (Some n) ≡ value_on n cs
read_on-value n [] h = let small : nat_lt n (2 ^ 32) ≡ true = lt-ltb n (2 ^ 32) h in rw small refl
read_on-value n (c ∷ cs) h =
    elim (cases_Bool (is_ascii_digit c)) [
      | inr other ↦ rw other (read_on-none cs)
      | inl digit ↦
          let same : digit_value c ≡ c - 48 = digit_is c digit in
          elim (cases_lt (n * 10 + (c - 48)) (2 ^ 32)) [
            | inl small ↦
                let test : nat_lt (n * 10 + (c - 48)) (2 ^ 32) ≡ true = lt-ltb _ _ small in
                rw (digit, test, same) (read_on-value (n * 10 + (c - 48)) cs small)
            | inr large ↦
                let test : nat_lt (n * 10 + (c - 48)) (2 ^ 32) ≡ false = le-ltb _ _ large in
                rw (digit, test, same) (read_on-none cs ∙ sym (value_on-too_large (n * 10 + (c - 48)) cs large))
          ]
    ]

and_true : (a b : Bool) → b ≡ true → (a && b) ≡ a
and_true true b e = e
and_true false b e = refl

-- what a test and a bound choose
chosen : (t : Bool) (v n : ℕ) → t ≡ true → v ≡ n → n < 2 ^ 32 → (if t && nat_lt v (2 ^ 32) then Some v else None) ≡ Some n
chosen t v n e same small = let lt : nat_lt n (2 ^ 32) ≡ true = lt-ltb n (2 ^ 32) small in rw (e, same, lt) refl

parts : (t b : Bool) (v n : ℕ) → (if t && b then Some v else None) ≡ Some n → (t ≡ true) × (b ≡ true) × (v ≡ n)
parts true true v n h = (refl, refl, cc)
parts true false v n h = cc
parts false b v n h = cc

-- digits that do not begin with `0` are read from the left
pub number_of-read_on : (c : ℕ) (cs : List ℕ) → (c ≡ 48 → ⊥) → read_on (c ∷ cs) (Some 0) ≡ number_of (c ∷ cs)
unfolding number_of
number_of-read_on c cs h =
    let numeral : is_numeral (c ∷ cs) ≡ all_ascii_digits (c ∷ cs) =
    and_true (all_ascii_digits (c ∷ cs) && nat_lt 0 (length (c ∷ cs))) _ (or_right (length (c ∷ cs) == 1) _ (not_from_false (c == 48) (ne_eqb c 48 h)))
    ∙ and_true (all_ascii_digits (c ∷ cs)) _ (lt-ltb 0 (length (c ∷ cs)) (omega arith)) in
    read_on-value 0 (c ∷ cs) (omega arith)
    ∙ ap (λ t. if t && nat_lt (digits_value 10 (c ∷ cs)) (2 ^ 32) then Some (digits_value 10 (c ∷ cs)) else None) (sym numeral)

pub number_of-zero : number_of (48 ∷ []) ≡ Some 0
unfolding number_of
number_of-zero = refl

pub number_of-leading_zero : (c : ℕ) (cs : List ℕ) → number_of (48 ∷ c ∷ cs) ≡ None
unfolding number_of
number_of-leading_zero c cs =
    let bytes = 48 ∷ c ∷ cs in
    let numeral : is_numeral bytes ≡ false =
    and_right (all_ascii_digits bytes && nat_lt 0 (length bytes)) _ (or_from (length bytes == 1) _ (ne_eqb (length bytes) 1 (λ e. omega arith)) refl) in
    ap (λ t. if t && nat_lt (digits_value 10 bytes) (2 ^ 32) then Some (digits_value 10 bytes) else None) numeral

pub number_of-nil : number_of [] ≡ None
unfolding number_of
number_of-nil = refl

-- the same of any bytes, by their length and their first byte
pub number_of-empty : (bytes : List ℕ) → length bytes ≡ 0 → None ≡ number_of bytes
number_of-empty [] h = sym number_of-nil
number_of-empty (c ∷ cs) h = absurd (omega arith)

pub number_of-one_zero : (bytes : List ℕ) → length bytes ≡ 1 → get_or bytes 0 0 ≡ 48 → Some 0 ≡ number_of bytes
number_of-one_zero [] h e = absurd (omega arith)
number_of-one_zero (c ∷ []) h e = sym (ap (λ b. number_of (b ∷ [])) e ∙ number_of-zero)
number_of-one_zero (c ∷ d ∷ cs) h e = absurd (omega arith)

pub number_of-zeros : (bytes : List ℕ) → (length bytes ≡ 0 → ⊥) → (length bytes ≡ 1 → ⊥) → get_or bytes 0 0 ≡ 48 → None ≡ number_of bytes
number_of-zeros [] some more e = absurd (some refl)
number_of-zeros (c ∷ []) some more e = absurd (more refl)
number_of-zeros (c ∷ d ∷ cs) some more e = sym (ap (λ b. number_of (b ∷ d ∷ cs)) e ∙ number_of-leading_zero d cs)

pub number_of-digits : (bytes : List ℕ) → (length bytes ≡ 0 → ⊥) → (get_or bytes 0 0 ≡ 48 → ⊥) → read_on bytes (Some 0) ≡ number_of bytes
number_of-digits [] some other = absurd (some refl)
number_of-digits (c ∷ cs) some other = number_of-read_on c cs other

-- reading stops at a byte that does not continue the number
pub read_on-stops : (bytes : List ℕ) (i n : ℕ) → i < length bytes → with_digit n (get_or bytes i 0) ≡ None → read_on (drop i bytes) (Some n) ≡ None
read_on-stops bytes i n more h =
    ap (λ cs. read_on cs (Some n)) (drop_more bytes i 0 more) ∙ ap (read_on (drop (i + 1) bytes)) h ∙ read_on-none (drop (i + 1) bytes)

-- the digits of std, by a test
own : IsNumeralModel (λ ds. all_ascii_digits ds ≡ true) (digits_value 10)
own = numerals_by_value _ tells_all_ascii_digits

leads : (n : ℕ) → n < 2 ^ 32 → (length (decimal n) == 1 || not (get_or (decimal n) 0 0 == 48)) ≡ true
leads n h =
    let some = decimal_nonempty n (omega arith) in
    elim (cases_eq n 0) [
      | inl none ↦
          let short = length-decimal-le 1 n (omega arith) (omega arith) (omega arith) in
          or_left _ _ (eq-eqb (length (decimal n)) 1 (omega (arith, some, short)))
      | inr more ↦
          let first = first_decimal n (omega arith) (omega arith) in
          or_right (length (decimal n) == 1) _ (not_from_false _ (ne_eqb (get_or (decimal n) 0 0) 48 (λ e. omega (arith, first))))
    ]

pub number_of-decimal : (n : ℕ) → n < 2 ^ 32 → number_of (decimal n) ≡ Some n
unfolding number_of
number_of-decimal n h =
    let numeral : is_numeral (decimal n) ≡ true =
    and_from _ _ (and_from _ _ (digits_decimal own n (omega arith)) (lt-ltb 0 _ (decimal_nonempty n (omega arith)))) (leads n h) in
    chosen (is_numeral (decimal n)) (digits_value 10 (decimal n)) n numeral (digits_value-decimal own n (omega arith)) h

pub decimal-number_of : (bytes : List ℕ) (n : ℕ) → number_of bytes ≡ Some n → (bytes ≡ decimal n) × (n < 2 ^ 32)
unfolding number_of
decimal-number_of bytes n h =
    let found = parts (is_numeral bytes) (nat_lt (digits_value 10 bytes) (2 ^ 32)) (digits_value 10 bytes) n h in
    let small = ltb-true _ _ found.1 in
    let outer = and_parts (all_ascii_digits bytes && nat_lt 0 (length bytes)) _ found.0 in
    let inner = and_parts (all_ascii_digits bytes) _ outer.0 in
    let some = ltb-true _ _ inner.1 in
    let one : get_or bytes 0 0 ≡ 48 → length bytes ≡ 1 = λ zero. elim (or_cases (length bytes == 1) _ outer.1) [
      | inl short ↦ eqb-true _ _ short
      | inr other ↦ absurd (eqb-false _ _ (not-true _ other) zero)
    ] in
    let text : decimal (digits_value 10 bytes) ≡ bytes = decimal-digits_value own bytes inner.0 some one (omega (arith, small)) in
    (sym text ∙ ap decimal found.2, omega (arith, small, found.2))

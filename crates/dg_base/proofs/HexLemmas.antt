-- Bytes and their hex digits.
use Rattle.std.proofs.Common.{◌≡◌, ℕ, suc, ◌+◌, ◌*◌, ◌/◌, ◌%◌, ◌<◌, ◌≤◌, ◌==◌, ◌&&◌, ◌||◌, nat_le, ◌⊎◌, Bool, true, false, List, [], ◌∷◌, ◌++◌, length, get_or, set, take, drop, append_assoc, Option, Some, None, unwrap_or, is_some, All, Any, refl, sym, ap, ◌∙◌, subst, arith, inl, inr}
use Rattle.std.proofs.lemmas.Bool.{agree_below_at, eqb-true}
use Rattle.std.proofs.lemmas.Bool.Decides.{nat_tests}
use Rattle.std.proofs.lemmas.List.{append-nil, drop_all, drop_more, get_or_default, length-set, take_all, take_more, take_more_set}
use Rattle.std.proofs.lemmas.List.Elements.{All-nil, All-cons, All-head, All-tail}
use Rattle.std.specs.Bool.{OnTrue, OnFalse}
use Rattle.dg_base.specs.declared.hexadecimal.TheConstants.{DIGITS}
use Rattle.dg_base.specs.Hexadecimal.{hex_bytes, hex_digit, hex_text, hex_value, is_hex_digit, onto_bytes}
use Rattle.dg_base.specs.Outside.{ahead_of}

-- the table of digits
pub digit_at : (v : ℕ) → v < 16 → get_or DIGITS v 0 ≡ hex_digit v
digit_at v h = eqb-true _ _ (agree_below_at (λ v. get_or DIGITS v 0 == hex_digit v) (λ _. true) 16 v refl h)

-- what a value says of an option
known : (o : Option ℕ) (v : ℕ) → v ≡ unwrap_or o 255 → v < 16 → o ≡ Some v
known (Some w) v e h = ap Some (sym e)
known None v e h = absurd (omega arith)

valued : (o : Option ℕ) (v : ℕ) → is_some o ≡ true → ((w : ℕ) → o ≡ Some w → v ≡ w) → o ≡ Some v
valued (Some w) v is read = ap Some (sym (read w refl))
valued None v is read = cc

pub hex_value-small : (c v : ℕ) → hex_value c ≡ Some v → v < 16
hex_value-small c v h = grind (arith, nat_tests)

-- which bytes are digits, by their ranges
pub is_digit-by_ranges : (c : ℕ) → c < 256 → (((nat_le 48 c && nat_le c 57) || (nat_le 65 c && nat_le c 70)) || (nat_le 97 c && nat_le c 102)) ≡ is_hex_digit c
is_digit-by_ranges c small = agree_below_at (λ c. ((nat_le 48 c && nat_le c 57) || (nat_le 65 c && nat_le c 70)) || (nat_le 97 c && nat_le c 102)) is_hex_digit 256 c refl small

-- the value of a digit, by arithmetic
pub hex_value-by_bits : (c v : ℕ) → c < 256 → hex_value c ≡ Some v → (c % 16 + 9 * (c / 64)) % 16 ≡ v
hex_value-by_bits c v small h =
    let e : unwrap_or (hex_value c) ((c % 16 + 9 * (c / 64)) % 16) ≡ (c % 16 + 9 * (c / 64)) % 16 =
    eqb-true _ _ (agree_below_at (λ c. unwrap_or (hex_value c) ((c % 16 + 9 * (c / 64)) % 16) == (c % 16 + 9 * (c / 64)) % 16) (λ _. true) 256 c refl small) in
    sym e ∙ ap (λ o. unwrap_or o ((c % 16 + 9 * (c / 64)) % 16)) h

-- a digit has the value that it is read as
pub hex_value-read : (c v : ℕ) → is_hex_digit c ≡ true → ((w : ℕ) → hex_value c ≡ Some w → v ≡ w) → hex_value c ≡ Some v
hex_value-read c v is read = valued (hex_value c) v is read

-- a byte that is not a digit is one of the bytes
refused_at : (digits : List ℕ) (k : ℕ) → k < length digits → is_hex_digit (get_or digits k 0) ≡ false → Any (λ c. is_hex_digit c ≡ false) digits
refused_at digits k within h = (k, get_or digits k 0, within, get_or_default digits k _ 0 within, h)

pub hex_value-hex_digit : (v : ℕ) → v < 16 → hex_value (hex_digit v) ≡ Some v
hex_value-hex_digit v h = known (hex_value (hex_digit v)) v (sym (eqb-true _ _ (agree_below_at (λ v. unwrap_or (hex_value (hex_digit v)) 255 == v) (λ _. true) 16 v refl h))) h

-- two more digits
onto_more : (xs : List ℕ) (high low : ℕ) (o : Option (List ℕ)) → ahead_of xs (onto_bytes (Some high) (Some low) o) ≡ ahead_of (xs ++ (high * 16 + low) ∷ []) o
onto_more xs high low (Some bytes) = ap Some (sym (append_assoc xs ((high * 16 + low) ∷ []) bytes))
onto_more xs high low None = refl

pub ahead_of-nil : (o : Option (List ℕ)) → ahead_of [] o ≡ o
ahead_of-nil (Some bytes) = refl
ahead_of-nil None = refl

pub hex_bytes-more : (xs digits : List ℕ) (c d high low : ℕ) → hex_value c ≡ Some high → hex_value d ≡ Some low
    → ahead_of xs (hex_bytes (c ∷ d ∷ digits)) ≡ ahead_of (xs ++ (high * 16 + low) ∷ []) (hex_bytes digits)
unfolding hex_bytes
hex_bytes-more xs digits c d high low p q = rw (p, q) (onto_more xs high low (hex_bytes digits))

pub hex_bytes-nil : hex_bytes [] ≡ Some []
unfolding hex_bytes
hex_bytes-nil = refl

-- the bytes so far, with those of one more pair
read_more : (digits into : List ℕ) (at high low : ℕ) → 2 * at + 1 < length digits → at < length into
    → hex_value (get_or digits (2 * at) 0) ≡ Some high → hex_value (get_or digits (2 * at + 1) 0) ≡ Some low
    → ahead_of (take at into) (hex_bytes (drop (2 * at) digits)) ≡ hex_bytes digits
    → ahead_of (take (at + 1) (set into at (high * 16 + low))) (hex_bytes (drop (2 * (at + 1)) digits)) ≡ hex_bytes digits
read_more digits into at high low more room first second h =
    let rest = drop (2 * (at + 1)) digits in
    let two : 2 * at + 1 + 1 ≡ 2 * (at + 1) = omega arith in
    let pair : drop (2 * at) digits ≡ get_or digits (2 * at) 0 ∷ get_or digits (2 * at + 1) 0 ∷ rest =
    drop_more digits (2 * at) 0 (omega arith) ∙ ap (λ t. get_or digits (2 * at) 0 ∷ t) (drop_more digits (2 * at + 1) 0 more)
    ∙ ap (λ n. get_or digits (2 * at) 0 ∷ get_or digits (2 * at + 1) 0 ∷ drop n digits) two in
    ap (λ t. ahead_of t (hex_bytes rest)) (take_more_set into at (high * 16 + low) room)
    ∙ sym (hex_bytes-more (take at into) rest _ _ high low first second)
    ∙ ap (λ t. ahead_of (take at into) (hex_bytes t)) (sym pair) ∙ h

-- The bytes so far, and those of the digits after them, are those of all digits; or a byte that is not a digit was seen.
abbrev pub ReadTo : (digits into : List ℕ) → (at : ℕ) → (all : Bool) → Type 0
ReadTo digits into at all =
    OnTrue all (ahead_of (take at into) (hex_bytes (drop (2 * at) digits)) ≡ hex_bytes digits) × OnFalse all (Any (λ c. is_hex_digit c ≡ false) digits)

pub read_on : (digits into : List ℕ) (at high low : ℕ) (all first second : Bool) → 2 * at + 1 < length digits → at < length into
    → first ≡ is_hex_digit (get_or digits (2 * at) 0) → ((v : ℕ) → hex_value (get_or digits (2 * at) 0) ≡ Some v → high ≡ v)
    → second ≡ is_hex_digit (get_or digits (2 * at + 1) 0) → ((v : ℕ) → hex_value (get_or digits (2 * at + 1) 0) ≡ Some v → low ≡ v)
    → ReadTo digits into at all → ReadTo digits (set into at (high * 16 + low)) (at + 1) (all && (first && second))
read_on digits into at high low false first second more room p ph q ql h = (tt, h.1)
read_on digits into at high low true false second more room p ph q ql h = (tt, refused_at digits (2 * at) (omega arith) (sym p))
read_on digits into at high low true true false more room p ph q ql h = (tt, refused_at digits (2 * at + 1) more (sym q))
read_on digits into at high low true true true more room p ph q ql h =
    let first = hex_value-read (get_or digits (2 * at) 0) high (sym p) ph in
    let second = hex_value-read (get_or digits (2 * at + 1) 0) low (sym q) ql in
    (read_more digits into at high low more room first second h.0, tt)

-- all the bytes
read_whole : (digits into : List ℕ) (at : ℕ) → length into ≤ at → length digits ≡ 2 * length into
    → ahead_of (take at into) (hex_bytes (drop (2 * at) digits)) ≡ hex_bytes digits → hex_bytes digits ≡ Some into
read_whole digits into at done even h =
    sym h ∙ ap (λ t. ahead_of (take at into) (hex_bytes t)) (drop_all (2 * at) digits (omega arith)) ∙ ap (ahead_of (take at into)) hex_bytes-nil
    ∙ ap Some (append-nil (take at into) ∙ take_all at into done)

pub read_all : (digits into : List ℕ) (at : ℕ) (all : Bool) → length into ≤ at → length digits ≡ 2 * length into → ReadTo digits into at all
    → OnTrue all (hex_bytes digits ≡ Some into)
read_all digits into at false done even h = tt
read_all digits into at true done even h = read_whole digits into at done even h.0

pub length-hex_text : (bytes : List ℕ) → length (hex_text bytes) ≡ 2 * length bytes
unfolding hex_text
length-hex_text [] = refl
length-hex_text (b ∷ bytes) = let h = length-hex_text bytes in omega (arith, h)

pub hex_text-append : (xs ys : List ℕ) → hex_text (xs ++ ys) ≡ hex_text xs ++ hex_text ys
unfolding hex_text
hex_text-append [] ys = refl
hex_text-append (x ∷ xs) ys = ap (λ t. hex_digit (x / 16) ∷ hex_digit (x % 16) ∷ t) (hex_text-append xs ys)

pub hex_text-one : (b : ℕ) → hex_text (b ∷ []) ≡ hex_digit (b / 16) ∷ hex_digit (b % 16) ∷ []
unfolding hex_text
hex_text-one b = refl

pub hex_text-nil : hex_text [] ≡ []
unfolding hex_text
hex_text-nil = refl

-- the digits so far, with those of one more byte
pub write_more : (bytes into : List ℕ) (at : ℕ) → at < length bytes → length into ≡ 2 * length bytes → take (2 * at) into ≡ hex_text (take at bytes)
    → take (2 * (at + 1)) (set (set into (2 * at) (hex_digit (get_or bytes at 0 / 16))) (2 * at + 1) (hex_digit (get_or bytes at 0 % 16))) ≡ hex_text (take (at + 1) bytes)
write_more bytes into at more even h =
    let b = get_or bytes at 0 in
    let x = hex_digit (b / 16) in
    let y = hex_digit (b % 16) in
    let one = set into (2 * at) x in
    let len = length-set into (2 * at) x in
    let two : 2 * (at + 1) ≡ 2 * at + 1 + 1 = omega arith in
    ap (λ n. take n (set one (2 * at + 1) y)) two ∙ take_more_set one (2 * at + 1) y (omega (arith, len))
    ∙ ap (λ t. t ++ y ∷ []) (take_more_set into (2 * at) x (omega arith) ∙ ap (λ t. t ++ x ∷ []) h)
    ∙ append_assoc (hex_text (take at bytes)) (x ∷ []) (y ∷ []) ∙ ap (λ t. hex_text (take at bytes) ++ t) (sym (hex_text-one b))
    ∙ sym (hex_text-append (take at bytes) (b ∷ [])) ∙ ap hex_text (sym (take_more bytes at 0 more))

onto_bytes-some : (o p : Option ℕ) (r : Option (List ℕ)) (high low : ℕ) (bytes : List ℕ) → o ≡ Some high → p ≡ Some low → r ≡ Some bytes
    → onto_bytes o p r ≡ Some ((high * 16 + low) ∷ bytes)
onto_bytes-some o p r high low bytes a b c = rw (a, b, c) refl

-- The digits of bytes encode those bytes.
pub hex_bytes-hex_text : (bytes : List ℕ) → All (λ b. b < 256) bytes → hex_bytes (hex_text bytes) ≡ Some bytes
unfolding hex_bytes hex_text
hex_bytes-hex_text [] h = refl
hex_bytes-hex_text (b ∷ bytes) h =
    let small : b < 256 = All-head (λ b. b < 256) b bytes h in
    let whole : b / 16 * 16 + b % 16 ≡ b = omega arith in
    onto_bytes-some _ _ _ (b / 16) (b % 16) bytes (hex_value-hex_digit (b / 16) (omega arith)) (hex_value-hex_digit (b % 16) (omega arith))
    (hex_bytes-hex_text bytes (All-tail (λ b. b < 256) b bytes h))
    ∙ ap (λ v. Some (v ∷ bytes)) whole

-- two digits and the bytes of those after them, if they encode bytes
record Pair (o p : Option ℕ) (r : Option (List ℕ)) (bytes : List ℕ) : Type 0 where
  high : ℕ
  low : ℕ
  rest : List ℕ
  first : o ≡ Some high
  second : p ≡ Some low
  others : r ≡ Some rest
  whole : (high * 16 + low) ∷ rest ≡ bytes

pair_of : (o p : Option ℕ) (r : Option (List ℕ)) (bytes : List ℕ) → onto_bytes o p r ≡ Some bytes → Pair o p r bytes
pair_of (Some high) (Some low) (Some rest) bytes h = record { high = high; low = low; rest = rest; first = refl; second = refl; others = refl; whole = cc }
pair_of (Some high) (Some low) None bytes h = cc
pair_of (Some high) None r bytes h = cc
pair_of None p r bytes h = cc

onto_bytes-none : (o p : Option ℕ) (r : Option (List ℕ)) → onto_bytes o p r ≡ None → (is_some o ≡ false) ⊎ ((is_some p ≡ false) ⊎ (r ≡ None))
onto_bytes-none (Some high) (Some low) (Some rest) h = cc
onto_bytes-none (Some high) (Some low) None h = inr (inr refl)
onto_bytes-none (Some high) None r h = inr (inl refl)
onto_bytes-none None p r h = inl refl

-- If digits encode bytes, there are two for each byte, and each is a digit.
pub hex_bytes-some : (text bytes : List ℕ) → hex_bytes text ≡ Some bytes
    → (length text ≡ 2 * length bytes) × All (λ c. is_hex_digit c ≡ true) text × All (λ b. b < 256) bytes
unfolding hex_bytes
hex_bytes-some [] bytes h =
    let e : [] ≡ bytes = cc in
    let P : List ℕ → Type 0 = λ bs. (0 ≡ 2 * length bs) × All (λ c. is_hex_digit c ≡ true) [] × All (λ b. b < 256) bs in
    subst P e (refl, All-nil (λ c. is_hex_digit c ≡ true), All-nil (λ b. b < 256))
hex_bytes-some (c ∷ []) bytes h = cc
hex_bytes-some (c ∷ d ∷ text) bytes h =
    let p = pair_of (hex_value c) (hex_value d) (hex_bytes text) bytes h in
    let ih = hex_bytes-some text p.rest p.others in
    let high = hex_value-small c p.high p.first in
    let low = hex_value-small d p.low p.second in
    let P : List ℕ → Type 0 = λ bs. (length (c ∷ d ∷ text) ≡ 2 * length bs) × All (λ c. is_hex_digit c ≡ true) (c ∷ d ∷ text) × All (λ b. b < 256) bs in
    subst P p.whole (
      omega (arith, ih.0),
      All-cons (λ c. is_hex_digit c ≡ true) c (d ∷ text) (ap is_some p.first) (All-cons (λ c. is_hex_digit c ≡ true) d text (ap is_some p.second) ih.1),
      All-cons (λ b. b < 256) (p.high * 16 + p.low) p.rest (omega (arith, high, low)) ih.2,
    )

-- If they encode no bytes, their number is odd, or one is not a digit.
pub hex_bytes-none : (text : List ℕ) → hex_bytes text ≡ None → (length text % 2 ≡ 1) ⊎ Any (λ c. is_hex_digit c ≡ false) text
unfolding hex_bytes
hex_bytes-none [] h = cc
hex_bytes-none (c ∷ []) h = inl refl
hex_bytes-none (c ∷ d ∷ text) h =
    elim (onto_bytes-none (hex_value c) (hex_value d) (hex_bytes text) h) [
      | inl first ↦ inr (0, c, omega arith, refl, first)
      | inr (inl second) ↦ inr (1, d, omega arith, refl, second)
      | inr (inr none) ↦ elim (hex_bytes-none text none) [
        | inl odd ↦ inl (omega arith)
        | inr (k, x, within, at, bad) ↦ inr (suc (suc k), x, omega arith, at, bad)
      ]
    ]

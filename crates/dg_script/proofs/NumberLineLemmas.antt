-- Numbers that are parsed in place are those of the words of their text.
use Rattle.std.proofs.Common.{◌≡◌, ◌≢◌, ℕ, zero, suc, ◌+◌, ◌-◌, ◌*◌, ◌%◌, ◌++◌, ◌<◌, ◌≤◌, ◌^◌, ◌==◌, ◌&&◌, ◌||◌, not, nat_lt, Bool, true, false, List, [], ◌∷◌, length, drop, take, get_or, map, codes, Option, Some, None, Result, Ok, Err, is_err, IfSome, if◌then◌else◌, refl, ap, sym, ◌∙◌, arith, add-one, inl, inr}
use Rattle.std.proofs.lemmas.Bool.{and_parts, and_from, le-leb, lt-ltb, or_left, or_right, not_from_false, ne_eqb, eq-eqb, cases_eq}
use Rattle.std.proofs.lemmas.List.{take_more, length-take, length-drop, get_or-drop}
use Rattle.std.proofs.lemmas.Bool.Decides.{nat_tests}
use Rattle.std.proofs.lemmas.Int.Digits.{digits_value_more}
use Rattle.std.proofs.lemmas.Str.Parse.{IsNumeralModel, numerals_by_value, tells_all_ascii_digits, digits_value_short}
use Rattle.std.proofs.lemmas.Nat.{le_bytes_4}
use Rattle.std.specs.Bool.{OnTrue}
use Rattle.std.specs.Int.{w32, from_le_bytes}
use Rattle.std.specs.Char.{is_ascii_digit, digit_value}
use Rattle.std.specs.Str.{all_ascii_digits}
use Rattle.std.specs.Str.Parse.{digits_value}
use Rattle.dg_base.specs.Numbers.{number_of, is_numeral}
use Rattle.dg_script.specs.Words.{words_of}
use Rattle.dg_script.specs.Fields.{number_in, mote_in, other_in}
use Rattle.dg_script.specs.Lines.{tick_line_of, last_line_of, played_verb, line_of}
use Rattle.dg_script.specs.Verbs.{verb_of, standing}
use Rattle.dg_script.specs.declared.verbs.Verb.TheVariants.{Tick, Last}
use Rattle.dg_script.specs.declared.fault.LineFault.{LineFault}
use Rattle.dg_base.specs.declared.events.Event.TheVariants as event
use Rattle.dg_script.specs.Sizes.{most_line}
use Rattle.dg_script.specs.declared.line.Line.TheVariants.{Happens as EventLine}
use Rattle.dg_base.specs.declared.events.Event.{Event}
use Rattle.dg_script.specs.NumberLines.{mote_with, other_with, tick_with, last_with}
use Rattle.dg_script.specs.Results.{◌>>=◌}
use Rattle.dg_script.specs.declared.place.Place.{Place}
use Rattle.dg_script.proofs.WordLemmas.{no_word, words_after_space, first_word}

-- what holds if a test returns true
pub holds : {P : Type 0} (b : Bool) → b ≡ true → OnTrue b P → P
holds true e h = h
holds false e h = cc

own : IsNumeralModel (λ ds. all_ascii_digits ds ≡ true) (digits_value 10)
own = numerals_by_value _ tells_all_ascii_digits

-- nine digits encode a number below 10 ^ 9
pub short_value : (ds : List ℕ) → all_ascii_digits ds ≡ true → length ds ≤ 9 → digits_value 10 ds < 1000000000
short_value ds h few = digits_value_short own ds 9 h few

chosen : (t b : Bool) (v : ℕ) → t ≡ true → b ≡ true → (if t && b then Some v else None) ≡ Some v
chosen t b v e f = rw (e, f) refl

leads : (ds : List ℕ) → (get_or ds 0 0 ≡ 48 → length ds ≤ 1) → 0 < length ds → (length ds == 1 || not (get_or ds 0 0 == 48)) ≡ true
leads ds lead some =
    elim (cases_eq (get_or ds 0 0) 48) [
      | inl zero_first ↦ let one = lead zero_first in or_left _ _ (eq-eqb (length ds) 1 (omega (arith, one, some)))
      | inr other ↦ or_right (length ds == 1) _ (not_from_false _ (ne_eqb (get_or ds 0 0) 48 other))
    ]

-- few digits are a number
few_digits : (ds : List ℕ) → all_ascii_digits ds ≡ true → 0 < length ds → length ds ≤ 9 → (get_or ds 0 0 ≡ 48 → length ds ≤ 1) → number_of ds ≡ Some (digits_value 10 ds)
unfolding number_of
few_digits ds h some few lead =
    let small = short_value ds h few in
    let numeral : is_numeral ds ≡ true = and_from _ _ (and_from _ _ h (lt-ltb 0 (length ds) some)) (leads ds lead some) in
    let below : nat_lt (digits_value 10 ds) (2 ^ 32) ≡ true = lt-ltb _ _ (omega (arith, small)) in
    chosen (is_numeral ds) (nat_lt (digits_value 10 ds) (2 ^ 32)) (digits_value 10 ds) numeral below

not_digit : (c : ℕ) → is_ascii_digit c ≡ true → c ≢ 32
not_digit c h e = let q : is_ascii_digit c ≡ is_ascii_digit 32 = ap is_ascii_digit e in cc

-- no digit is a space
no_space : (xs : List ℕ) (n : ℕ) → all_ascii_digits (take n xs) ≡ true → (k : ℕ) → k < n → k < length xs → get_or xs k 0 ≢ 32
no_space [] n h k below within = absurd (omega (arith, within))
no_space (c ∷ cs) zero h k below within = absurd (omega (arith, below))
no_space (c ∷ cs) (suc n) h zero below within = not_digit c (and_parts (is_ascii_digit c) (all_ascii_digits (take n cs)) h).0
no_space (c ∷ cs) (suc n) h (suc k) below within =
    no_space cs n (and_parts (is_ascii_digit c) (all_ascii_digits (take n cs)) h).1 k (omega (arith, below)) (omega (arith, within))

first_taken : (xs : List ℕ) (n : ℕ) → 0 < n → get_or (take n xs) 0 0 ≡ get_or xs 0 0
first_taken xs zero some = absurd (omega (arith, some))
first_taken [] (suc n) some = refl
first_taken (x ∷ xs) (suc n) some = refl

digits_append : (xs : List ℕ) (c : ℕ) → all_ascii_digits xs ≡ true → is_ascii_digit c ≡ true → all_ascii_digits (xs ++ c ∷ []) ≡ true
digits_append [] c h digit = and_from _ _ digit refl
digits_append (x ∷ xs) c h digit =
    let parts = and_parts (is_ascii_digit x) (all_ascii_digits xs) h in
    and_from _ _ parts.0 (digits_append xs c parts.1 digit)

-- a byte of this range is a digit
pub digit_from : (c : ℕ) → 48 ≤ c → c ≤ 57 → is_ascii_digit c ≡ true
digit_from c low high = grind (arith, nat_tests)

-- the digits so far, with one more digit
pub digit_more : (text : List ℕ) (i : ℕ) → i < length text → all_ascii_digits (take i text) ≡ true → is_ascii_digit (get_or text i 0) ≡ true
    → all_ascii_digits (take (i + 1) text) ≡ true
digit_more text i within h digit = ap all_ascii_digits (take_more text i 0 within) ∙ digits_append (take i text) (get_or text i 0) h digit

-- the value of a byte that is a digit
pub digit_is : (c : ℕ) → is_ascii_digit c ≡ true → (48 ≤ c) × (c ≤ 57) × (digit_value c ≡ c - 48)
digit_is c h = (grind (arith, nat_tests), grind (arith, nat_tests), grind (arith, nat_tests))

-- a number of one digit
pub one_digit : (first : ℕ) → first ≤ 9 → first ≡ digits_value 10 ((48 + first) ∷ [])
one_digit first small =
    let digit : is_ascii_digit (48 + first) ≡ true = digit_from (48 + first) (omega (arith, small)) (omega (arith, small)) in
    let one = digit_is (48 + first) digit in
    let value : digits_value 10 ((48 + first) ∷ []) ≡ 0 * 10 + digit_value (48 + first) = digits_value_more 10 ((48 + first) ∷ []) 0 (omega arith) in
    omega (arith, value, one.2)

-- a first digit and those after it, with one more of these
pub more_value : (text : List ℕ) (first i number : ℕ) → first ≤ 9 → i < length text → all_ascii_digits (take i text) ≡ true
    → number ≡ digits_value 10 ((48 + first) ∷ take i text) → is_ascii_digit (get_or text i 0) ≡ true
    → number * 10 + (get_or text i 0 - 48) ≡ digits_value 10 ((48 + first) ∷ take (i + 1) text)
more_value text first i number small within h value digit =
    let one = digit_is (get_or text i 0) digit in
    let within_both : i + 1 < length ((48 + first) ∷ text) = omega (arith, within) in
    let next : digits_value 10 (take (i + 1 + 1) ((48 + first) ∷ text)) ≡ digits_value 10 (take (i + 1) ((48 + first) ∷ text)) * 10 + digit_value (get_or ((48 + first) ∷ text) (i + 1) 0) =
    digits_value_more 10 ((48 + first) ∷ text) (i + 1) within_both in
    let so_far : take (i + 1) ((48 + first) ∷ text) ≡ (48 + first) ∷ take i text = rw add-one refl in
    let more : take (i + 1 + 1) ((48 + first) ∷ text) ≡ (48 + first) ∷ take (i + 1) text = rw (add-one (i + 1)) refl in
    let here : get_or ((48 + first) ∷ text) (i + 1) 0 ≡ get_or text i 0 = rw add-one refl in
    ap (λ n. n * 10 + (get_or text i 0 - 48)) value
    ∙ ap (λ d. digits_value 10 ((48 + first) ∷ take i text) * 10 + d) (sym one.2)
    ∙ sym (ap (digits_value 10) (sym more) ∙ next ∙ ap (λ (xs : List ℕ). digits_value 10 xs * 10 + digit_value (get_or ((48 + first) ∷ text) (i + 1) 0)) so_far ∙ ap (λ c. digits_value 10 ((48 + first) ∷ take i text) * 10 + digit_value c) here)

-- a byte less the first digit, by wrapping arithmetic
pub digit_by : (byte digit : ℕ) → byte < 256 → digit ≡ (byte + 4294967248) % 4294967296 → digit ≤ 9 → (48 ≤ byte) × (byte ≤ 57) × (digit ≡ byte - 48)
digit_by byte digit small is few = (omega (arith, small, is, few), omega (arith, small, is, few), omega (arith, small, is, few))

-- one more digit, by wrapping arithmetic
pub more_step : (text : List ℕ) (first i number digit : ℕ) → first ≤ 9 → i < length text → all_ascii_digits (take i text) ≡ true
    → (i ≤ 8 → number ≡ digits_value 10 ((48 + first) ∷ take i text)) → get_or text i 0 < 256
    → digit ≡ (get_or text i 0 + 4294967248) % 4294967296 → digit ≤ 9
    → (all_ascii_digits (take (i + 1) text) ≡ true)
    × (i + 1 ≤ 8 → ((number * 10) % 4294967296 + digit) % 4294967296 ≡ digits_value 10 ((48 + first) ∷ take (i + 1) text))
more_step text first i number digit small within h value byte is few =
    let d = digit_by (get_or text i 0) digit byte is few in
    let one : is_ascii_digit (get_or text i 0) ≡ true = digit_from (get_or text i 0) d.0 d.1 in
    let all = digit_more text i within h one in (
      all,
      λ short.
          let next = more_value text first i number small within h (value (omega (arith, short))) one in
          let leading : is_ascii_digit (48 + first) ≡ true = digit_from (48 + first) (omega (arith, small)) (omega (arith, small)) in
          let long = length-take (i + 1) text in
          let below = short_value ((48 + first) ∷ take (i + 1) text) (and_from (is_ascii_digit (48 + first)) (all_ascii_digits (take (i + 1) text)) leading all) (omega (arith, long, short)) in
          omega (arith, next, below, d.2),
    )

-- a number after a space, followed by a space or the end of the text
number_found : (text behind rest : List ℕ) (number count : ℕ) → 0 < length text → get_or text 0 0 ≡ 32 → behind ≡ drop 1 text
    → count ≤ 9 → count ≤ length behind → all_ascii_digits (take count behind) ≡ true → number ≡ digits_value 10 (take count behind)
    → (get_or behind 0 0 ≡ 48 → count ≤ 1) → 0 < count → rest ≡ drop count behind → (0 < length rest → get_or rest 0 0 ≡ 32)
    → map number_of (words_of text) ≡ Some number ∷ map number_of (words_of rest)
number_found text behind rest number count some space back few inside all value lead any after ends =
    let ds = take count behind in
    let long : length ds ≡ count = length-take count behind ∙ omega (arith, inside) in
    let leading : get_or ds 0 0 ≡ 48 → length ds ≤ 1 = λ e. let one = lead (sym (first_taken behind count any) ∙ e) in omega (arith, one, long) in
    let numbered : number_of ds ≡ Some number = few_digits ds all (omega (arith, long, any)) (omega (arith, long, few)) leading ∙ ap Some (sym value) in
    let stops : count < length behind → get_or behind count 0 ≡ 32 = λ below.
    let left : 0 < length rest = omega (arith, ap length after, length-drop count behind, below) in
    let place : count + 0 ≡ count = omega arith in
    sym (ap (λ xs. get_or xs 0 0) after ∙ get_or-drop count behind 0 0 ∙ ap (λ k. get_or behind k 0) place) ∙ ends left in
    let first : words_of behind ≡ ds ∷ words_of (drop count behind) =
    first_word behind count any inside (λ k below. no_space behind count all k below (omega (arith, below, inside))) stops in
    let behind_space : words_of text ≡ words_of behind = sym (words_after_space text 0 some space) ∙ ap words_of (sym back) in
    ap (map number_of) (behind_space ∙ first)
    ∙ ap (λ o. o ∷ map number_of (words_of (drop count behind))) numbered
    ∙ ap (λ r. Some number ∷ map number_of (words_of r)) (sym after)

-- a space, a first digit and n more, followed by a space or the end of the text
pub next_found : (text more rest : List ℕ) (first number n : ℕ) → 2 ≤ length text → get_or text 0 0 ≡ 32 → get_or text 1 0 ≡ 48 + first
    → first ≤ 9 → more ≡ drop 2 text → n ≤ 8 → n ≤ length more → all_ascii_digits (take n more) ≡ true
    → number ≡ digits_value 10 ((48 + first) ∷ take n more) → (first ≡ 0 → n ≡ 0) → rest ≡ drop n more
    → (0 < length rest → get_or rest 0 0 ≡ 32) → map number_of (words_of text) ≡ Some number ∷ map number_of (words_of rest)
next_found [] more rest first number n some space here small back few inside all value lead after ends = absurd (omega (arith, some))
next_found (a ∷ []) more rest first number n some space here small back few inside all value lead after ends = absurd (omega (arith, some))
next_found (a ∷ b ∷ cs) more rest first number n some space here small back few inside all value lead after ends =
    let tail : more ≡ cs = back in
    let second : b ≡ 48 + first = here in
    let digit : is_ascii_digit b ≡ true = digit_from b (omega (arith, second)) (omega (arith, second, small)) in
    let all_here : all_ascii_digits (take n cs) ≡ true = ap (λ xs. all_ascii_digits (take n xs)) (sym tail) ∙ all in
    number_found (a ∷ b ∷ cs) (b ∷ cs) rest number (suc n) (omega arith) space refl (omega (arith, few)) (omega (arith, inside, ap length tail))
    (and_from (is_ascii_digit b) (all_ascii_digits (take n cs)) digit all_here)
    (value ∙ ap (λ c. digits_value 10 (c ∷ take n more)) (sym second) ∙ ap (λ xs. digits_value 10 (b ∷ take n xs)) tail)
    (λ zero_first. let forty_eight : b ≡ 48 = zero_first in let none = lead (omega (arith, second, forty_eight)) in omega (arith, none)) (omega arith)
    (after ∙ ap (drop n) tail) ends

-- an empty text has no numbers
pub no_numbers : (text : List ℕ) → length text ≡ 0 → map number_of (words_of text) ≡ []
no_numbers text h = ap (map number_of) (no_word text h)

-- ---- the lines of numbers

pub tick_by : (place : Place) (ws : List (List ℕ)) (a b c : ℕ) → map number_of ws ≡ Some a ∷ Some b ∷ Some c ∷ []
    → tick_line_of place ws ≡ tick_with place a b c
unfolding tick_line_of mote_in number_in
tick_by place [] a b c h = cc
tick_by place (x ∷ []) a b c h = cc
tick_by place (x ∷ y ∷ []) a b c h = cc
tick_by place (x ∷ y ∷ z ∷ []) a b c h =
    let p : number_of x ≡ Some a = cc in
    let q : number_of y ≡ Some b = cc in
    let r : number_of z ≡ Some c = cc in
    rw (p, q, r) refl
tick_by place (x ∷ y ∷ z ∷ w ∷ ws) a b c h = cc

pub last_by : (place : Place) (ws : List (List ℕ)) (a b c d : ℕ) → map number_of ws ≡ Some a ∷ Some b ∷ Some c ∷ Some d ∷ []
    → last_line_of place ws ≡ last_with place a b c d
unfolding last_line_of mote_in other_in number_in
last_by place [] a b c d h = cc
last_by place (x ∷ []) a b c d h = cc
last_by place (x ∷ y ∷ []) a b c d h = cc
last_by place (x ∷ y ∷ z ∷ []) a b c d h = cc
last_by place (x ∷ y ∷ z ∷ w ∷ []) a b c d h =
    let p : number_of x ≡ Some a = cc in
    let q : number_of y ≡ Some b = cc in
    let r : number_of z ≡ Some c = cc in
    let s : number_of w ≡ Some d = cc in
    rw (p, q, r, s) refl
last_by place (x ∷ y ∷ z ∷ w ∷ v ∷ ws) a b c d h = cc

-- what stands and whose motes there are
pub tick_stands : (place : Place) (ws : List (List ℕ)) (a b c mote : ℕ) (r : Result (Unit {0}) LineFault) → map number_of ws ≡ Some a ∷ Some b ∷ Some c ∷ []
    → r ≡ standing Tick place → is_err r ≡ false → Ok mote ≡ mote_with place.motes a → tick_line_of place ws ≡ Ok (EventLine (event.Tick mote b c))
tick_stands place ws a b c mote (Err e) h stand fine at = absurd cc
tick_stands place ws a b c mote (Ok u) h stand fine at =
    tick_by place ws a b c h
    ∙ ap (λ (s : Result (Unit {0}) LineFault). s >>= λ v. mote_with place.motes a >>= λ m. Ok (EventLine (event.Tick m b c))) (sym stand)
    ∙ ap (λ (s : Result ℕ LineFault). s >>= λ m. Ok (EventLine (event.Tick m b c))) (sym at)

pub last_stands : (place : Place) (ws : List (List ℕ)) (a b c d from to : ℕ) (r : Result (Unit {0}) LineFault)
    → map number_of ws ≡ Some a ∷ Some b ∷ Some c ∷ Some d ∷ [] → r ≡ standing Last place → is_err r ≡ false → Ok from ≡ mote_with place.motes a
    → Ok to ≡ other_with place.motes from b → last_line_of place ws ≡ Ok (EventLine (event.Last from to c d))
last_stands place ws a b c d from to (Err e) h stand fine at other = absurd cc
last_stands place ws a b c d from to (Ok u) h stand fine at other =
    last_by place ws a b c d h
    ∙ ap (λ (s : Result (Unit {0}) LineFault). s >>= λ v. mote_with place.motes a >>= λ f. other_with place.motes f b >>= λ t. Ok (EventLine (event.Last f t c d))) (sym stand)
    ∙ ap (λ (s : Result ℕ LineFault). s >>= λ f. other_with place.motes f b >>= λ t. Ok (EventLine (event.Last f t c d))) (sym at)
    ∙ ap (λ (s : Result ℕ LineFault). s >>= λ t. Ok (EventLine (event.Last from t c d))) (sym other)

-- ---- a whole line of four letters and fields

tick_lacks : (k : ℕ) → k < 4 → get_or (codes "tick") k 0 ≢ 32
tick_lacks zero h e = let letter : 116 ≡ 32 = e in absurd (omega (arith, letter))
tick_lacks (suc zero) h e = let letter : 105 ≡ 32 = e in absurd (omega (arith, letter))
tick_lacks (suc (suc zero)) h e = let letter : 99 ≡ 32 = e in absurd (omega (arith, letter))
tick_lacks (suc (suc (suc zero))) h e = let letter : 107 ≡ 32 = e in absurd (omega (arith, letter))
tick_lacks (suc (suc (suc (suc k)))) h e = absurd (omega (arith, h))

last_lacks : (k : ℕ) → k < 4 → get_or (codes "last") k 0 ≢ 32
last_lacks zero h e = let letter : 108 ≡ 32 = e in absurd (omega (arith, letter))
last_lacks (suc zero) h e = let letter : 97 ≡ 32 = e in absurd (omega (arith, letter))
last_lacks (suc (suc zero)) h e = let letter : 115 ≡ 32 = e in absurd (omega (arith, letter))
last_lacks (suc (suc (suc zero))) h e = let letter : 116 ≡ 32 = e in absurd (omega (arith, letter))
last_lacks (suc (suc (suc (suc k)))) h e = absurd (omega (arith, h))

taken_at : (xs : List ℕ) (n k : ℕ) → k < n → get_or (take n xs) k 0 ≡ get_or xs k 0
taken_at xs zero k h = absurd (omega (arith, h))
taken_at [] (suc n) k h = refl
taken_at (x ∷ xs) (suc n) zero h = refl
taken_at (x ∷ xs) (suc n) (suc k) h = taken_at xs n k (omega (arith, h))

-- the words of a text that begins with four letters, and then has a space
letters_first : (text letters fields : List ℕ) → 4 ≤ length text → take 4 text ≡ letters → ((k : ℕ) → k < 4 → get_or letters k 0 ≢ 32)
    → fields ≡ drop 4 text → get_or fields 0 0 ≡ 32 → words_of text ≡ letters ∷ words_of fields
letters_first text letters fields some begin lacks back space =
    let here : get_or text 4 0 ≡ 32 = sym (get_or-drop 4 text 0 0) ∙ ap (λ xs. get_or xs 0 0) (sym back) ∙ space in
    let none : (k : ℕ) → k < 4 → get_or text k 0 ≢ 32 = λ k below e. lacks k below (ap (λ xs. get_or xs k 0) (sym begin) ∙ taken_at text 4 k below ∙ e) in
    first_word text 4 (omega arith) some none (λ below. here) ∙ ap (λ (w : List ℕ). w ∷ words_of (drop 4 text)) begin ∙ ap (λ xs. letters ∷ words_of xs) (sym back)

pub tick_plain : (place : Place) (text fields : List ℕ) (event : Event) → 4 ≤ length text → length text ≤ most_line → take 4 text ≡ codes "tick"
    → fields ≡ drop 4 text → get_or fields 0 0 ≡ 32 → tick_line_of place (words_of fields) ≡ Ok (EventLine event) → line_of place text ≡ Ok (EventLine event)
unfolding line_of played_verb verb_of
tick_plain place text fields event some short begin back space read =
    rw (le-leb (length text) most_line short, letters_first text (codes "tick") fields some begin tick_lacks back space) read

pub last_plain : (place : Place) (text fields : List ℕ) (event : Event) → 4 ≤ length text → length text ≤ most_line → take 4 text ≡ codes "last"
    → fields ≡ drop 4 text → get_or fields 0 0 ≡ 32 → last_line_of place (words_of fields) ≡ Ok (EventLine event) → line_of place text ≡ Ok (EventLine event)
unfolding line_of played_verb verb_of
last_plain place text fields event some short begin back space read =
    rw (le-leb (length text) most_line short, letters_first text (codes "last") fields some begin last_lacks back space) read

-- the same, if there is an event
pub tick_event : (place : Place) (text fields : List ℕ) (r : Option Event) → 4 ≤ length text → length text ≤ most_line → take 4 text ≡ codes "tick"
    → fields ≡ drop 4 text → IfSome r (λ e. get_or fields 0 0 ≡ 32) → IfSome r (λ e. tick_line_of place (words_of fields) ≡ Ok (EventLine e))
    → IfSome r (λ e. line_of place text ≡ Ok (EventLine e))
tick_event place text fields None some short begin back space read = tt
tick_event place text fields (Some e) some short begin back space read = tick_plain place text fields e some short begin back space read

pub last_event : (place : Place) (text fields : List ℕ) (r : Option Event) → 4 ≤ length text → length text ≤ most_line → take 4 text ≡ codes "last"
    → fields ≡ drop 4 text → IfSome r (λ e. get_or fields 0 0 ≡ 32) → IfSome r (λ e. last_line_of place (words_of fields) ≡ Ok (EventLine e))
    → IfSome r (λ e. line_of place text ≡ Ok (EventLine e))
last_event place text fields None some short begin back space read = tt
last_event place text fields (Some e) some short begin back space read = last_plain place text fields e some short begin back space read

-- ---- four bytes as one number

four_taken : (xs : List ℕ) → 4 ≤ length xs → take 4 xs ≡ get_or xs 0 0 ∷ get_or xs 1 0 ∷ get_or xs 2 0 ∷ get_or xs 3 0 ∷ []
four_taken [] h = absurd (omega (arith, h))
four_taken (a ∷ []) h = absurd (omega (arith, h))
four_taken (a ∷ b ∷ []) h = absurd (omega (arith, h))
four_taken (a ∷ b ∷ c ∷ []) h = absurd (omega (arith, h))
four_taken (a ∷ b ∷ c ∷ d ∷ xs) h = refl

four_bytes : (text : List ℕ) → ((k : ℕ) → get_or text k 0 < 256) → (k : ℕ) → get_or (get_or text 0 0 ∷ get_or text 1 0 ∷ get_or text 2 0 ∷ get_or text 3 0 ∷ []) k 0 < 256
four_bytes text bytes zero = bytes 0
four_bytes text bytes (suc zero) = bytes 1
four_bytes text bytes (suc (suc zero)) = bytes 2
four_bytes text bytes (suc (suc (suc zero))) = bytes 3
four_bytes text bytes (suc (suc (suc (suc k)))) = let none : 0 < 256 = omega arith in none

-- the same number encodes the same four bytes
pub same_four : (text letters : List ℕ) (n : ℕ) → 4 ≤ length text → length letters ≡ 4 → ((k : ℕ) → get_or text k 0 < 256) → ((k : ℕ) → get_or letters k 0 < 256)
    → n ≡ from_le_bytes w32 (get_or text 0 0 ∷ get_or text 1 0 ∷ get_or text 2 0 ∷ get_or text 3 0 ∷ []) → n ≡ from_le_bytes w32 letters → take 4 text ≡ letters
same_four text letters n some four bytes letter_bytes one other =
    let taken = four_taken text some in
    let small : (k : ℕ) → get_or (get_or text 0 0 ∷ get_or text 1 0 ∷ get_or text 2 0 ∷ get_or text 3 0 ∷ []) k 0 < 256 = four_bytes text bytes in
    taken ∙ sym (le_bytes_4 (get_or text 0 0 ∷ get_or text 1 0 ∷ get_or text 2 0 ∷ get_or text 3 0 ∷ []) n refl small one) ∙ le_bytes_4 letters n four letter_bytes other

-- what holds if a test of two numbers returns true
pub if_equal : {P : Type 0} (m n : ℕ) → (m ≡ n → P) → OnTrue (m == n) P
if_equal m n f = elim (cases_eq m n) [
  | inl same ↦ rw (eq-eqb m n same) (f same)
  | inr other ↦ rw (ne_eqb m n other) tt
]

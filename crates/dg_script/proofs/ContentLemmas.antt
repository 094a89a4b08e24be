-- What contents encode.
use Rattle.std.proofs.Common.{◌≡◌, ℕ, ◌+◌, ◌%◌, ◌^◌, ◌<◌, ◌⊎◌, ◌&&◌, nat_le, nat_lt, inl, inr, ⊎_elim, Bool, true, false, if◌then◌else◌, List, [], ◌∷◌, ◌++◌, length, set, take, drop, codes, Option, Some, None, Any, refl, sym, ap, ◌∙◌, subst, arith}
use Rattle.std.proofs.lemmas.Bool.{cases_lt, ltb-true}
use Rattle.std.proofs.lemmas.List.{take_more_set, get_or_past}
use Rattle.std.proofs.lemmas.List.FromFn.{map-range_with_len_more}
use Rattle.std.specs.Str.Parse.{digits_value}
use Rattle.dg_words.specs.Cells.{AreBytes}
use Rattle.dg_words.specs.Lists.{tabulate}
use Rattle.dg_words.proofs.ListLemmas.{length-tabulate, get_or-tabulate}
use Rattle.dg_base.specs.Numbers.{is_numeral, number_of}
use Rattle.dg_base.specs.Hexadecimal.{hex_bytes, is_hex_digit}
use Rattle.dg_base.proofs.HexLemmas.{hex_bytes-some}
use Rattle.dg_script.specs.Sizes.{most_content}
use Rattle.dg_script.specs.Words.{same, halves_of}
use Rattle.dg_script.specs.Contents.{generated, generated_byte, generated_of, content_of}
use Rattle.dg_script.proofs.ResultLemmas.{bound_some, kept_some, behind_test}

-- An odd number of digits encodes no bytes. Bytes of which one is not a digit encode none either.
refused : (digits : List ℕ) (o : Option (List ℕ)) → hex_bytes digits ≡ o → (length digits % 2 ≡ 1) ⊎ Any (λ c. is_hex_digit c ≡ false) digits → o ≡ None
refused digits None e why = refl
refused digits (Some bytes) e (inl odd) =
    let read = hex_bytes-some digits bytes e in
    absurd (omega (arith, read.0))
refused digits (Some bytes) e (inr (k, x, within, at, bad)) =
    let read = hex_bytes-some digits bytes e in
    let good : is_hex_digit x ≡ true = rw at at (read.1 k x within) in
    cc

pub refused_digits : (digits : List ℕ) → (length digits % 2 ≡ 1) ⊎ Any (λ c. is_hex_digit c ≡ false) digits → hex_bytes digits ≡ None
refused_digits digits why = refused digits (hex_bytes digits) refl why

pub hex_bytes-odd : (digits : List ℕ) → length digits % 2 ≡ 1 → hex_bytes digits ≡ None
hex_bytes-odd digits odd = refused_digits digits (inl odd)

pub hex_bytes-digit : (digits : List ℕ) → Any (λ c. is_hex_digit c ≡ false) digits → hex_bytes digits ≡ None
hex_bytes-digit digits bad = refused_digits digits (inr bad)

pub ruleset refusals = (hex_bytes-odd, hex_bytes-digit)

-- ---- bytes that a seed generates

pub length-generated : (len seed : ℕ) → length (generated len seed) ≡ len
unfolding generated
length-generated len seed = length-tabulate len (generated_byte seed)

pub generated_none : (seed : ℕ) → generated 0 seed ≡ []
unfolding generated
generated_none seed = refl

pub generated_more : (into : List ℕ) (seed at : ℕ) → at < length into → take at into ≡ generated at seed
    → take (at + 1) (set into at (generated_byte seed at)) ≡ generated (at + 1) seed
unfolding generated
generated_more into seed at h so_far =
    take_more_set into at (generated_byte seed at) h
    ∙ ap (λ (xs : List ℕ). xs ++ generated_byte seed at ∷ []) so_far
    ∙ sym (map-range_with_len_more (generated_byte seed) 0 at at (omega arith))

generated_bytes : (len seed : ℕ) → AreBytes (generated len seed)
unfolding generated
generated_bytes len seed k =
    ⊎_elim
    (λ inside. subst (λ (x : ℕ). x < 256) (sym (get_or-tabulate len k (generated_byte seed) 0 inside)) (omega arith))
    (λ behind. subst (λ (x : ℕ). x < 256) (sym (get_or_past (tabulate len (generated_byte seed)) k 0 (omega (arith, behind, length-tabulate len (generated_byte seed))))) (omega arith))
    (cases_lt k len)

-- ---- contents are bytes

pub hex_are_bytes : (digits bytes : List ℕ) → hex_bytes digits ≡ Some bytes → AreBytes bytes
hex_are_bytes digits bytes h k =
    let read = hex_bytes-some digits bytes h in
    ⊎_elim
    (λ inside. read.2 k 0 inside)
    (λ behind. subst (λ (x : ℕ). x < 256) (sym (get_or_past bytes k 0 behind)) (omega arith))
    (cases_lt k (length bytes))

pub generated_of_bytes : (fields bytes : List ℕ) → generated_of fields ≡ Some bytes → AreBytes bytes
unfolding generated_of
generated_of_bytes fields bytes h =
    let halves = bound_some (halves_of fields) _ bytes h in
    let len = bound_some (number_of halves.0.0) _ bytes halves.2 in
    let seed = bound_some (number_of halves.0.1) _ bytes len.2 in
    let here = kept_some (nat_le len.0 most_content) (generated len.0 seed.0) bytes seed.2 in
    subst AreBytes here.1 (generated_bytes len.0 seed.0)

one_of_two : (test : Bool) (a b : Option (List ℕ)) (bytes : List ℕ) → (if test then a else b) ≡ Some bytes → (a ≡ Some bytes) ⊎ (b ≡ Some bytes)
one_of_two true a b bytes h = inl h
one_of_two false a b bytes h = inr h

pub contents_are_bytes : (word bytes : List ℕ) → content_of word ≡ Some bytes → AreBytes bytes
unfolding content_of
contents_are_bytes word bytes h =
    ⊎_elim
    (λ hex. hex_are_bytes (drop 4 word) bytes hex)
    (λ other. generated_of_bytes (drop 4 word) bytes (behind_test (same (take 4 word) (codes "gen:")) (generated_of (drop 4 word)) bytes other))
    (one_of_two (same (take 4 word) (codes "hex:")) (hex_bytes (drop 4 word)) _ bytes h)

-- ---- numbers fit

small_by : (t : Bool) (v n : ℕ) → (if t && nat_lt v (2 ^ 32) then Some v else None) ≡ Some n → n < 2 ^ 32
small_by false v n h = cc
small_by true v n h =
    let here = kept_some (nat_lt v (2 ^ 32)) v n h in
    subst (λ (m : ℕ). m < 2 ^ 32) here.1 (ltb-true _ _ here.0)

pub number_fits : (word : List ℕ) (n : ℕ) → number_of word ≡ Some n → n < 2 ^ 32
unfolding number_of
number_fits word n h = small_by (is_numeral word) (digits_value 10 word) n h

-- Numbers as `clap` reads them, and texts.
use Rattle.std.proofs.Common.{◌≡◌, ◌&&◌, ◌^◌, ℕ, Bool, true, false, refl, ap, List, [], ◌∷◌, length, Option, Some, None, Result, Ok, Err}
use Rattle.std.specs.Prelude.{nat_lt, option_and_then, unwrap_or}
use Rattle.std.specs.List.{list_all}
use Rattle.std.specs.Char.{digit_value}
use Rattle.std.specs.Str.Parse.{AllDigits, ParsesUnsigned, digits_value, without_leading_plus}
use Rattle.std.proofs.lemmas.Bool.{ltb-true, lt-ltb}
use Rattle.clap.proofs.WalkLemmas.{both}
use Rattle.clap.specs.Words.{ReadsOne, Text}
use Rattle.dg_command.specs.Values.{number_of_text}

pub digits_from : (ds : List ℕ) → list_all (λ d. nat_lt (digit_value d) 10) ds ≡ true → AllDigits 10 ds
digits_from [] e = tt
digits_from (d ∷ ds) e =
    let parts = both _ _ e in
    (ltb-true _ _ parts.0, digits_from ds parts.1)

pub digits_pass : (ds : List ℕ) → AllDigits 10 ds → list_all (λ d. nat_lt (digit_value d) 10) ds ≡ true
digits_pass [] h = refl
digits_pass (d ∷ ds) h = rw (lt-ltb (digit_value d) 10 h.0) (digits_pass ds h.1)

-- digits of a number below 2 ^ k
abbrev pub is_read : ℕ → List ℕ → Bool
is_read k ds = (nat_lt 0 (length ds) && list_all (λ d. nat_lt (digit_value d) 10) ds) && nat_lt (digits_value 10 ds) (2 ^ k)

number_read : {E : Type 0} (G : List ℕ → Result ℕ E → Type 0) (k : ℕ) (t : Text) (r : Option ℕ)
    → ((u : List ℕ) (x : Result ℕ E) → G u x → ParsesUnsigned k 10 u x) → ReadsOne G t r → r ≡ number_of_text k t
number_read G k t (Some v) only h =
    let p = only t (Ok v) h in
    let ds = without_leading_plus t in
    rw (lt-ltb 0 (length ds) p.0.0.0, digits_pass ds p.0.0.1, lt-ltb (digits_value 10 ds) (2 ^ k) p.0.1) (ap (λ n. Some n) p.1)
number_read G k t None only h = go (is_read k (without_leading_plus t)) refl
  where
    go : (b : Bool) → is_read k (without_leading_plus t) ≡ b → None ≡ number_of_text k t
    go false e = rw e refl
    go true e =
        let outer = both _ _ e in
        let inner = both _ _ outer.0 in
        absurd (only t (Err h.0) h.1 ((ltb-true _ _ inner.0, digits_from (without_leading_plus t) inner.1), ltb-true _ _ outer.1))

pub number_from : {E : Type 0} (G : List ℕ → Result ℕ E → Type 0) (k : ℕ) (o : Option Text) (r : Option ℕ)
    → ((u : List ℕ) (x : Result ℕ E) → G u x → ParsesUnsigned k 10 u x) → (o ≡ None → r ≡ None) → ((t : Text) → o ≡ Some t → ReadsOne G t r)
    → unwrap_or r 0 ≡ unwrap_or (option_and_then (number_of_text k) o) 0
number_from G k None r only none some = ap (λ x. unwrap_or x 0) (none refl)
number_from G k (Some t) r only none some = ap (λ x. unwrap_or x 0) (number_read G k t r only (some t refl))

-- Tests of each mote.
use Rattle.std.proofs.Common.{◌≡◌, ℕ, ◌+◌, ◌<◌, ◌≤◌, ◌==◌, ◌&&◌, Bool, true, false, not, nat_lt, List, [], ◌∷◌, ◌++◌, map, fold, refl, sym, ap, ◌∙◌, zero, suc, arith}
use Rattle.std.specs.Prelude.{Option, Some, None}
use Rattle.std.specs.Option.{option_eq}
use Rattle.std.specs.List.{list_all, range_with_len}
use Rattle.std.proofs.lemmas.List.FromFn.{map-range_with_len_more}
use Rattle.std.proofs.lemmas.Bool.{eqb-true, eq-eqb, false≢true}
use Rattle.dg_moments.specs.Moments.{keeps_version, all_motes, newer, newest_of}
use Rattle.dg_moments.specs.Wholes.{is_new}

range_same : (f g : ℕ → Bool) (a n : ℕ) → ((m : ℕ) → a ≤ m → m < a + n → f m ≡ g m) → list_all f (range_with_len a n) ≡ list_all g (range_with_len a n)
range_same f g a zero same = refl
range_same f g a (suc n) same =
    ap (λ (b : Bool). b && list_all f (range_with_len (a + 1) n)) (same a (omega arith) (omega arith))
    ∙ ap (λ (b : Bool). g a && b) (range_same f g (a + 1) n (λ m ge lt. same m (omega (arith, ge)) (omega (arith, lt))))

range_true : (f : ℕ → Bool) (a n : ℕ) → ((m : ℕ) → a ≤ m → m < a + n → f m ≡ true) → list_all f (range_with_len a n) ≡ true
range_true f a zero all = refl
range_true f a (suc n) all =
    ap (λ (b : Bool). b && list_all f (range_with_len (a + 1) n)) (all a (omega arith) (omega arith))
    ∙ range_true f (a + 1) n (λ m ge lt. all m (omega (arith, ge)) (omega (arith, lt)))

false_right : (b c : Bool) → c ≡ false → (b && c) ≡ false
false_right true c e = e
false_right false c e = refl

range_false : (f : ℕ → Bool) (a n k : ℕ) → k < n → f (a + k) ≡ false → list_all f (range_with_len a n) ≡ false
range_false f a zero k lt fails = absurd (omega (arith, lt))
range_false f a (suc n) zero lt fails =
    ap (λ (b : Bool). b && list_all f (range_with_len (a + 1) n)) (ap f (omega arith) ∙ fails)
range_false f a (suc n) (suc k) lt fails =
    false_right (f a) (list_all f (range_with_len (a + 1) n)) (range_false f (a + 1) n k (omega (arith, lt)) (ap f (omega arith) ∙ fails))

-- tests with the same answers
pub all_same : (n : ℕ) (f g : ℕ → Bool) → ((m : ℕ) → m < n → f m ≡ g m) → all_motes n f ≡ all_motes n g
all_same n f g same = ap (λ (b : Bool). nat_lt 0 n && b) (range_same f g 0 n (λ m ge lt. same m (omega (arith, lt))))

pub all_true : (n : ℕ) (f : ℕ → Bool) → ((m : ℕ) → m < n → f m ≡ true) → all_motes n f ≡ nat_lt 0 n
all_true n f all = ap (λ (b : Bool). nat_lt 0 n && b) (range_true f 0 n (λ m ge lt. all m (omega (arith, lt)))) ∙ right_true (nat_lt 0 n)
  where
    right_true : (b : Bool) → (b && true) ≡ b
    right_true true = refl
    right_true false = refl

pub all_false : (n : ℕ) (f : ℕ → Bool) (m : ℕ) → m < n → f m ≡ false → all_motes n f ≡ false
all_false n f m lt fails = false_right (nat_lt 0 n) (list_all f (range_with_len 0 n)) (range_false f 0 n m lt (ap f (omega arith) ∙ fails))

-- ---- versions that are new

pub not_new_same : (o : Option ℕ) (v : ℕ) → is_new o o v ≡ false
not_new_same o v = by (keeps_version o v)
  where
    by : (b : Bool) → (b && not b) ≡ false
    by true = refl
    by false = refl

pub not_new_none : (o : Option ℕ) (v : ℕ) → is_new o None v ≡ false
not_new_none o v = refl

pub both_and : (b c : Bool) → b ≡ c → (c && not b) ≡ false
both_and true true e = refl
both_and true false e = absurd cc
both_and false true e = absurd cc
both_and false false e = refl

pub same_version : (a b v : ℕ) → a ≡ b → keeps_version (Some a) v ≡ keeps_version (Some b) v
same_version a b v e = ap (λ (k : ℕ). k == v) e

pub version_is : (o : Option ℕ) (v : ℕ) → keeps_version o v ≡ true → o ≡ Some v
version_is None v e = absurd (false≢true e)
version_is (Some u) v e = ap (λ (k : ℕ). Some k) (eqb-true u v e)

pub version_of : (o : Option ℕ) (v : ℕ) → o ≡ Some v → keeps_version o v ≡ true
version_of o v e = ap (λ (p : Option ℕ). keeps_version p v) e ∙ eq-eqb v v refl

-- options of which the same versions are
pub same_versions : (a b : Option ℕ) → ((v : ℕ) → keeps_version a v ≡ keeps_version b v) → a ≡ b
same_versions None None same = refl
same_versions None (Some b) same = absurd (false≢true (same b ∙ eq-eqb b b refl))
same_versions (Some a) b same = sym (version_is b a (sym (same a) ∙ eq-eqb a a refl))

pub option_is : (o : Option ℕ) (v : ℕ) → option_eq ◌==◌ o (Some v) ≡ keeps_version o v
option_is None v = refl
option_is (Some u) v = refl

-- equal options
pub same_options : (a b : Option ℕ) → option_eq ◌==◌ a b ≡ true → a ≡ b
same_options None None e = refl
same_options None (Some v) e = absurd (false≢true e)
same_options (Some u) None e = absurd (false≢true e)
same_options (Some u) (Some v) e = ap (λ (k : ℕ). Some k) (eqb-true u v e)

-- an option that is not this version
pub other_option : (a : Option ℕ) (v : ℕ) → option_eq ◌==◌ a (Some v) ≡ false → keeps_version a v ≡ false
other_option a v e = sym (option_is a v) ∙ e

-- ---- the newest version

fold_push : {A B : Type 0} (f : B → A → B) (a : B) (xs : List A) (x : A) → fold f a (xs ++ x ∷ []) ≡ f (fold f a xs) x
fold_push f a [] x = refl
fold_push f a (y ∷ xs) x = fold_push f (f a y) xs x

pub newest_more : (n : ℕ) (kept : ℕ → Option ℕ) → newest_of (n + 1) kept ≡ newer (newest_of n kept) (kept n)
newest_more n kept =
    ap (λ (os : List (Option ℕ)). fold newer None os) (map-range_with_len_more kept 0 n n (omega arith))
    ∙ fold_push newer None (map kept (range_with_len 0 n)) (kept n)

map_same : (f g : ℕ → Option ℕ) (a n : ℕ) → ((m : ℕ) → a ≤ m → m < a + n → f m ≡ g m) → map f (range_with_len a n) ≡ map g (range_with_len a n)
map_same f g a zero same = refl
map_same f g a (suc n) same =
    ap (λ (o : Option ℕ). o ∷ map f (range_with_len (a + 1) n)) (same a (omega arith) (omega arith))
    ∙ ap (λ (os : List (Option ℕ)). g a ∷ os) (map_same f g (a + 1) n (λ m ge lt. same m (omega (arith, ge)) (omega (arith, lt))))

pub newest_same : (n : ℕ) (f g : ℕ → Option ℕ) → ((m : ℕ) → m < n → f m ≡ g m) → newest_of n f ≡ newest_of n g
newest_same n f g same = ap (λ (os : List (Option ℕ)). fold newer None os) (map_same f g 0 n (λ m ge lt. same m (omega (arith, lt))))

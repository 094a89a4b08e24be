-- What maps have at a key after a change.
use Rattle.std.proofs.Common.{◌≡◌, ℕ, ◌+◌, ◌-◌, ◌==◌, ◌&&◌, Bool, true, false, cond, List, [], ◌∷◌, ◌++◌, length, refl, sym, ap, ◌∙◌, zero, suc, arith, Ordering}
use Rattle.std.specs.Prelude.{Option, Some, None, slice_get}
use Rattle.std.specs.Option.{option_or}
use Rattle.std.specs.Ordering.{nat_cmp, ordering_then, is_eq}
use Rattle.std.specs.declared.cmp.Ordering.TheVariants.{Less, Equal, Greater}
use Rattle.std.specs.BTreeMap.{BTreeMap, Updates, is_at}
use Rattle.std.proofs.lemmas.Bool.{ne_eqb}
use Rattle.std.proofs.lemmas.Bool.Decides.{nat_tests}
use Rattle.dg_cost_text.specs.declared.moment.Moment.{Moment}
use Rattle.dg_base.specs.declared.events.ImageVersion.{ImageVersion}
use Rattle.dg_moments.specs.declared.wholes.Whole.{Whole}
use Rattle.dg_moments.specs.declared.wholes.ImageAt.{ImageAt}
use Rattle.dg_moments.specs.Moments.{last_in, one_if}
use Rattle.dg_moments.specs.Wholes.{image_at_cmp, image_version_cmp, whole_cmp, kept_in, moment_in, all_in, AddsFirst}

eq_then : (a b : Ordering) → is_eq (ordering_then a b) ≡ (is_eq a && is_eq b)
eq_then Less b = refl
eq_then Equal b = refl
eq_then Greater b = refl

eq_nat : (a b : ℕ) → is_eq (nat_cmp a b) ≡ (a == b)
eq_nat a b = grind (arith, nat_tests)

both_are : (a b c d : Bool) → a ≡ b → c ≡ d → (a && c) ≡ (b && d)
both_are a b c d p q = cc

pub image_at_key : (m i n j : ℕ) → is_at (image_at_cmp (record { mote = m; image = i })) (record { mote = n; image = j }) ≡ ((m == n) && (i == j))
image_at_key m i n j = eq_then (nat_cmp m n) (nat_cmp i j) ∙ both_are _ _ _ _ (eq_nat m n) (eq_nat i j)

pub image_version_key : (i v j u : ℕ) → is_at (image_version_cmp (record { image = i; version = v })) (record { image = j; version = u }) ≡ ((i == j) && (v == u))
image_version_key i v j u = eq_then (nat_cmp i j) (nat_cmp v u) ∙ both_are _ _ _ _ (eq_nat i j) (eq_nat v u)

pub whole_key : (m i v t n j u s : ℕ) → is_at (whole_cmp (record { mote = m; image = i; version = v; times = t })) (record { mote = n; image = j; version = u; times = s })
    ≡ ((m == n) && ((i == j) && ((v == u) && (t == s))))
whole_key m i v t n j u s =
    eq_then (nat_cmp m n) (ordering_then (nat_cmp i j) (ordering_then (nat_cmp v u) (nat_cmp t s)))
    ∙ both_are _ _ _ _ (eq_nat m n) (eq_then (nat_cmp i j) (ordering_then (nat_cmp v u) (nat_cmp t s))
    ∙ both_are _ _ _ _ (eq_nat i j) (eq_then (nat_cmp v u) (nat_cmp t s) ∙ both_are _ _ _ _ (eq_nat v u) (eq_nat t s)))

pub kept_after : (before after : BTreeMap ImageAt ℕ) (mote image : ℕ) (o : Option ℕ) → Updates image_at_cmp before after (record { mote = mote; image = image }) o
    → (m i : ℕ) → kept_in after m i ≡ cond ((mote == m) && (image == i)) o (kept_in before m i)
kept_after before after mote image o h m i =
    h.0 (record { mote = m; image = i }) ∙ ap (λ (b : Bool). cond b o (kept_in before m i)) (image_at_key mote image m i)

pub moment_after : (before after : BTreeMap Whole Moment) (mote image version times : ℕ) (o : Option Moment)
    → Updates whole_cmp before after (record { mote = mote; image = image; version = version; times = times }) o
    → (m i v t : ℕ) → moment_in after m i v t ≡ cond ((mote == m) && ((image == i) && ((version == v) && (times == t)))) o (moment_in before m i v t)
moment_after before after mote image version times o h m i v t =
    h.0 (record { mote = m; image = i; version = v; times = t })
    ∙ ap (λ (b : Bool). cond b o (moment_in before m i v t)) (whole_key mote image version times m i v t)

pub all_after : (before after : BTreeMap ImageVersion Moment) (image version : ℕ) (o : Option Moment) → Updates image_version_cmp before after (record { image = image; version = version }) o
    → (i v : ℕ) → all_in after i v ≡ cond ((image == i) && (version == v)) o (all_in before i v)
all_after before after image version o h i v =
    h.0 (record { image = i; version = v }) ∙ ap (λ (b : Bool). cond b o (all_in before i v)) (image_version_key image version i v)

pub first_after : (before after : BTreeMap ImageVersion Moment) (image version : ℕ) (at : Moment) → AddsFirst before after (record { image = image; version = version }) at
    → (i v : ℕ) → all_in after i v ≡ cond ((image == i) && (version == v)) (option_or (all_in before i v) (Some at)) (all_in before i v)
first_after before after image version at h i v =
    h (record { image = i; version = v })
    ∙ ap (λ (b : Bool). cond b (option_or (all_in before i v) (Some at)) (all_in before i v)) (image_version_key image version i v)

-- ---- one more moment

pub get_push : {A : Type 0} (xs : List A) (x : A) (k : ℕ) → slice_get (xs ++ x ∷ []) k ≡ cond (length xs == k) (Some x) (slice_get xs k)
get_push [] x zero = refl
get_push {A} [] x (suc k) = ap (λ (b : Bool). cond {A = Option A} b (Some x) None) (sym (ne_eqb 0 (suc k) (λ e. omega (arith, e))))
get_push {A} (y ∷ xs) x zero = ap (λ (b : Bool). cond {A = Option A} b (Some x) (Some y)) (sym (ne_eqb (suc (length xs)) 0 (λ e. omega (arith, e))))
get_push {A} (y ∷ xs) x (suc k) = get_push xs x k ∙ ap (λ (b : Bool). cond {A = Option A} b (Some x) (slice_get xs k)) (same_suc (length xs) k)
  where
    same_suc : (m n : ℕ) → (m == n) ≡ (suc m == suc n)
    same_suc m n = grind (arith, nat_tests)

pub first_push : (xs : List Moment) (b : Bool) (at : Moment) → slice_get (xs ++ one_if b at) 0 ≡ cond b (option_or (slice_get xs 0) (Some at)) (slice_get xs 0)
first_push [] true at = refl
first_push [] false at = refl
first_push (x ∷ xs) true at = refl
first_push (x ∷ xs) false at = refl

pub no_more : (xs : List Moment) (b : Bool) (at : Moment) → b ≡ false → xs ++ one_if b at ≡ xs
no_more xs b at e = ap (λ (c : Bool). xs ++ one_if c at) e ∙ append_nil xs
  where
    append_nil : (ys : List Moment) → ys ++ [] ≡ ys
    append_nil [] = refl
    append_nil (y ∷ ys) = ap (λ (zs : List Moment). y ∷ zs) (append_nil ys)

last_at : (xs : List Moment) (at : Moment) (k : ℕ) → k ≡ length xs → slice_get (xs ++ at ∷ []) k ≡ Some at
last_at [] at k e = ap (λ (j : ℕ). slice_get (at ∷ []) j) e
last_at (x ∷ xs) at k e = ap (λ (j : ℕ). slice_get (x ∷ (xs ++ at ∷ [])) j) e ∙ last_at xs at (length xs) refl

length_push : (xs : List Moment) (at : Moment) → length (xs ++ at ∷ []) ≡ length xs + 1
length_push [] at = refl
length_push (x ∷ xs) at = omega (arith, length_push xs at)

pub last_push : (xs : List Moment) (b : Bool) (at : Moment) → last_in (xs ++ one_if b at) ≡ cond b (Some at) (last_in xs)
last_push xs true at = last_at xs at (length (xs ++ at ∷ []) - 1) (omega (arith, length_push xs at))
last_push xs false at = ap last_in (no_more xs false at refl)

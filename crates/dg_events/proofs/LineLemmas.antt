-- Among the lines of an event there is at most one `have` or `lost` line of an image, which tells how what is kept of it changed.
use Rattle.std.proofs.Common.{◌≡◌, ◌⊎◌, ℕ, zero, suc, ◌+◌, ◌<◌, ◌≤◌, ◌==◌, Bool, true, false, cond, List, [], ◌∷◌, ◌++◌, length, Option, Some, None, refl, sym, ap, subst, ◌∙◌, inl, inr, ⊎_elim, arith}
use Rattle.std.specs.List.{Contains, cons_option, count_by, filter, filter_map, range_with_len}
use Rattle.std.proofs.lemmas.Bool.{cases_eq, false_from_ne_true}
use Rattle.std.proofs.lemmas.Bool.Decides.{eqb_tells}
use Rattle.std.proofs.lemmas.List.{append-nil}
use Rattle.std.proofs.lemmas.List.Elements.{filter-append, Contains-append_left, Contains-append_right, Contains-append_cases, Contains-push_cases}
use Rattle.std.proofs.lemmas.List.Sums.{length-filter}
use Rattle.dg_control.specs.declared.snapshot.Order.{Order}
use Rattle.dg_mote.specs.Summary.{same_order}
use Rattle.dg_slot.specs.Kept.{Held}
use Rattle.dg_volume.specs.Sizes.{images}
use Rattle.dg_volume.specs.Start.{Runs}
use Rattle.dg_volume.specs.Store.{Store, held}
use Rattle.dg_frame.specs.declared.Message.{Message}
use Rattle.dg_frame.specs.declared.Message.TheVariants.{Advert, Request, Packet, Wide}
use Rattle.dg_rules.specs.Changes.{order_change, same_held, have_change, changes, start_line, sent_line, is_reported}
use Rattle.dg_script.specs.declared.report.Report.{Report}
use Rattle.dg_script.specs.declared.report.Report.TheVariants.{Order as OrderLine, Have, SentAdvert, SentRequest, SentData}
use Rattle.dg_events.specs.HaveLines.{is_held_line}

-- ---- elements of lists

nothing_there : {X : Type 0} (x : X) → Contains [] x → ⊥
nothing_there x has = let low = has.1 in absurd (omega (arith, low))

only : {X : Type 0} (x y : X) → Contains (x ∷ []) y → x ≡ y
only x y has = ⊎_elim (λ none. absurd (nothing_there y none)) (λ same. same) (Contains-push_cases [] x y has)

from_filter : {X : Type 0} (f : X → Bool) (xs : List X) (y : X) → Contains (filter f xs) y → Contains xs y
from_filter f [] y has = has
from_filter f (x ∷ xs) y has = by (from_filter f xs y) (f x) has
  where
    by : (Contains (filter f xs) y → Contains xs y) → (b : Bool) → Contains (cond b (x ∷ filter f xs) (filter f xs)) y → Contains (x ∷ xs) y
    by rest true has =
        ⊎_elim
        (λ first. Contains-append_left (x ∷ []) xs y first)
        (λ later. Contains-append_right (x ∷ []) xs y (rest later))
        (Contains-append_cases (x ∷ []) (filter f xs) y has)
    by rest false has = Contains-append_right (x ∷ []) xs y (rest has)

in_filter : {X : Type 0} (f : X → Bool) (xs : List X) (y : X) → f y ≡ true → Contains xs y → Contains (filter f xs) y
in_filter f [] y passes has = has
in_filter f (x ∷ xs) y passes has =
    ⊎_elim
    (λ first. subst (λ b. Contains (cond b (x ∷ filter f xs) (filter f xs)) y) (sym (ap f (only x y first) ∙ passes)) (Contains-append_left (x ∷ []) (filter f xs) y first))
    (λ later. by (f x) (in_filter f xs y passes later))
    (Contains-append_cases (x ∷ []) xs y has)
  where
    by : (b : Bool) → Contains (filter f xs) y → Contains (cond b (x ∷ filter f xs) (filter f xs)) y
    by true there = Contains-append_right (x ∷ []) (filter f xs) y there
    by false there = there

pub contrary : (b : Bool) → b ≡ true → b ≡ false → ⊥
contrary b p q = cc

-- what passes f is left by g
pub filter_through : {X : Type 0} (f g : X → Bool) → ((x : X) → f x ≡ true → g x ≡ true) → (xs : List X) → filter f (filter g xs) ≡ filter f xs
filter_through f g pass [] = refl
filter_through f g pass (x ∷ xs) = by (g x) refl (filter_through f g pass xs)
  where
    by : (b : Bool) → g x ≡ b → filter f (filter g xs) ≡ filter f xs → filter f (cond b (x ∷ filter g xs) (filter g xs)) ≡ cond (f x) (x ∷ filter f xs) (filter f xs)
    by true is rest = ap (λ ys. cond (f x) (x ∷ ys) ys) rest
    by false is rest = rest ∙ sym (ap (λ b. cond b (x ∷ filter f xs) (filter f xs)) (false_from_ne_true (f x) (λ passes. contrary (g x) (pass x passes) is)))

-- ---- one image

pub equal : (a b : ℕ) → a ≡ b → (a == b) ≡ true
equal a b e = elim (eqb_tells a b) [ inl t ↦ t.0 | inr f ↦ absurd (f.1 e) ]

pub apart : (a b : ℕ) → (a ≡ b → ⊥) → (a == b) ≡ false
apart a b e = elim (eqb_tells a b) [ inl t ↦ absurd (e t.1) | inr f ↦ f.0 ]

either_way : {X : Type 0} (b : Bool) (x : X) → x ≡ cond b x x
either_way true x = refl
either_way false x = refl

module _ (m i : ℕ) where
  -- the line of image j, and others after it
  one_line : (j : ℕ) (o n : Option Held) (rest : List Report)
      → filter (is_held_line i) (cons_option (have_change m j o n) rest) ≡ cond (j == i) (cons_option (have_change m j o n) (filter (is_held_line i) rest)) (filter (is_held_line i) rest)
  one_line j None None rest = either_way (j == i) (filter (is_held_line i) rest)
  one_line j (Some old) None rest = refl
  one_line j o (Some new) rest = by (same_held o new)
    where
      by : (b : Bool) → filter (is_held_line i) (cons_option (cond b None (Some (Have m j new.version (length new.complete)))) rest)
          ≡ cond (j == i) (cons_option (cond b None (Some (Have m j new.version (length new.complete)))) (filter (is_held_line i) rest)) (filter (is_held_line i) rest)
      by true = either_way (j == i) (filter (is_held_line i) rest)
      by false = refl

  module _ (old new : Store) where
    abbrev change : ℕ → Option Report
    change j = have_change m j (held old j) (held new j)

    abbrev lines_from : ℕ → ℕ → List Report
    lines_from a n = filter_map (λ (j : ℕ). have_change m j (held old j) (held new j)) (range_with_len a n)

    first_line : (b : Bool) (a n : ℕ) → (a == i) ≡ b
        → filter (is_held_line i) (lines_from a (suc n)) ≡ cond b (cons_option (change a) (filter (is_held_line i) (lines_from (a + 1) n))) (filter (is_held_line i) (lines_from (a + 1) n))
    first_line b a n is =
        one_line a (held old a) (held new a) (lines_from (a + 1) n)
        ∙ ap (λ (c : Bool). cond c (cons_option (change a) (filter (is_held_line i) (lines_from (a + 1) n))) (filter (is_held_line i) (lines_from (a + 1) n))) is

    -- images before this one, or after it
    outside : (a n : ℕ) → (i < a) ⊎ (a + n ≤ i) → filter (is_held_line i) (lines_from a n) ≡ []
    outside a zero off = refl
    outside a (suc n) off =
        first_line false a n (apart a i (⊎_elim (λ low e. omega (arith, low, e)) (λ high e. omega (arith, high, e)) off))
        ∙ outside (a + 1) n (⊎_elim (λ low. inl (omega (arith, low))) (λ high. inr (omega (arith, high))) off)

    inside : (a n : ℕ) → a ≤ i → i < a + n → filter (is_held_line i) (lines_from a n) ≡ cons_option (change i) []
    inside a zero low high = absurd (omega (arith, low, high))
    inside a (suc n) low high =
        ⊎_elim
        (λ same. first_line true a n (equal a i same) ∙ ap (cons_option (change a)) (outside (a + 1) n (inl (omega (arith, same)))) ∙ ap (λ (j : ℕ). cons_option (change j) []) same)
        (λ other. first_line false a n (apart a i other) ∙ inside (a + 1) n (omega (arith, low, other)) (omega (arith, high)))
        (cases_eq a i)

    -- ---- all lines

    order_quiet : (a b : Order) → filter (is_held_line i) (order_change m a b) ≡ []
    order_quiet a b = by (same_order a b)
      where
        by : (c : Bool) → filter (is_held_line i) (cond c [] (OrderLine m b.number b.image b.version ∷ [])) ≡ []
        by true = refl
        by false = refl

    changes_lines : filter (is_held_line i) (changes m old new) ≡ filter (is_held_line i) (lines_from 0 images)
    changes_lines =
        filter-append (is_held_line i) (order_change m old.order new.order) (lines_from 0 images)
        ∙ ap (λ (rs : List Report). rs ++ filter (is_held_line i) (lines_from 0 images)) (order_quiet old.order new.order)

    pub change_line : i < images → filter (is_held_line i) (changes m old new) ≡ cons_option (have_change m i (held old i) (held new i)) []
    change_line known = changes_lines ∙ inside 0 images (omega arith) (omega (arith, known))

    pub no_line : images ≤ i → filter (is_held_line i) (changes m old new) ≡ []
    no_line past = changes_lines ∙ outside 0 images (inr (omega (arith, past)))

  -- lines that follow and are of no image
  pub after_lines : (xs ys : List Report) → filter (is_held_line i) ys ≡ [] → filter (is_held_line i) (xs ++ ys) ≡ filter (is_held_line i) xs
  after_lines xs ys quiet =
      filter-append (is_held_line i) xs ys ∙ ap (λ (rs : List Report). filter (is_held_line i) xs ++ rs) quiet ∙ append-nil (filter (is_held_line i) xs)

  pub start_quiet : (o : Option Runs) → filter (is_held_line i) (start_line m o) ≡ []
  start_quiet None = refl
  start_quiet (Some r) = refl

  pub sent_quiet : (o : Option Message) → filter (is_held_line i) (sent_line m o) ≡ []
  sent_quiet None = refl
  sent_quiet (Some (Advert source entries order)) = refl
  sent_quiet (Some (Request source to image version page want)) = refl
  sent_quiet (Some (Packet source image version page packet bytes)) = refl
  sent_quiet (Some (Wide source entries order)) = refl

-- they are reported
held_reported : (i : ℕ) (b : Bool) (r : Report) → is_held_line i r ≡ true → is_reported b r ≡ true
held_reported i b (SentAdvert mote) is = absurd cc
held_reported i b (SentRequest mote to image version page count) is = absurd cc
held_reported i b (SentData mote image version page packet) is = absurd cc
held_reported i b r is = refl

pub reported_lines : (i : ℕ) (b : Bool) (rs : List Report) → filter (is_held_line i) (filter (is_reported b) rs) ≡ filter (is_held_line i) rs
reported_lines i b rs = filter_through (is_held_line i) (is_reported b) (held_reported i b) rs

-- ---- what such a filter says of the lines

module _ (f : Report → Bool) (rs : List Report) (o : Option Report) (is : filter f rs ≡ cons_option o []) where
  pub line_told : (r : Report) → o ≡ Some r → Contains rs r
  line_told r e = from_filter f rs r (subst (λ (xs : List Report). Contains xs r) (sym (is ∙ ap (λ (x : Option Report). cons_option x []) e)) (0, omega arith, refl))

  one_told : (x : Option Report) (r : Report) → Contains (cons_option x []) r → x ≡ Some r
  one_told None r has = absurd (nothing_there r has)
  one_told (Some y) r has = ap (λ (z : Report). Some z) (only y r has)

  pub line_is : (r : Report) → f r ≡ true → Contains rs r → o ≡ Some r
  line_is r passes has = one_told o r (subst (λ (xs : List Report). Contains xs r) is (in_filter f rs r passes has))

  count_is : count_by f rs ≡ length (cons_option o [])
  count_is = sym (length-filter f rs) ∙ ap length is

  one_at_most : (x : Option Report) → length (cons_option x []) ≤ 1
  one_at_most None = omega arith
  one_at_most (Some y) = omega arith

  pub line_once : count_by f rs ≤ 1
  line_once = let few = one_at_most o in let many = count_is in omega (arith, few, many)

  none_by : (x : Option Report) → length (cons_option x []) ≡ 0 → x ≡ None
  none_by None e = refl
  none_by (Some y) e = absurd (omega (arith, e))

  pub line_none : count_by f rs ≡ 0 → o ≡ None
  line_none e = none_by o (sym count_is ∙ e)

-- Lists of events, rests, and what free events keep, one after the other.
use Rattle.std.proofs.Common.{◌≡◌, ◌≢◌, ℕ, zero, suc, ◌<◌, true, ◌&&◌, ◌||◌, eqb, inl, inr, List, [], ◌∷◌, ◌++◌, length, replicate, refl, sym, ap, subst, ◌∙◌, arith}
use Rattle.std.specs.List.{AllByRecursion, list_any}
use Rattle.std.proofs.lemmas.Bool.{eqb-true, and_parts, or_cases}
use Rattle.dg_rules.specs.World.{World, linked}
use Rattle.dg_rules.specs.Premises.{WorldAgrees, LinkFits}
use Rattle.dg_rounds.specs.Rounds.{round, times, paced, passed}
use Rattle.dg_base.specs.declared.events.Event.{Event}
use Rattle.dg_completion.specs.Rests.{IsFree, HasRounds}
use Rattle.dg_completion.specs.Completion.{Follows, Grows, FreeLaw, newest}

-- ---- lists of events

pub all_append : {A : Type 0} (P : A → Type 0) (xs ys : List A) → AllByRecursion P xs → AllByRecursion P ys → AllByRecursion P (xs ++ ys)
all_append P [] ys a b = b
all_append P (x ∷ xs) ys a b = (a.0, all_append P xs ys a.1 b)

pub all_replicate : {A : Type 0} (P : A → Type 0) (n : ℕ) (x : A) → P x → AllByRecursion P (replicate n x)
all_replicate P zero x p = tt
all_replicate P (suc n) x p = (p, all_replicate P n x p)

pub all_times : {A : Type 0} (P : A → Type 0) (n : ℕ) (xs : List A) → AllByRecursion P xs → AllByRecursion P (times n xs)
unfolding times
all_times P zero xs a = tt
all_times P (suc n) xs a = all_append P xs (times n xs) a (all_times P n xs a)

pub round_free : (a b : ℕ) → AllByRecursion IsFree (round a b)
unfolding round
round_free a b =
    let tail : List Event = passed a b ∷ paced b ∷ passed b a ∷ times 48 (paced a ∷ passed a b ∷ []) in
    let three : AllByRecursion IsFree (replicate 3 (paced a) ++ tail) =
    all_append IsFree (replicate 3 (paced a)) tail (all_replicate IsFree 3 (paced a) refl) (refl, (refl, (refl, all_times IsFree 48 (paced a ∷ passed a b ∷ []) (refl, (refl, tt))))) in
    all_append IsFree (replicate 50 (paced a)) (replicate 50 (paced b) ++ (replicate 3 (paced a) ++ tail)) (all_replicate IsFree 50 (paced a) refl)
    (all_append IsFree (replicate 50 (paced b)) (replicate 3 (paced a) ++ tail) (all_replicate IsFree 50 (paced b) refl) three)

pub follows_split : (w v : World) (xs ys : List Event) → Follows w (xs ++ ys) v → (u : World) × Follows w xs u × Follows u ys v
unfolding Follows
follows_split w v [] ys f = (w, refl, f)
follows_split w v (x ∷ xs) ys f =
    let rest = follows_split f.0 v xs ys f.3 in (rest.0, (f.0, f.1, f.2, rest.1), rest.2)

pub all_map : {A : Type 0} (P Q : A → Type 0) (xs : List A) → ((x : A) → P x → Q x) → AllByRecursion P xs → AllByRecursion Q xs
all_map P Q [] f a = tt
all_map P Q (x ∷ xs) f a = (f x a.0, all_map P Q xs f a.1)

pub rounds_free : (rs : List (ℕ × ℕ)) (es : List Event) → HasRounds rs es → AllByRecursion IsFree es
unfolding HasRounds
rounds_free [] es h = h
rounds_free (r ∷ rs) es h =
    subst (AllByRecursion IsFree) (sym h.2)
    (all_append IsFree h.0 (round r.0 r.1 ++ h.1) h.3 (all_append IsFree (round r.0 r.1) h.1 (round_free r.0 r.1) (rounds_free rs h.1 h.4)))

-- ---- what every free event keeps

pub grows_none : (w : World) → WorldAgrees w → Grows w w
grows_none w g = record { good = g; table = refl; links = refl; narrow = refl; count = refl; on = λ m o. o; room = λ m. omega arith; pages = λ m row n. omega arith }

pub grows_then : (w u v : World) → Grows w u → Grows u v → Grows w v
grows_then w u v a b =
    record {
      good = b.good;
      table = b.table ∙ a.table;
      links = b.links ∙ a.links;
      narrow = b.narrow ∙ a.narrow;
      count = b.count ∙ a.count;
      on = λ m o. b.on m (a.on m o);
      room = λ m. omega (arith, a.room m, b.room m);
      pages = λ m row n. omega (arith, a.pages m row n, b.pages m row (ap (λ t. newest t row.image) a.table ∙ n));
    }

module _ (free : FreeLaw) where
  pub free_grows : (es : List Event) (w v : World) → WorldAgrees w → AllByRecursion IsFree es → Follows w es v → Grows w v
  unfolding Follows
  free_grows [] w v g all f = subst (Grows w) f (grows_none w g)
  free_grows (e ∷ es) w v g all f =
      let one = free w f.0 e f.1 g all.0 f.2 in
      grows_then w f.0 v one (free_grows es f.0 v one.good all.1 f.3)

-- ---- links

links_fit : (n a b : ℕ) (ls : List (ℕ × ℕ)) → AllByRecursion (LinkFits n) ls → list_any (λ (l : ℕ × ℕ). (eqb l.0 a && eqb l.1 b) || (eqb l.0 b && eqb l.1 a)) ls ≡ true → (a < n) × (b < n) × (a ≢ b)
links_fit n a b [] all e = absurd cc
links_fit n a b (l ∷ ls) all e = elim (or_cases ((eqb l.0 a && eqb l.1 b) || (eqb l.0 b && eqb l.1 a)) _ e) [
  | inr more ↦ links_fit n a b ls all.1 more
  | inl here ↦ elim (or_cases (eqb l.0 a && eqb l.1 b) (eqb l.0 b && eqb l.1 a) here) [
    | inl to ↦
        let parts = and_parts (eqb l.0 a) (eqb l.1 b) to in
        let x = eqb-true l.0 a parts.0 in
        let y = eqb-true l.1 b parts.1 in
        (subst (λ k. k < n) x all.0.first, subst (λ k. k < n) y all.0.second, λ e. all.0.two (x ∙ e ∙ sym y))
    | inr back ↦
        let parts = and_parts (eqb l.0 b) (eqb l.1 a) back in
        let x = eqb-true l.0 b parts.0 in
        let y = eqb-true l.1 a parts.1 in
        (subst (λ k. k < n) y all.0.second, subst (λ k. k < n) x all.0.first, λ e. all.0.two (x ∙ sym e ∙ sym y))
  ]
]

-- neighbours are two motes of the world
pub link_ends : (w : World) (a b : ℕ) → WorldAgrees w → linked w a b ≡ true → (a < length w.sites) × (b < length w.sites) × (a ≢ b)
link_ends w a b good e = links_fit (length w.sites) a b w.links good.links e

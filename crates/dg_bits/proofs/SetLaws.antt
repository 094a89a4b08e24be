-- What the definitions on sets of numbers say of one number, and two sets with the same numbers.
use Rattle.std.proofs.Common.{◌≡◌, ℕ, ◌+◌, ◌<◌, ◌≤◌, Bool, true, false, not, ◌&&◌, ◌||◌, cond, List, [], ◌∷◌, Option, Some, None, MatchOption, eqb, leb, ltb, refl, sym, ap, ◌∙◌, min, inl, inr, arith}
use Rattle.std.proofs.lemmas.Bool.{cases_lt, lt-ltb, or_cases, or_right, both_ways, eqb-true, false≢true}
use Rattle.std.proofs.lemmas.Bool.Decides.{nat_tests}
use Rattle.std.specs.Cmp.{nat_cmp_total, nat_eq_equiv, unsigned_tied}
use Rattle.std.specs.List.{list_any}
use Rattle.std.specs.Ordering.{nat_cmp, eq_by_cmp}
use Rattle.std.specs.FinSet as set
use Rattle.dg_bits.specs.Sets.{Numbers, below, AllBelow, IsLeast, smaller, smallest, least}
pub use Rattle.dg_bits.specs.ModelLaws.{same_numbers, any_in_range}

pub contains-none : (q : ℕ) → set.contains (set.empty {R = nat_cmp}) q ≡ false
contains-none q = set.contains-empty nat_cmp q

pub contains-put : (s : Numbers) (k q : ℕ) → set.contains (set.insert s k) q ≡ (eqb q k || set.contains s q)
contains-put s k q = set.contains-insert nat_cmp_total s k q ∙ ap (λ b. b || set.contains s q) (unsigned_tied q k)

pub contains-without : (s : Numbers) (k q : ℕ) → set.contains (set.remove s k) q ≡ (not (eqb q k) && set.contains s q)
contains-without s k q = set.contains-remove nat_cmp_total s k q ∙ ap (λ b. not b && set.contains s q) (unsigned_tied q k)

pub contains-both : (s t : Numbers) (q : ℕ) → set.contains (set.union s t) q ≡ (set.contains s q || set.contains t q)
contains-both s t q = set.contains-union nat_cmp_total s t q

pub contains-less : (s t : Numbers) (q : ℕ) → set.contains (set.difference s t) q ≡ (set.contains s q && not (set.contains t q))
contains-less s t q = set.contains-difference nat_cmp_total s t q

-- ---- the numbers below n

from_zero : (n q : ℕ) → (leb 0 q && ltb q (0 + n)) ≡ ltb q n
from_zero n q = grind (arith, nat_tests)

pub contains-below : (n q : ℕ) → set.contains (below n) q ≡ ltb q n
unfolding below
contains-below n q = set.contains-from_list_nat _ q ∙ any_in_range 0 n q ∙ from_zero n q

one_more : (n q : ℕ) → (eqb q n || ltb q n) ≡ ltb q (n + 1)
one_more n q = grind (arith, nat_tests)

pub below_more : (n : ℕ) → set.insert (below n) n ≡ below (n + 1)
below_more n = same_numbers _ _ (λ q. contains-put (below n) n q ∙ ap (λ b. eqb q n || b) (contains-below n q) ∙ one_more n q ∙ sym (contains-below (n + 1) q))

pub below_none : below 0 ≡ set.empty
unfolding below
below_none = refl

-- ---- counting up

-- the numbers of the set that are below n
unfoldable pub up_to : Numbers → ℕ → Numbers
up_to s n = set.intersection s (below n)

contains-up_to : (s : Numbers) (n q : ℕ) → set.contains (up_to s n) q ≡ (set.contains s q && ltb q n)
unfolding up_to
contains-up_to s n q = set.contains-intersection nat_cmp_total s (below n) q ∙ ap (λ b. set.contains s q && b) (contains-below n q)

pub up_to-none : (s : Numbers) → up_to s 0 ≡ set.empty
up_to-none s = same_numbers _ _ (λ q. contains-up_to s 0 q ∙ none_below (set.contains s q) q ∙ sym (contains-none q))
  where
    none_below : (b : Bool) (q : ℕ) → (b && ltb q 0) ≡ false
    none_below b q = grind (arith, nat_tests)

pub up_to-all : (s : Numbers) (n : ℕ) → AllBelow n s → up_to s n ≡ s
up_to-all s n fits = same_numbers _ _ (λ q. contains-up_to s n q ∙ all_below (set.contains s q) q (fits q))
  where
    all_below : (b : Bool) (q : ℕ) → (b ≡ true → q < n) → (b && ltb q n) ≡ b
    all_below true q h = lt-ltb q n (h refl)
    all_below false q h = refl

more_in : (b : Bool) (n q : ℕ) → (q ≡ n → b ≡ true) → (b && ltb q (n + 1)) ≡ (eqb q n || (b && ltb q n))
more_in b n q h = grind (arith, nat_tests)

more_out : (b : Bool) (n q : ℕ) → (q ≡ n → b ≡ false) → (b && ltb q (n + 1)) ≡ (b && ltb q n)
more_out b n q h = grind (arith, nat_tests)

not_itself : (b : Bool) (n : ℕ) → (b && ltb n n) ≡ false
not_itself b n = grind (arith, nat_tests)

-- one more number is in the set, and adds to the count
pub len-up_to_in : (s : Numbers) (n : ℕ) → set.contains s n ≡ true → set.len (up_to s (n + 1)) ≡ set.len (up_to s n) + 1
len-up_to_in s n is =
    ap set.len (same_numbers (up_to s (n + 1)) (set.insert (up_to s n) n) (λ q.
    contains-up_to s (n + 1) q
    ∙ more_in (set.contains s q) n q (λ e. ap (set.contains s) e ∙ is)
    ∙ ap (λ b. eqb q n || b) (sym (contains-up_to s n q))
    ∙ sym (contains-put (up_to s n) n q)))
    ∙ set.len-insert nat_cmp_total (up_to s n) n
    ∙ ap (λ b. cond b (set.len (up_to s n)) (set.len (up_to s n) + 1)) (contains-up_to s n n ∙ not_itself (set.contains s n) n)

-- or it is not, and adds nothing
pub len-up_to_out : (s : Numbers) (n : ℕ) → set.contains s n ≡ false → set.len (up_to s (n + 1)) ≡ set.len (up_to s n)
len-up_to_out s n is =
    ap set.len (same_numbers (up_to s (n + 1)) (up_to s n) (λ q.
    contains-up_to s (n + 1) q
    ∙ more_out (set.contains s q) n q (λ e. ap (set.contains s) e ∙ is)
    ∙ sym (contains-up_to s n q)))

-- ---- the least number

-- x is in the list, and nothing smaller is
record IsSmallest (xs : List ℕ) (x : ℕ) : Type 0 where
  found : list_any (λ y. eqb y x) xs ≡ true
  bound : (q : ℕ) → list_any (λ y. eqb y q) xs ≡ true → x ≤ q

self_found : (x : ℕ) (b : Bool) → (eqb x x || b) ≡ true
self_found x b = grind (arith, nat_tests)

one_bound : (x q : ℕ) (b : Bool) → b ≡ false → (eqb x q || b) ≡ true → x ≤ q
one_bound x q b none h = elim (or_cases (eqb x q) b h) [ inl e ↦ omega (arith, eqb-true x q e) | inr e ↦ absurd (both_ways b none e) ]

more_found : (x y : ℕ) (test : ℕ → Bool) → test y ≡ true → (eqb x (min x y) || test (min x y)) ≡ true
more_found x y test h =
    elim (cases_lt x y) [
      | inl less ↦ let e : min x y ≡ x = omega arith in rw e (self_found x (test x))
      | inr more ↦ let e : min x y ≡ y = omega arith in rw e (or_right _ _ h)
    ]

more_bound : (x y q : ℕ) (b : Bool) → (b ≡ true → y ≤ q) → (eqb x q || b) ≡ true → min x y ≤ q
more_bound x y q b bound h = elim (or_cases (eqb x q) b h) [ inl e ↦ omega (arith, eqb-true x q e) | inr e ↦ omega (arith, bound e) ]

smallest_step : (x : ℕ) (xs : List ℕ) (o : Option ℕ) → MatchOption o (xs ≡ []) (IsSmallest xs) → IsSmallest (x ∷ xs) (smaller x o)
smallest_step x xs None none =
    record {
      found = self_found x _;
      bound = λ q. one_bound x q _ (ap (list_any (λ y. eqb y q)) none);
    }
smallest_step x xs (Some y) s =
    record {
      found = more_found x y (λ z. list_any (λ w. eqb w z) xs) s.found;
      bound = λ q. more_bound x y q _ (s.bound q);
    }

smallest_cases : (xs : List ℕ) → MatchOption (smallest xs) (xs ≡ []) (IsSmallest xs)
smallest_cases [] = refl
smallest_cases (x ∷ xs) = smallest_step x xs (smallest xs) (smallest_cases xs)

-- the items of a set, as its numbers
listed_by : (xs : List ℕ) (q : ℕ) → list_any (eq_by_cmp nat_cmp q) xs ≡ list_any (λ y. eqb y q) xs
listed_by [] q = refl
listed_by (x ∷ xs) q = (λ i. (unsigned_tied q x ∙ nat_eq_equiv.symm q x) i || listed_by xs q i)

contains-listed : (s : Numbers) (q : ℕ) → set.contains s q ≡ list_any (λ y. eqb y q) (set.items s)
contains-listed s q = set.contains-items s q ∙ listed_by (set.items s) q

no_items : (s : Numbers) → set.items s ≡ [] → s ≡ set.empty
no_items s e = same_numbers _ _ (λ q. contains-listed s q ∙ ap (list_any (λ y. eqb y q)) e ∙ sym (contains-none q))

least_from : (s : Numbers) (o : Option ℕ) → MatchOption o (set.items s ≡ []) (IsSmallest (set.items s)) → MatchOption o (s ≡ set.empty) (IsLeast s)
least_from s None e = no_items s e
least_from s (Some n) h =
    record { member = contains-listed s n ∙ h.found; no_smaller = λ q in_set. h.bound q (sym (contains-listed s q) ∙ in_set) }

-- the least number is in the set with nothing smaller, and only the empty set has no least number
pub least_cases : (s : Numbers) → MatchOption (least s) (s ≡ set.empty) (IsLeast s)
unfolding least
least_cases s = least_from s (smallest (set.items s)) (smallest_cases (set.items s))

only_least : (s : Numbers) (n : ℕ) (o : Option ℕ) → IsLeast s n → MatchOption o (s ≡ set.empty) (IsLeast s) → o ≡ Some n
only_least s n None l e = absurd (false≢true (sym (contains-none n) ∙ ap (λ t. set.contains t n) (sym e) ∙ l.member))
only_least s n (Some m) l k =
    let e : m ≡ n = omega (arith, l.no_smaller m k.member, k.no_smaller n l.member) in
    ap (λ x. Some x) e

pub least_is : (s : Numbers) (n : ℕ) → IsLeast s n → least s ≡ Some n
least_is s n l = only_least s n (least s) l (least_cases s)

none_least : (o : Option ℕ) → MatchOption o (set.empty {R = nat_cmp} ≡ set.empty) (IsLeast set.empty) → o ≡ None
none_least None e = refl
none_least (Some n) l = absurd (false≢true (sym (contains-none n) ∙ l.member))

pub least-none : least set.empty ≡ None
least-none = none_least (least set.empty) (least_cases set.empty)

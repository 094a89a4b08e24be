-- The images that an advert names, one after the other.
use Rattle.std.proofs.Common.{◌≡◌, ℕ, zero, suc, ◌+◌, ◌<◌, ◌≤◌, Bool, true, false, ◌&&◌, ◌||◌, cond, List, length, Option, Some, None, refl, sym, ap, ◌∙◌, inl, inr, arith}
use Rattle.std.specs.Prelude.{◌==◌, nat_lt, nat_le}
use Rattle.std.specs.List.{find, list_all, range_with_len}
use Rattle.std.proofs.lemmas.Bool.{cases_eq, cases_lt, and_from, and_parts}
use Rattle.std.proofs.lemmas.Bool.Decides.{nat_tests}
use Rattle.dg_nor.specs.Trail.{last, last_of, resting}
use Rattle.dg_slot.specs.Kept.{Held}
use Rattle.dg_frame.specs.declared.Entry.{Entry}
use Rattle.dg_control.specs.declared.snapshot.Order.{Order}
use Rattle.dg_volume.specs.Store.{Store, held}
use Rattle.dg_volume.specs.Trails.{order_trail}
use Rattle.dg_mote.specs.Summary.{entry_for, entry_by, same_entry, same_order, own_order, named, is_own, advertiser_ahead, ahead_in}
use Rattle.dg_mote.specs.Adverts.{better_trail}
use Rattle.dg_mote.proofs.ServeLemmas.{chosen, passed}

-- what is found among the n numbers from a on
found_from : (p : ℕ → Bool) (n a k : ℕ) → a ≤ k → k < a + n → ((j : ℕ) → a ≤ j → j < k → p j ≡ false) → p k ≡ true → find p (range_with_len a n) ≡ Some k
found_from p zero a k low high before is = absurd (omega (arith, low, high))
found_from p (suc n) a k low high before is = elim (cases_lt a k) [
  | inl less ↦
      passed (p a) _ _ (before a (omega arith) less)
      ∙ found_from p n (a + 1) k (omega (arith, less)) (omega (arith, high)) (λ j from to. before j (omega (arith, from)) to) is
  | inr past ↦ let e : a ≡ k = omega (arith, past, low) in chosen (p a) _ _ (ap p e ∙ is) ∙ ap Some e
]

none_from : (p : ℕ → Bool) (n a : ℕ) → ((j : ℕ) → a ≤ j → j < a + n → p j ≡ false) → find p (range_with_len a n) ≡ None
none_from p zero a out = refl
none_from p (suc n) a out = passed (p a) _ _ (out a (omega arith) (omega arith)) ∙ none_from p n (a + 1) (λ j from to. out j (omega (arith, from)) (omega (arith, to)))

all_from : (p : ℕ → Bool) (n a : ℕ) → ((j : ℕ) → a ≤ j → j < a + n → p j ≡ true) → list_all p (range_with_len a n) ≡ true
all_from p zero a hold = refl
all_from p (suc n) a hold = and_from (p a) _ (hold a (omega arith) (omega arith)) (all_from p n (a + 1) (λ j from to. hold j (omega (arith, from)) (omega (arith, to))))

not_all_from : (p : ℕ → Bool) (n a k : ℕ) → a ≤ k → k < a + n → p k ≡ false → list_all p (range_with_len a n) ≡ false
not_all_from p zero a k low high out = absurd (omega (arith, low, high))
not_all_from p (suc n) a k low high out = elim (cases_eq a k) [
  | inl e ↦ ap (λ x. x && list_all p (range_with_len (a + 1) n)) (ap p e ∙ out)
  | inr other ↦ either (p a) _ (not_all_from p n (a + 1) k (omega (arith, low, other)) (omega (arith, high)) out)
]
  where
    either : (b c : Bool) → c ≡ false → (b && c) ≡ false
    either true c e = e
    either false c e = refl

-- ---- the lowest image in which an advertiser is ahead

pub ahead_found : (entries : List Entry) (s : Store) (i : ℕ) → 1 ≤ i → i ≤ length entries → ((j : ℕ) → 1 ≤ j → j < i → advertiser_ahead (entry_for entries j) (held s j) ≡ false) → advertiser_ahead (entry_for entries i) (held s i) ≡ true → ahead_in entries s ≡ Some i
unfolding ahead_in
ahead_found entries s i low high before is = found_from (λ j. advertiser_ahead (entry_for entries j) (held s j)) (length entries) 1 i low (omega (arith, high)) before is

pub ahead_none : (entries : List Entry) (s : Store) → ((j : ℕ) → 1 ≤ j → j ≤ length entries → advertiser_ahead (entry_for entries j) (held s j) ≡ false) → ahead_in entries s ≡ None
unfolding ahead_in
ahead_none entries s out = none_from (λ j. advertiser_ahead (entry_for entries j) (held s j)) (length entries) 1 (λ j from to. out j from (omega (arith, to)))

-- ---- whether an advert is what a mote would advertise

abbrev is_said : List Entry → Store → ℕ → Bool
is_said entries s = λ i. same_entry (entry_for entries i) (entry_by (held s i))

pub own_entries : (entries : List Entry) (order : Order) (wide : Bool) (s : Store) → ((j : ℕ) → 1 ≤ j → j ≤ length entries → same_entry (entry_for entries j) (entry_by (held s j)) ≡ true) → is_own entries order wide s ≡ same_order order (own_order wide s)
unfolding is_own
own_entries entries order wide s hold = ap (λ b. b && same_order order (own_order wide s)) (all_from (is_said entries s) (length entries) 1 (λ j from to. hold j from (omega (arith, to))))

pub other_entries : (entries : List Entry) (order : Order) (wide : Bool) (s : Store) (k : ℕ) → 1 ≤ k → k ≤ length entries → same_entry (entry_for entries k) (entry_by (held s k)) ≡ false → is_own entries order wide s ≡ false
unfolding is_own
other_entries entries order wide s k low high out = ap (λ b. b && same_order order (own_order wide s)) (not_all_from (is_said entries s) (length entries) 1 k low (omega (arith, high)) out)

-- ---- the advertiser of an equal advert is ahead in no image

-- each of the n numbers from a on passes, if all do
each_from : (p : ℕ → Bool) (n a k : ℕ) → list_all p (range_with_len a n) ≡ true → a ≤ k → k < a + n → p k ≡ true
each_from p zero a k hold low high = absurd (omega (arith, low, high))
each_from p (suc n) a k hold low high =
    let both = and_parts (p a) (list_all p (range_with_len (a + 1) n)) hold in
    elim (cases_eq a k) [
      | inl e ↦ ap p (sym e) ∙ both.0
      | inr other ↦ each_from p n (a + 1) k both.1 (omega (arith, low, other)) (omega (arith, high))
    ]

level : (e : Entry) (o : Option Held) → same_entry e (entry_by o) ≡ true → advertiser_ahead e o ≡ false
level e None same = none e.version e.pages e.have e.crc same
  where
    none : (v p h c : ℕ) → (v == 0) && (p == 0) && (h == 0) && (c == 0) ≡ true → nat_le 1 h ≡ false
    none v p h c t = grind (arith, nat_tests)
level e (Some h) same = alike h.version e.version h.pages e.pages h.crc e.crc (length h.complete) e.have same
  where
    alike : (a b x y u v n k : ℕ) → (b == a) && (y == x) && (k == n) && (v == u) ≡ true → nat_le 1 k && (nat_lt a b || ((b == a) && (y == x) && (v == u) && nat_lt n k)) ≡ false
    alike a b x y u v n k t = grind (arith, nat_tests)

-- a better order changes nothing of what is kept of images
better_keeps : (s : Store) (order : Order) (i : ℕ) → held (last (better_trail s order)) i ≡ held s i
unfolding better_trail last_of
better_keeps s order i = by_test (nat_lt s.order.number order.number && nat_le 1 s.room)
  where
    by_test : (b : Bool) → held (last (cond b (order_trail s order) (resting s 0))) i ≡ held s i
    by_test true = refl
    by_test false = refl

pub own_is_level : (entries : List Entry) (order : Order) (wide : Bool) (s : Store) → is_own entries order wide s ≡ true → ahead_in entries (last (better_trail s order)) ≡ None
unfolding is_own
own_is_level entries order wide s own =
    let says : list_all (is_said entries s) (named entries) ≡ true = (and_parts (list_all (is_said entries s) (named entries)) _ own).0 in
    ahead_none entries (last (better_trail s order)) (λ j low high.
    ap (advertiser_ahead (entry_for entries j)) (better_keeps s order j)
    ∙ level (entry_for entries j) (held s j) (each_from (is_said entries s) (length entries) 1 j says low (omega (arith, high))))

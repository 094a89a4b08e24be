-- What holds of every history of a serving.
use Rattle.std.specs.Prelude.{◌≡◌, ℕ, ◌+◌, ◌≤◌, Bool, true, false, not, ◌&&◌, ◌||◌, nat_lt, if◌then◌else◌, Option, None, Some, MatchOption, List, [], ◌∷◌}
use Rattle.std.proofs.Common.{eqb, refl, sym, ap, subst, ◌∙◌, inl, inr, arith}
use Rattle.std.proofs.lemmas.Bool.{cases_eq, cases_lt, eq-eqb, ne_eqb, lt-ltb, or_right}
use Rattle.std.specs.FinSet as set
use Rattle.dg_bits.specs.Sets.{Numbers, IsLeast, least}
use Rattle.dg_bits.proofs.SetLaws.{same_numbers, contains-none, contains-put, contains-without, contains-both, least_cases}
use Rattle.dg_send.specs.declared.Serve.TheVariants.{Send, Done}
use Rattle.dg_send.specs.Times.{packet_gap}
use Rattle.dg_send.specs.Owed.{Owed}
use Rattle.dg_send.specs.Steps.{serve_by, serve_of, next_by, after_next}
use Rattle.dg_send.specs.Histories.{ServeCall, Asks, Next, owed, all_asked, sent_by, sent, names, times_asked, packets_sent, times_sent}

-- ---- what was sent and what is left make what was asked for

union-none : (s : Numbers) → set.union set.empty s ≡ s
union-none s = same_numbers _ _ (λ q. contains-both set.empty s q ∙ ap (λ b. b || set.contains s q) (contains-none q))

union-none_right : (s : Numbers) → set.union s set.empty ≡ s
union-none_right s =
    same_numbers _ _ (λ q. contains-both s set.empty q ∙ ap (λ b. set.contains s q || b) (contains-none q) ∙ or_false (set.contains s q))
  where
    or_false : (b : Bool) → (b || false) ≡ b
    or_false true = refl
    or_false false = refl

or_assoc : (a b c : Bool) → (a || (b || c)) ≡ ((a || b) || c)
or_assoc true b c = refl
or_assoc false b c = refl

union-assoc : (s t u : Numbers) → set.union s (set.union t u) ≡ set.union (set.union s t) u
union-assoc s t u =
    same_numbers _ _ (λ q.
    contains-both s (set.union t u) q
    ∙ ap (λ b. set.contains s q || b) (contains-both t u q)
    ∙ or_assoc (set.contains s q) (set.contains t q) (set.contains u q)
    ∙ ap (λ b. b || set.contains u q) (sym (contains-both s t q))
    ∙ sym (contains-both (set.union s t) u q))

-- the lowest packet moves from what is left to what was sent
moved : (before left : ℕ → Bool) (p q : ℕ) → left p ≡ true → ((eqb q p || before q) || (not (eqb q p) && left q)) ≡ (before q || left q)
moved before left p q in_left =
    elim (cases_eq q p) [
      | inl e ↦
          ap (λ b. (b || before q) || (not b && left q)) (eq-eqb q p e) ∙ sym (or_right (before q) (left q) (ap left e ∙ in_left))
      | inr ne ↦ ap (λ b. (b || before q) || (not b && left q)) (ne_eqb q p ne)
    ]

union-moved : (before left : Numbers) (p : ℕ) → set.contains left p ≡ true → set.union (set.insert before p) (set.remove left p) ≡ set.union before left
union-moved before left p in_left =
    same_numbers _ _ (λ q.
    contains-both (set.insert before p) (set.remove left p) q
    ∙ (λ i. contains-put before p q i || contains-without left p q i)
    ∙ moved (set.contains before) (set.contains left) p q in_left
    ∙ sym (contains-both before left q))

union-next : (first : Option ℕ) (early : Bool) (o : Owed) (moment : ℕ) (before : Numbers) → MatchOption first (o.left ≡ set.empty) (IsLeast o.left)
    → set.union (sent_by (serve_by first early) before) (next_by first early o moment).left ≡ set.union before o.left
union-next None early o moment before l = refl
union-next (Some p) true o moment before l = refl
union-next (Some p) false o moment before l = union-moved before o.left p l.member

pub sent_and_left : (start : ℕ) (first : Numbers) (calls : List ServeCall) → set.union (sent start first calls) (owed start first calls).left ≡ all_asked first calls
sent_and_left start first [] = union-none first
sent_and_left start first (Asks want ∷ earlier) =
    union-assoc (sent start first earlier) (owed start first earlier).left want ∙ ap (λ s. set.union s want) (sent_and_left start first earlier)
sent_and_left start first (Next moment ∷ earlier) =
    let o = owed start first earlier in
    union-next (least o.left) (nat_lt moment o.due) o moment (sent start first earlier) (least_cases o.left) ∙ sent_and_left start first earlier

done_empty : (first : Option ℕ) (early : Bool) (left : Numbers) → MatchOption first (left ≡ set.empty) (IsLeast left) → serve_by first early ≡ Done → left ≡ set.empty
done_empty None early left l e = l
done_empty (Some p) true left l e = cc
done_empty (Some p) false left l e = cc

-- if nothing is left to do, what was sent is the union of the requests
pub done_sent_all : (start : ℕ) (first : Numbers) (earlier : List ServeCall) (moment : ℕ) → serve_of (owed start first earlier) moment ≡ Done → sent start first earlier ≡ all_asked first earlier
done_sent_all start first earlier moment e =
    let o = owed start first earlier in
    sym (ap (set.union (sent start first earlier)) (done_empty (least o.left) (nat_lt moment o.due) o.left (least_cases o.left) e) ∙ union-none_right (sent start first earlier))
    ∙ sent_and_left start first earlier

-- ---- the lowest first, and each once

sends_least : (first : Option ℕ) (early : Bool) (left : Numbers) (p : ℕ) → MatchOption first (left ≡ set.empty) (IsLeast left) → serve_by first early ≡ Send p → IsLeast left p
sends_least None early left p l e = cc
sends_least (Some q) true left p l e = cc
sends_least (Some q) false left p l e = let same : q ≡ p = cc in subst (IsLeast left) same l

pub least_first : (start : ℕ) (first : Numbers) (earlier : List ServeCall) (moment packet : ℕ) → serve_of (owed start first earlier) moment ≡ Send packet → IsLeast (owed start first earlier).left packet
least_first start first earlier moment packet e =
    let o = owed start first earlier in
    sends_least (least o.left) (nat_lt moment o.due) o.left packet (least_cases o.left) e

names-union : (s t : Numbers) (p : ℕ) → names (set.union s t) p ≤ names s p + names t p
names-union s t p = rw (contains-both s t p) (count_either (set.contains s p) (set.contains t p))
  where
    count_either : (a b : Bool) → (if a || b then 1 else 0) ≤ (if a then 1 else 0) + (if b then 1 else 0)
    count_either true b = omega arith
    count_either false b = omega arith

count_moved : (p q : ℕ) (left : ℕ → Bool) → left q ≡ true → (if eqb p q then 1 else 0) + (if not (eqb p q) && left p then 1 else 0) ≤ (if left p then 1 else 0)
count_moved p q left in_left =
    elim (cases_eq p q) [
      | inl e ↦ rw (eq-eqb p q e, ap left e ∙ in_left) (omega arith)
      | inr ne ↦ rw (ne_eqb p q ne) (omega arith)
    ]

names-next : (first : Option ℕ) (early : Bool) (o : Owed) (moment p : ℕ) → MatchOption first (o.left ≡ set.empty) (IsLeast o.left)
    → packets_sent (serve_by first early) p + names (next_by first early o moment).left p ≤ names o.left p
names-next None early o moment p l = omega arith
names-next (Some q) true o moment p l = omega arith
names-next (Some q) false o moment p l =
    rw (contains-without o.left q p) (count_moved p q (set.contains o.left) l.member)

-- a packet was sent at most as often as it was requested, and once less if it is still left
pub sent_or_left : (start : ℕ) (first : Numbers) (calls : List ServeCall) (p : ℕ) → times_sent start first calls p + names (owed start first calls).left p ≤ times_asked first calls p
sent_or_left start first [] p = omega arith
sent_or_left start first (Asks want ∷ earlier) p =
    omega (arith, names-union (owed start first earlier).left want p, sent_or_left start first earlier p)
sent_or_left start first (Next moment ∷ earlier) p =
    let o = owed start first earlier in
    omega (arith, names-next (least o.left) (nat_lt moment o.due) o moment p (least_cases o.left), sent_or_left start first earlier p)

pub each_once : (start : ℕ) (first : Numbers) (calls : List ServeCall) (p : ℕ) → times_sent start first calls p ≤ times_asked first calls p
each_once start first calls p = omega (arith, sent_or_left start first calls p)

-- ---- the gap

due_after : (first : Option ℕ) (early : Bool) (o : Owed) (moment p : ℕ) → serve_by first early ≡ Send p → (next_by first early o moment).due ≡ moment + packet_gap
due_after None early o moment p e = cc
due_after (Some q) true o moment p e = cc
due_after (Some q) false o moment p e = refl

early_sends_nothing : (first : Option ℕ) (early : Bool) (p : ℕ) → early ≡ true → serve_by first early ≡ Send p → ⊥
early_sends_nothing None early p is e = cc
early_sends_nothing (Some q) true p is e = cc
early_sends_nothing (Some q) false p is e = cc

-- two packets are at least a gap apart
pub gap_between : (o : Owed) (moment later p q : ℕ) → serve_of o moment ≡ Send p → serve_of (after_next o moment) later ≡ Send q → moment + packet_gap ≤ later
gap_between o moment later p q first second =
    let n = after_next o moment in
    elim (cases_lt later n.due) [
      | inl h ↦ absurd (early_sends_nothing (least n.left) (nat_lt later n.due) q (lt-ltb later n.due h) second)
      | inr h ↦ omega (arith, due_after (least o.left) (nat_lt moment o.due) o moment p first)
    ]

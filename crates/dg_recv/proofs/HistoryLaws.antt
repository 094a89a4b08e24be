-- What holds of every history of a reception.
use Rattle.std.specs.Prelude.{◌≡◌, ℕ, ◌+◌, ◌≤◌, Bool, true, false, not, ◌&&◌, ◌||◌, nat_le, nat_lt, if◌then◌else◌, List, [], ◌∷◌}
use Rattle.std.proofs.Common.{eqb, refl, sym, ap, ◌∙◌, inl, inr, arith}
use Rattle.std.proofs.lemmas.Bool.{cases_eq, cond_both, eq-eqb, ne_eqb, leb-true, leb-false, or_left}
use Rattle.std.specs.FinSet as set
use Rattle.dg_bits.specs.Sets.{Numbers, below}
use Rattle.dg_bits.proofs.SetLaws.{same_numbers, contains-put, contains-less}
use Rattle.dg_recv.specs.declared.Ask.TheVariants.{Request, GiveUp, Wait}
use Rattle.dg_object.specs.Sizes.{packets}
use Rattle.dg_recv.specs.Times.{most_requests, next_wait}
use Rattle.dg_recv.specs.Reception.{Reception}
use Rattle.dg_recv.specs.Steps.{missing, ask_of, after_ask, after_accept}
use Rattle.dg_recv.specs.Histories.{ReceptionCall, Next, Comes, reception_after, came_in, request_count, requests}

-- ---- what was accepted is what came in

put_known : (q k : ℕ) (test : ℕ → Bool) → test k ≡ true → (eqb q k || test q) ≡ test q
put_known q k test known =
    elim (cases_eq q k) [
      | inl e ↦ or_left _ _ (eq-eqb q k e) ∙ sym (ap test e ∙ known)
      | inr ne ↦ ap (λ b. b || test q) (ne_eqb q k ne)
    ]

insert-known : (s : Numbers) (k : ℕ) → set.contains s k ≡ true → s ≡ set.insert s k
insert-known s k known =
    same_numbers _ _ (λ q. sym (contains-put s k q ∙ put_known q k (set.contains s) known))

got-ask : (r : Reception) (moment : ℕ) → (after_ask r moment).got ≡ r.got
got-ask r moment =
    let counts : Reception = record r { tries = r.tries + 1; due = moment + next_wait } in
    cond_both (nat_lt moment r.due) r _ (λ x. x.got ≡ r.got) (λ _. refl) (λ _.
    cond_both (nat_le most_requests r.tries) r counts (λ x. x.got ≡ r.got) (λ _. refl) (λ _. refl))

got-accept : (r : Reception) (moment packet : ℕ) → (after_accept r moment packet).got ≡ set.insert r.got packet
got-accept r moment packet =
    let takes : Reception = record r { got = set.insert r.got packet; due = moment + next_wait } in
    cond_both (set.contains r.got packet) r takes (λ x. x.got ≡ set.insert r.got packet) (insert-known r.got packet) (λ _. refl)

pub got-came : (start word : ℕ) (calls : List ReceptionCall) → (reception_after start word calls).got ≡ came_in calls
got-came start word [] = refl
got-came start word (Next moment ∷ earlier) = got-ask (reception_after start word earlier) moment ∙ got-came start word earlier
got-came start word (Comes moment packet ∷ earlier) =
    got-accept (reception_after start word earlier) moment packet ∙ ap (λ s. set.insert s packet) (got-came start word earlier)

-- ---- a request names what is missing

asked : (early late : Bool) (m want : Numbers) → (if early then Wait else (if late then GiveUp else Request m)) ≡ Request want → m ≡ want
asked true late m want e = cc
asked false true m want e = cc
asked false false m want e = cc

pub asks_for_missing : (start word : ℕ) (earlier : List ReceptionCall) (moment : ℕ) (want : Numbers) → ask_of (reception_after start word earlier) moment ≡ Request want → want ≡ set.difference (below packets) (came_in earlier)
asks_for_missing start word earlier moment want e =
    let r = reception_after start word earlier in
    sym (asked (nat_lt moment r.due) (nat_le most_requests r.tries) (missing r) want e) ∙ ap (set.difference (below packets)) (got-came start word earlier)

pub never_again : (start word : ℕ) (earlier : List ReceptionCall) (moment : ℕ) (want : Numbers) → ask_of (reception_after start word earlier) moment ≡ Request want → (packet : ℕ) → set.contains (came_in earlier) packet ≡ true → set.contains want packet ≡ false
never_again start word earlier moment want e packet known =
    ap (λ s. set.contains s packet) (asks_for_missing start word earlier moment want e)
    ∙ contains-less (below packets) (came_in earlier) packet
    ∙ ap (λ b. set.contains (below packets) packet && not b) known
    ∙ never (set.contains (below packets) packet)
  where
    never : (b : Bool) → (b && false) ≡ false
    never true = refl
    never false = refl

-- ---- requests are counted, and end

tries-counted : (early late : Bool) (r : Reception) (moment : ℕ) (m : Numbers)
    → (if early then r else (if late then r else record r { tries = r.tries + 1; due = moment + next_wait })).tries
    ≡ r.tries + request_count (if early then Wait else (if late then GiveUp else Request m))
tries-counted true late r moment m = omega arith
tries-counted false true r moment m = omega arith
tries-counted false false r moment m = refl

tries-accept : (r : Reception) (moment packet : ℕ) → (after_accept r moment packet).tries ≡ r.tries
tries-accept r moment packet =
    let takes : Reception = record r { got = set.insert r.got packet; due = moment + next_wait } in
    cond_both (set.contains r.got packet) r takes (λ x. x.tries ≡ r.tries) (λ _. refl) (λ _. refl)

pub tries-requests : (start word : ℕ) (calls : List ReceptionCall) → (reception_after start word calls).tries ≡ requests start word calls
tries-requests start word [] = refl
tries-requests start word (Next moment ∷ earlier) =
    let r = reception_after start word earlier in
    tries-counted (nat_lt moment r.due) (nat_le most_requests r.tries) r moment (missing r)
    ∙ ap (λ n. n + request_count (ask_of r moment)) (tries-requests start word earlier)
tries-requests start word (Comes moment packet ∷ earlier) =
    tries-accept (reception_after start word earlier) moment packet ∙ tries-requests start word earlier

tries-bounded : (r : Reception) (moment : ℕ) → r.tries ≤ most_requests → (after_ask r moment).tries ≤ most_requests
tries-bounded r moment h =
    let counts : Reception = record r { tries = r.tries + 1; due = moment + next_wait } in
    cond_both (nat_lt moment r.due) r _ (λ x. x.tries ≤ most_requests) (λ _. h) (λ _.
    cond_both (nat_le most_requests r.tries) r counts (λ x. x.tries ≤ most_requests) (λ _. h) (λ e. omega (arith, leb-false most_requests r.tries e)))

few_tries : (start word : ℕ) (calls : List ReceptionCall) → (reception_after start word calls).tries ≤ most_requests
few_tries start word [] = omega arith
few_tries start word (Next moment ∷ earlier) = tries-bounded (reception_after start word earlier) moment (few_tries start word earlier)
few_tries start word (Comes moment packet ∷ earlier) =
    omega (arith, tries-accept (reception_after start word earlier) moment packet, few_tries start word earlier)

pub few_requests : (start word : ℕ) (calls : List ReceptionCall) → requests start word calls ≤ most_requests
few_requests start word calls = omega (arith, tries-requests start word calls, few_tries start word calls)

gave_up : (early late : Bool) (m : Numbers) → (if early then Wait else (if late then GiveUp else Request m)) ≡ GiveUp → late ≡ true
gave_up true late m e = cc
gave_up false true m e = refl
gave_up false false m e = cc

pub gives_up_after_all : (start word : ℕ) (earlier : List ReceptionCall) (moment : ℕ) → ask_of (reception_after start word earlier) moment ≡ GiveUp → requests start word earlier ≡ most_requests
gives_up_after_all start word earlier moment e =
    let r = reception_after start word earlier in
    let late = leb-true most_requests r.tries (gave_up (nat_lt moment r.due) (nat_le most_requests r.tries) (missing r) e) in
    omega (arith, tries-requests start word earlier, few_tries start word earlier)

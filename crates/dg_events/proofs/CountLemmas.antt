-- One more event in the counts of what was played.
use Rattle.std.proofs.Common.{◌≡◌, ◌≢◌, ℕ, ◌+◌, ◌*◌, ◌/◌, ◌%◌, ◌^◌, ◌<◌, ◌≤◌, zero, suc, Bool, true, false, cond, ◌==◌, ◌&&◌, List, [], ◌∷◌, ◌++◌, length, replicate, get_or, set, refl, sym, ap, subst, ◌∙◌, arith}
use Rattle.std.proofs.Common.{Option, Some, None, inl, inr}
use Rattle.std.specs.Prelude.{slice_get, slice_index, is_some}
use Rattle.std.proofs.lemmas.Nat.{div-add-mod', mod-mul-add, mod_below}
use Rattle.std.proofs.lemmas.Bool.{eq-eqb, ne_eqb, cases_eq}
use Rattle.std.proofs.lemmas.List.{length-set, get_or-set_same, get_or-set_other, get_or_default}
use Rattle.std.proofs.lemmas.List.Sums.{sum_by_push}
use Rattle.dg_rules.specs.Events.{mote_of}
use Rattle.dg_rules.specs.Runs.{Played}
use Rattle.dg_base.specs.declared.events.Event.{Event}
use Rattle.dg_script.specs.declared.report.Cause.{Cause}
use Rattle.dg_events.specs.Kinds.{event_number, cause_number}
use Rattle.dg_events.specs.Told.{Happened, happening}
use Rattle.dg_events.specs.Counts.{passes, at, count_at, count_all, has_kind, is_cause, is_refused, is_cut, is_start_by_power, is_start_by_order, is_cut_start_by_power, is_image, is_start_of}
use Rattle.dg_events.specs.Counters.{as_u64, told_count, AreCounts, CountsAre, AllCounted}
use Rattle.dg_events.specs.Noted.{up, up_if, up_at, up_for, up_by_cause, with_event, IsOutcome}
use Rattle.dg_events.specs.declared.told.Told.{Told}
use Rattle.dg_events.specs.declared.event_counts.EventCounts.{EventCounts}

-- what happened in it
abbrev pub Is : Happened → Played → Type 0
Is x p = happening p.item p.before ≡ Some x

pub count_more : (m : ℕ) (test : Happened → Bool) (past : List Played) (x : Happened) (p : Played) → Is x p
    → count_at m test (past ++ p ∷ []) ≡ count_at m test past + cond (at m test x) 1 0
count_more m test past x p is =
    sum_by_push (λ (q : Played). cond (passes (at m test) (happening q.item q.before)) 1 0) past p
    ∙ ap (λ (o : Option Happened). count_at m test past + cond (passes (at m test) o) 1 0) is

at_here : (m : ℕ) (test : Happened → Bool) (x : Happened) → mote_of x.event ≡ m → at m test x ≡ test x
at_here m test x here = ap (λ (b : Bool). b && test x) (eq-eqb (mote_of x.event) m here)

pub at_other : (m : ℕ) (test : Happened → Bool) (x : Happened) → mote_of x.event ≢ m → at m test x ≡ false
at_other m test x other = ap (λ (b : Bool). b && test x) (ne_eqb (mote_of x.event) m other)

-- multiples of the modulus fall away
mod_drop : (q w r : ℕ) → 0 < w → (q * w + r) % w ≡ r % w
mod_drop q w r some =
    let parts : r / w * w + r % w ≡ r = div-add-mod' r w in
    let whole : q * w + r ≡ (q + r / w) * w + r % w = omega (arith, parts) in
    ap (λ (n : ℕ). n % w) whole ∙ mod-mul-add (q + r / w) w (r % w) (mod_below r w some)

-- one more, where a count wraps
pub up_again : (n w : ℕ) → 0 < w → (n % w + 1) % w ≡ (n + 1) % w
up_again n w some =
    let parts : n / w * w + n % w ≡ n = div-add-mod' n w in
    let whole : n + 1 ≡ n / w * w + (n % w + 1) = omega (arith, parts) in
    sym (ap (λ (k : ℕ). k % w) whole ∙ mod_drop (n / w) w (n % w + 1) some)

pub same_again : (n w : ℕ) → n % w ≡ (n + 0) % w
same_again n w = ap (λ (k : ℕ). k % w) (omega arith)

up_is : (b : Bool) (n : ℕ) → up_if b (as_u64 n) ≡ as_u64 (n + cond b 1 0)
up_is true n = up_again n (2 ^ 64) (omega arith)
up_is false n = same_again n (2 ^ 64)

-- one more event at its mote
one_more : (m : ℕ) (test : Happened → Bool) (past : List Played) (x : Happened) (p : Played) (n : ℕ) → Is x p
    → mote_of x.event ≡ m → n ≡ told_count m test past → up_if (test x) n ≡ told_count m test (past ++ p ∷ [])
one_more m test past x p n h here is =
    ap (λ (k : ℕ). up_if (test x) k) is ∙ up_is (test x) (count_at m test past)
    ∙ ap (λ (b : Bool). as_u64 (count_at m test past + cond b 1 0)) (sym (at_here m test x here))
    ∙ ap (λ (k : ℕ). as_u64 k) (sym (count_more m test past x p h))

-- one more event elsewhere
no_more : (m : ℕ) (test : Happened → Bool) (past : List Played) (x : Happened) (p : Played) (n : ℕ) → Is x p
    → at m test x ≡ false → n ≡ told_count m test past → n ≡ told_count m test (past ++ p ∷ [])
no_more m test past x p n h other is =
    is ∙ same_again (count_at m test past) (2 ^ 64)
    ∙ ap (λ (b : Bool). as_u64 (count_at m test past + cond b 1 0)) (sym other)
    ∙ ap (λ (k : ℕ). as_u64 k) (sym (count_more m test past x p h))

-- one more event among all
pub all_more : (past : List Played) (x : Happened) (p : Played) (n : ℕ) → Is x p → n ≡ as_u64 (count_all past) → up n ≡ as_u64 (count_all (past ++ p ∷ []))
all_more past x p n h is =
    ap (λ (k : ℕ). up k) is ∙ up_again (count_all past) (2 ^ 64) (omega arith)
    ∙ ap (λ (o : Option Happened). as_u64 (count_all past + cond (is_some o) 1 0)) (sym h)
    ∙ ap (λ (k : ℕ). as_u64 k) (sym (sum_by_push (λ (q : Played). cond (is_some (happening q.item q.before)) 1 0) past p))

-- ---- counts by number

pub none_more : (m : ℕ) (tests : ℕ → Happened → Bool) (past : List Played) (x : Happened) (p : Played) (kinds : ℕ) (xs : List ℕ)
    → Is x p → ((k : ℕ) → at m (tests k) x ≡ false) → AreCounts m tests past kinds xs → AreCounts m tests (past ++ p ∷ []) kinds xs
none_more m tests past x p kinds xs h other is =
    record { long = is.long; each = λ k lt. no_more m (tests k) past x p (slice_index xs k) h (other k) (is.each k lt) }

pub some_more : (m : ℕ) (tests : ℕ → Happened → Bool) (past : List Played) (x : Happened) (p : Played) (kinds i : ℕ) (xs : List ℕ)
    → Is x p → mote_of x.event ≡ m → ((k : ℕ) → tests k x ≡ (i == k)) → AreCounts m tests past kinds xs
    → AreCounts m tests (past ++ p ∷ []) kinds (up_at i xs)
some_more m tests past x p kinds i xs h here which is = record { long = length-set xs i (up (slice_index xs i)) ∙ is.long; each = each }
  where
    each : (k : ℕ) → k < kinds → slice_index (up_at i xs) k ≡ told_count m (tests k) (past ++ p ∷ [])
    each k lt = elim (cases_eq k i) [
      | inl same ↦
          let within : i < length xs = omega (arith, same, lt, is.long) in
          let now : slice_index (up_at i xs) k ≡ up (slice_index xs k) =
          ap (λ (j : ℕ). get_or (up_at i xs) j 0) same ∙ get_or-set_same xs i (up (slice_index xs i)) 0 within ∙ ap (λ (j : ℕ). up (get_or xs j 0)) (sym same) in
          let hit : tests k x ≡ true = which k ∙ eq-eqb i k (sym same) in
          now ∙ ap (λ (b : Bool). up_if b (slice_index xs k)) (sym hit) ∙ one_more m (tests k) past x p (slice_index xs k) h here (is.each k lt)
      | inr other ↦
          let miss : tests k x ≡ false = which k ∙ ne_eqb i k (λ s. other (sym s)) in
          get_or-set_other xs i k (up (slice_index xs i)) 0 other ∙ no_more m (tests k) past x p (slice_index xs k) h (at_here m (tests k) x here ∙ miss) (is.each k lt)
    ]

not_here : (m : ℕ) (tests : ℕ → Happened → Bool) (x : Happened) → mote_of x.event ≡ m → ((k : ℕ) → tests k x ≡ false) → (k : ℕ) → at m (tests k) x ≡ false
not_here m tests x here none k = at_here m (tests k) x here ∙ none k

-- ---- the counts of a mote

told_refused : (m : ℕ) (past : List Played) (x : Happened) (p : Played) (xs : List ℕ) → Is x p → mote_of x.event ≡ m
    → AreCounts m is_refused past 11 xs → AreCounts m is_refused (past ++ p ∷ []) 11 (up_by_cause x.told.refused xs)
told_refused m past x p xs h here is = by x.told.refused refl
  where
    by : (o : Option Cause) → x.told.refused ≡ o → AreCounts m is_refused (past ++ p ∷ []) 11 (up_by_cause o xs)
    by None o = none_more m is_refused past x p 11 xs h (not_here m is_refused x here (λ k. ap (λ (c : Option Cause). is_cause k c) o)) is
    by (Some cause) o = some_more m is_refused past x p 11 (cause_number cause) xs h here (λ k. ap (λ (c : Option Cause). is_cause k c) o) is

told_started : (m : ℕ) (past : List Played) (x : Happened) (p : Played) (xs : List ℕ) → Is x p → mote_of x.event ≡ m
    → AreCounts m is_start_of past 7 xs → AreCounts m is_start_of (past ++ p ∷ []) 7 (up_for x.told.started xs)
told_started m past x p xs h here is = by x.told.started refl
  where
    by : (o : Option ℕ) → x.told.started ≡ o → AreCounts m is_start_of (past ++ p ∷ []) 7 (up_for o xs)
    by None o = none_more m is_start_of past x p 7 xs h (not_here m is_start_of x here (λ k. ap (λ (c : Option ℕ). is_image k c) o)) is
    by (Some image) o = some_more m is_start_of past x p 7 image xs h here (λ k. ap (λ (c : Option ℕ). is_image k c) o) is

pub counts_here : (m : ℕ) (past : List Played) (x : Happened) (p : Played) (c : EventCounts) → Is x p → mote_of x.event ≡ m
    → CountsAre m past c → CountsAre m (past ++ p ∷ []) (with_event c x.event x.told)
counts_here m past x p c h here is = record {
  events = some_more m has_kind past x p 7 (event_number x.event) c.events h here (λ k. refl) is.events;
  refused = told_refused m past x p c.refused h here is.refused;
  cuts = one_more m is_cut past x p c.cuts h here is.cuts;
  by_power = one_more m is_start_by_power past x p c.by_power h here is.by_power;
  by_order = one_more m is_start_by_order past x p c.by_order h here is.by_order;
  cut_by_power = one_more m is_cut_start_by_power past x p c.cut_by_power h here is.cut_by_power;
  of_image = told_started m past x p c.of_image h here is.of_image;
}

pub counts_other : (m : ℕ) (past : List Played) (x : Happened) (p : Played) (c : EventCounts) → Is x p → mote_of x.event ≢ m
    → CountsAre m past c → CountsAre m (past ++ p ∷ []) c
counts_other m past x p c h other is = record {
  events = none_more m has_kind past x p 7 c.events h (λ k. at_other m (has_kind k) x other) is.events;
  refused = none_more m is_refused past x p 11 c.refused h (λ k. at_other m (is_refused k) x other) is.refused;
  cuts = no_more m is_cut past x p c.cuts h (at_other m is_cut x other) is.cuts;
  by_power = no_more m is_start_by_power past x p c.by_power h (at_other m is_start_by_power x other) is.by_power;
  by_order = no_more m is_start_by_order past x p c.by_order h (at_other m is_start_by_order x other) is.by_order;
  cut_by_power = no_more m is_cut_start_by_power past x p c.cut_by_power h (at_other m is_cut_start_by_power x other) is.cut_by_power;
  of_image = none_more m is_start_of past x p 7 c.of_image h (λ k. at_other m (is_start_of k) x other) is.of_image;
}

-- ---- the counts of all motes

none_some : {A : Type 0} (x : A) → None ≡ Some x → ⊥
none_some x e = absurd cc

same_some : {A : Type 0} (x y : A) → Some x ≡ Some y → x ≡ y
same_some x y e = cc

get_within : {A : Type 0} (xs : List A) (i : ℕ) (x : A) → slice_get xs i ≡ Some x → i < length xs
get_within [] i x there = absurd (none_some x there)
get_within (y ∷ xs) zero x there = omega arith
get_within (y ∷ xs) (suc i) x there = let h = get_within xs i x there in omega arith

get_there : {A : Type 0} (xs : List A) (i : ℕ) (x : A) → i < length xs → x ≡ get_or xs i x → slice_get xs i ≡ Some x
get_there [] i x lt is = absurd (omega arith)
get_there (y ∷ xs) zero x lt is = ap Some (sym is)
get_there (y ∷ xs) (suc i) x lt is = get_there xs i x (omega arith) is

set_same : {A : Type 0} (xs : List A) (i : ℕ) (y : A) → i < length xs → slice_get (set xs i y) i ≡ Some y
set_same [] i y lt = absurd (omega arith)
set_same (x ∷ xs) zero y lt = refl
set_same (x ∷ xs) (suc i) y lt = set_same xs i y (omega arith)

set_other : {A : Type 0} (xs : List A) (i m : ℕ) (y : A) → m ≢ i → slice_get (set xs i y) m ≡ slice_get xs m
set_other [] i m y other = refl
set_other (x ∷ xs) zero zero y other = absurd (other refl)
set_other (x ∷ xs) zero (suc m) y other = refl
set_other (x ∷ xs) (suc i) zero y other = refl
set_other (x ∷ xs) (suc i) (suc m) y other = set_other xs i m y (λ h. other (ap suc h))

-- the mote of an event is one of these
at_one : (motes : List EventCounts) (i : ℕ) (c : EventCounts) (past : List Played) (x : Happened) (p : Played)
    → Is x p → mote_of x.event ≡ i → i < length motes → c ≡ get_or motes i c → AllCounted motes past
    → AllCounted (set motes i (with_event c x.event x.told)) (past ++ p ∷ [])
at_one motes i c past x p h here lt is all m y there = elim (cases_eq m i) [
  | inl same ↦
      let now : y ≡ with_event c x.event x.told = same_some y (with_event c x.event x.told) (sym there ∙ ap (slice_get (set motes i (with_event c x.event x.told))) same ∙ set_same motes i (with_event c x.event x.told) lt) in
      let before : CountsAre i past c = all i c (get_there motes i c lt is) in
      let after : CountsAre i (past ++ p ∷ []) (with_event c x.event x.told) = counts_here i past x p c h here before in
      subst (λ (z : EventCounts). CountsAre m (past ++ p ∷ []) z) (sym now) (subst (λ (k : ℕ). CountsAre k (past ++ p ∷ []) (with_event c x.event x.told)) (sym same) after)
  | inr other ↦
      counts_other m past x p y h (λ at. other (sym at ∙ here)) (all m y (sym (set_other motes i m (with_event c x.event x.told) other) ∙ there))
]

-- with this outcome of its event
pub all_here : (motes : List EventCounts) (i : ℕ) (none : EventCounts) (d : EventCounts) (past : List Played) (e : Event) (t : Told) (p : Played)
    → IsOutcome e t p → i ≡ mote_of e → i < length motes → d ≡ with_event (get_or motes i none) e t → AllCounted motes past
    → AllCounted (set motes i d) (past ++ p ∷ [])
all_here motes i none d past e t p h here lt after all =
    let at : mote_of h.x.event ≡ i = ap mote_of h.event ∙ sym here in
    let is : get_or motes i none ≡ get_or motes i (get_or motes i none) = get_or_default motes i none (get_or motes i none) lt in
    let same : with_event (get_or motes i none) h.x.event h.x.told ≡ d =
    ap (λ (f : Event). with_event (get_or motes i none) f h.x.told) h.event ∙ ap (λ (u : Told). with_event (get_or motes i none) e u) h.told ∙ sym after in
    subst (λ (y : EventCounts). AllCounted (set motes i y) (past ++ p ∷ [])) same (at_one motes i (get_or motes i none) past h.x p h.is at lt is all)

-- or none of them
pub all_other : (motes : List EventCounts) (i : ℕ) (past : List Played) (e : Event) (t : Told) (p : Played) → IsOutcome e t p
    → i ≡ mote_of e → length motes ≤ i → AllCounted motes past → AllCounted motes (past ++ p ∷ [])
all_other motes i past e t p h here far all m y there =
    let lt : m < length motes = get_within motes m y there in
    let at : mote_of h.x.event ≡ i = ap mote_of h.event ∙ sym here in
    counts_other m past h.x p y h.is (λ same. absurd (omega (arith, lt, far, at, same))) (all m y there)

-- before anything was played
same_all : (n : ℕ) (r x : EventCounts) (m : ℕ) → slice_get (replicate n r) m ≡ Some x → x ≡ r
same_all zero r x m there = absurd (none_some x there)
same_all (suc n) r x zero there = sym (same_some r x there)
same_all (suc n) r x (suc m) there = same_all n r x m there

pub none_counted : (n : ℕ) (r : EventCounts) → ((m : ℕ) → CountsAre m [] r) → AllCounted (replicate n r) []
none_counted n r none m x there = subst (λ (y : EventCounts). CountsAre m [] y) (sym (same_all n r x m there)) (none m)

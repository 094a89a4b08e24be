-- One more event in the times of what was played.
use Rattle.std.proofs.Common.{◌≡◌, ◌≢◌, ◌⊎◌, inl, inr, ℕ, zero, suc, ◌+◌, ◌-◌, ◌^◌, ◌%◌, ◌<◌, ◌≤◌, Bool, true, false, cond, min, List, [], ◌∷◌, ◌++◌, length, length-append, replicate, get_or, set, refl, sym, ap, subst, ◌∙◌, arith}
use Rattle.std.proofs.Common.{Some, None}
use Rattle.std.specs.Prelude.{slice_get, nat_lt}
use Rattle.std.proofs.lemmas.Nat.{mod-mul-add}
use Rattle.std.proofs.lemmas.Bool.{cases_eq, ltb-true, ltb-false}
use Rattle.std.proofs.lemmas.List.{length-set}
use Rattle.std.proofs.lemmas.List.Sums.{sum_by_push}
use Rattle.dg_base.specs.declared.events.Event.{Event}
use Rattle.dg_base.specs.declared.events.Step.{Step}
use Rattle.dg_rules.specs.Events.{mote_of, dt_of}
use Rattle.dg_rules.specs.Runs.{Played, ItemStep}
use Rattle.dg_rules.specs.Sizes.{most_motes}
use Rattle.dg_script.specs.Items.{Item, Applies}
use Rattle.dg_script.specs.declared.report.Report.{Report}
use Rattle.dg_events.specs.Told.{Happened, happened, happening, told_by, nothing_told}
use Rattle.dg_events.specs.Counts.{has_started}
use Rattle.dg_events.specs.Counters.{as_u64}
use Rattle.dg_events.specs.Noted.{IsEventPlayed}
use Rattle.dg_events.specs.Uptimes.{is_on, ms_before, ms_of, ms_on, on_ms_of, on_from, ends_on, never_on, up_until, with_start, with_stop, with_outcome, with_outcome_at, with_time, IsUptime, IsBefore, HasTimed}
use Rattle.dg_events.specs.declared.told.Told.{Told}
use Rattle.dg_events.specs.declared.uptime.Uptime.{Uptime}
use Rattle.dg_events.specs.declared.uptime.Uptimes.{Uptimes}
use Rattle.dg_events.proofs.ToldLemmas.{came_to}
use Rattle.dg_events.proofs.PowerLemmas.{on_by, item_here, item_other}

none_some : {A : Type 0} (x : A) → None ≡ Some x → ⊥
none_some x e = absurd cc

same_some : {A : Type 0} (x y : A) → Some x ≡ Some y → x ≡ y
same_some x y e = cc

-- ---- lists of motes

get_there : {A : Type 0} (xs : List A) (i : ℕ) (d : A) → i < length xs → slice_get xs i ≡ Some (get_or xs i d)
get_there [] i d lt = absurd (omega arith)
get_there (x ∷ xs) zero d lt = refl
get_there (x ∷ xs) (suc i) d lt = get_there xs i d (omega arith)

get_within : {A : Type 0} (xs : List A) (i : ℕ) (x : A) → slice_get xs i ≡ Some x → i < length xs
get_within [] i x there = absurd (none_some x there)
get_within (y ∷ xs) zero x there = omega arith
get_within (y ∷ xs) (suc i) x there = let h = get_within xs i x there in omega arith

get_set_same : {A : Type 0} (xs : List A) (i : ℕ) (y : A) → i < length xs → slice_get (set xs i y) i ≡ Some y
get_set_same [] i y lt = absurd (omega arith)
get_set_same (x ∷ xs) zero y lt = refl
get_set_same (x ∷ xs) (suc i) y lt = get_set_same xs i y (omega arith)

get_set_other : {A : Type 0} (xs : List A) (i m : ℕ) (y : A) → m ≢ i → slice_get (set xs i y) m ≡ slice_get xs m
get_set_other [] i m y other = refl
get_set_other (x ∷ xs) zero zero y other = absurd (other refl)
get_set_other (x ∷ xs) zero (suc m) y other = refl
get_set_other (x ∷ xs) (suc i) zero y other = refl
get_set_other (x ∷ xs) (suc i) (suc m) y other = get_set_other xs i m y (λ h. other (ap suc h))

pub set_again : {A : Type 0} (xs : List A) (i : ℕ) (d : A) → set xs i (get_or xs i d) ≡ xs
set_again [] i d = refl
set_again (x ∷ xs) zero d = refl
set_again (x ∷ xs) (suc i) d = ap (λ (t : List _). x ∷ t) (set_again xs i d)

-- ---- one more event

on_after : (first : Bool) (m : ℕ) (past : List Played) (p : Played) → on_from first m (past ++ p ∷ []) ≡ is_on p.after m
on_after first m [] p = refl
on_after first m (q ∷ qs) p = on_after (is_on q.after m) m qs p

below_end : (n w : ℕ) → n < w → n % w ≡ n
below_end n w lt = ap (λ (j : ℕ). j % w) (omega arith) ∙ mod-mul-add 0 w n lt

no_wrap : (n : ℕ) → n < 2 ^ 64 → as_u64 n ≡ n
no_wrap n lt = below_end n (2 ^ 64) lt

-- a mote's clock goes on to the next event, and is that of the mote before its outcome
pub record IsPassed (mote ms : ℕ) (was : Bool) (on_ms : ℕ) (u : Uptime) : Type 0 where
  pub on : u.on ≡ was
  pub since : u.since ≤ ms
  pub before : u.before ≤ cond u.on u.since ms
  pub until : up_until u ms ≡ on_ms

passed_until : (u : Uptime) (ms dt : ℕ) → u.since ≤ ms → u.before ≤ cond u.on u.since ms → ms + dt < 2 ^ 64
    → up_until u (ms + dt) ≡ up_until u ms + cond u.on dt 0
passed_until u ms dt since before few = by u.on before
  where
    by : (b : Bool) → u.before ≤ cond b u.since ms
        → cond b (min (u.before + (ms + dt - u.since)) (2 ^ 64 - 1)) u.before ≡ cond b (min (u.before + (ms - u.since)) (2 ^ 64 - 1)) u.before + cond b dt 0
    by true h = omega (arith, since, h, few)
    by false h = omega arith

later : (b : Bool) (n since ms dt : ℕ) → n ≤ cond b since ms → n ≤ cond b since (ms + dt)
later true n since ms dt h = h
later false n since ms dt h = omega (arith, h)

pass : (m : ℕ) (past : List Played) (p : Played) (u : Uptime) (ms dt : ℕ) → ms + dt < 2 ^ 64 → ms_before p.item ≡ dt → is_on p.before m ≡ ends_on m past
    → IsUptime m ms past u → IsPassed m (ms + dt) (is_on p.before m) (on_ms_of m (past ++ p ∷ [])) u
pass m past p u ms dt few took was is = record {
  on = is.on ∙ sym was;
  since = omega (arith, is.since);
  before = later u.on u.before u.since ms dt is.before;
  until = passed_until u ms dt is.since is.before few ∙ ap (λ (n : ℕ). n + cond u.on dt 0) is.until
      ∙ ap (λ (b : Bool). on_ms_of m past + cond b dt 0) (is.on ∙ sym was)
      ∙ ap (λ (n : ℕ). on_ms_of m past + cond (is_on p.before m) n 0) (sym took)
      ∙ sym (sum_by_push (ms_on m) past p);
}

-- an event leaves a mote as it was
stay : (m : ℕ) (past : List Played) (p : Played) (u : Uptime) (ms on_ms : ℕ) → is_on p.after m ≡ is_on p.before m → on_ms ≡ on_ms_of m (past ++ p ∷ [])
    → IsPassed m ms (is_on p.before m) on_ms u → IsUptime m ms (past ++ p ∷ []) u
stay m past p u ms on_ms same total is = record {
  on = is.on ∙ sym same ∙ sym (on_after false m past p);
  since = is.since;
  before = is.before;
  until = is.until ∙ total;
}

stop_until : (u : Uptime) (ms : ℕ) → u.since ≤ ms → u.before ≤ cond u.on u.since ms → up_until u ms ≤ ms
stop_until u ms since before = by u.on before
  where
    by : (b : Bool) → u.before ≤ cond b u.since ms → cond b (min (u.before + (ms - u.since)) (2 ^ 64 - 1)) u.before ≤ ms
    by true h = omega (arith, since, h)
    by false h = h

-- ---- a start

start_on : (u : Uptime) (ms : ℕ) → (with_start u ms).on ≡ true
start_on u ms = by u.on u.since u.before
  where
    by : (b : Bool) (s n : ℕ) → (with_start (record { on = b; since = s; before = n }) ms).on ≡ true
    by true s n = refl
    by false s n = refl

start_since : (u : Uptime) (ms : ℕ) → u.since ≤ ms → (with_start u ms).since ≤ ms
start_since u ms = by u.on u.since u.before
  where
    by : (b : Bool) (s n : ℕ) → s ≤ ms → (with_start (record { on = b; since = s; before = n }) ms).since ≤ ms
    by true s n h = h
    by false s n h = omega arith

start_before : (u : Uptime) (ms : ℕ) → u.before ≤ cond u.on u.since ms
    → (with_start u ms).before ≤ cond (with_start u ms).on (with_start u ms).since ms
start_before u ms = by u.on u.since u.before
  where
    by : (b : Bool) (s n : ℕ) → n ≤ cond b s ms
        → (with_start (record { on = b; since = s; before = n }) ms).before
        ≤ cond (with_start (record { on = b; since = s; before = n }) ms).on (with_start (record { on = b; since = s; before = n }) ms).since ms
    by true s n h = h
    by false s n h = h

start_until : (u : Uptime) (ms : ℕ) → u.before ≤ cond u.on u.since ms → ms < 2 ^ 64 → up_until (with_start u ms) ms ≡ up_until u ms
start_until u ms = by u.on u.since u.before
  where
    by : (b : Bool) (s n : ℕ) → n ≤ cond b s ms → ms < 2 ^ 64
        → up_until (with_start (record { on = b; since = s; before = n }) ms) ms ≡ up_until (record { on = b; since = s; before = n }) ms
    by true s n h few = refl
    by false s n h few = omega (arith, h, few)

-- an event leaves its mote by its outcome
outcome_here : (m : ℕ) (past : List Played) (p : Played) (told : Told) (u : Uptime) (ms on_ms : ℕ) → is_on p.after m ≡ on_by told (is_on p.before m)
    → on_ms ≡ on_ms_of m (past ++ p ∷ []) → ms < 2 ^ 64 → IsPassed m ms (is_on p.before m) on_ms u
    → IsUptime m ms (past ++ p ∷ []) (with_outcome told u ms)
outcome_here m past p told u ms on_ms after total few is = by told.off (has_started told.started) after
  where
    all : List Played
    all = past ++ p ∷ []

    by : (b c : Bool) → is_on p.after m ≡ cond b false (cond c true (is_on p.before m))
        → IsUptime m ms all (cond b (with_stop u ms) (cond c (with_start u ms) u))
    by true c e = record {
      on = sym e ∙ sym (on_after false m past p);
      since = is.since;
      before = stop_until u ms is.since is.before;
      until = is.until ∙ total;
    }
    by false true e = record {
      on = start_on u ms ∙ sym e ∙ sym (on_after false m past p);
      since = start_since u ms is.since;
      before = start_before u ms is.before;
      until = start_until u ms is.before few ∙ is.until ∙ total;
    }
    by false false e = stay m past p u ms on_ms e total is

-- ---- all motes

length_push : {A : Type 0} (xs : List A) (y : A) → length (xs ++ y ∷ []) ≡ length xs + 1
length_push xs y = length-append xs (y ∷ [])

long_motes : (b : Bool) (motes : List Uptime) (mote ms : ℕ) (told : Told) → length (cond b (with_outcome_at told mote motes ms) motes) ≡ length motes
long_motes true motes mote ms told = length-set motes mote (with_outcome told (get_or motes mote never_on) ms)
long_motes false motes mote ms told = refl

all_clocks : (count : ℕ) (past : List Played) (e : Event) (s : Step) (reported : Bool) (lines : List Report) (told : Told) (motes : List Uptime) (ms : ℕ) (p : Played)
    → s.event ≡ e → ItemStep p.before (Applies s reported) p.after lines → (happened p.before s).told ≡ told → ms_before p.item ≡ dt_of e
    → IsBefore count past p.before → ms + dt_of e < 2 ^ 64 → length motes ≡ most_motes
    → ((m : ℕ) (u : Uptime) → slice_get motes m ≡ Some u → IsUptime m ms past u)
    → (m : ℕ) (u : Uptime) → slice_get (cond (nat_lt (mote_of e) count) (with_outcome_at told (mote_of e) motes (ms + dt_of e)) motes) m ≡ Some u
    → IsUptime m (ms + dt_of e) (past ++ p ∷ []) u
all_clocks count past e s reported lines told motes ms p at step came took was few long each m u =
    by (nat_lt (mote_of e) count) (ltb-true (mote_of e) count) (ltb-false (mote_of e) count)
  where
    mote : ℕ
    mote = mote_of e

    now : ℕ
    now = ms + dt_of e

    passed : (k : ℕ) (v : Uptime) → slice_get motes k ≡ Some v → IsPassed k now (is_on p.before k) (on_ms_of k (past ++ p ∷ [])) v
    passed k v there = pass k past p v ms (dt_of e) few took (was.on k) (each k v there)

    apart : (k : ℕ) (v : Uptime) → (k ≢ mote) ⊎ (length p.before.sites ≤ mote) → slice_get motes k ≡ Some v → IsUptime k now (past ++ p ∷ []) v
    apart k v far there =
        stay k past p v now (on_ms_of k (past ++ p ∷ []))
        (item_other p.before p.after s reported lines k step (subst (λ (f : Event). (k ≢ mote_of f) ⊎ (length p.before.sites ≤ mote_of f)) (sym at) far))
        refl (passed k v there)

    outside : count ≤ mote → slice_get motes m ≡ Some u → IsUptime m now (past ++ p ∷ []) u
    outside ge there = apart m u (inr (omega (arith, ge, was.motes))) there

    here : mote < count → m ≡ mote → slice_get (with_outcome_at told mote motes now) m ≡ Some u → IsUptime m now (past ++ p ∷ []) u
    here lt same there =
        let within : mote < length motes = omega (arith, lt, was.few_motes, long) in
        let known : mote < length p.before.sites = omega (arith, lt, was.motes) in
        let old : Uptime = get_or motes mote never_on in
        let is : u ≡ with_outcome told old now =
        same_some u (with_outcome told old now) (sym there ∙ ap (slice_get (with_outcome_at told mote motes now)) same ∙ get_set_same motes mote (with_outcome told old now) within) in
        let there_old : slice_get motes mote ≡ Some old = get_there motes mote never_on within in
        let after : is_on p.after mote ≡ on_by told (is_on p.before mote) =
        subst (λ (f : Event). is_on p.after (mote_of f) ≡ on_by told (is_on p.before (mote_of f))) at
        (item_here p.before p.after s reported lines step (subst (λ (f : Event). mote_of f < length p.before.sites) (sym at) known)
        ∙ ap (λ (t : Told). on_by t (is_on p.before (mote_of s.event))) came) in
        let done : IsUptime mote now (past ++ p ∷ []) (with_outcome told old now) =
        outcome_here mote past p told old now (on_ms_of mote (past ++ p ∷ [])) after refl few (passed mote old there_old) in
        subst (λ (k : ℕ). IsUptime k now (past ++ p ∷ []) u) (sym same) (subst (λ (v : Uptime). IsUptime mote now (past ++ p ∷ []) v) (sym is) done)

    inside : mote < count → slice_get (with_outcome_at told mote motes now) m ≡ Some u → IsUptime m now (past ++ p ∷ []) u
    inside lt there = elim (cases_eq m mote) [
      | inl same ↦ here lt same there
      | inr other ↦ apart m u (inl other) (sym (get_set_other motes mote m (with_outcome told (get_or motes mote never_on) now) other) ∙ there)
    ]

    by : (b : Bool) → (b ≡ true → mote < count) → (b ≡ false → count ≤ mote)
        → slice_get (cond b (with_outcome_at told mote motes now) motes) m ≡ Some u → IsUptime m now (past ++ p ∷ []) u
    by true within beyond there = inside (within refl) there
    by false within beyond there = outside (beyond refl) there

-- the times of what was played before an event, and of that event
pub timed_more : (t : Uptimes) (count : ℕ) (past : List Played) (e : Event) (lines : List Report) (p : Played) → IsEventPlayed e lines p
    → IsBefore count past p.before → dt_of e < 2 ^ 32 → HasTimed t past → HasTimed (with_time t count (mote_of e) (dt_of e) (told_by lines)) (past ++ p ∷ [])
timed_more t count past e lines p h was small is =
    let s : Step = record { event = e; cut = h.cut } in
    let step : ItemStep p.before (Applies s h.reported) p.after p.reports = subst (λ (i : Item). ItemStep p.before i p.after p.reports) h.item h.step in
    let took : ms_before p.item ≡ dt_of e = ap ms_before h.item in
    let came = came_to e lines p h in
    let told : (happened p.before s).told ≡ told_by lines =
    ap (λ (x : Happened). x.told) (same_some (happened p.before s) came.x (sym (ap (λ (i : Item). happening i p.before) h.item) ∙ came.is)) ∙ came.told in
    let more : length (past ++ p ∷ []) ≡ length past + 1 = length_push past p in
    let sum : ms_of (past ++ p ∷ []) ≡ ms_of past + dt_of e = sum_by_push (λ (q : Played). ms_before q.item) past p ∙ ap (λ (n : ℕ). ms_of past + n) took in
    let bound : t.ms + dt_of e < 2 ^ 64 = omega (arith, is.ms, is.early, was.few, small) in
    let now : as_u64 (t.ms + dt_of e) ≡ t.ms + dt_of e = no_wrap (t.ms + dt_of e) bound in
    let moment : t.ms + dt_of e ≡ ms_of (past ++ p ∷ []) = ap (λ (n : ℕ). n + dt_of e) is.ms ∙ sym sum in
    record {
      few = omega (arith, more, was.few);
      early = omega (arith, more, sum, is.early, small);
      ms = now ∙ moment;
      motes = long_motes (nat_lt (mote_of e) count) t.motes (mote_of e) (as_u64 (t.ms + dt_of e)) (told_by lines) ∙ is.motes;
      each = λ m u there.
          subst (λ (n : ℕ). IsUptime m n (past ++ p ∷ []) u) (sym now)
          (all_clocks count past e s h.reported p.reports (told_by lines) t.motes t.ms p refl step told took was bound is.motes is.each m u
          (subst (λ (n : ℕ). slice_get (cond (nat_lt (mote_of e) count) (with_outcome_at (told_by lines) (mote_of e) t.motes n) t.motes) m ≡ Some u) now there));
    }

-- ---- before anything was played

same_all : (n : ℕ) (r x : Uptime) (m : ℕ) → slice_get (replicate n r) m ≡ Some x → x ≡ r
same_all zero r x m there = absurd (none_some x there)
same_all (suc n) r x zero there = sym (same_some r x there)
same_all (suc n) r x (suc m) there = same_all n r x m there

pub none_timed : (n m : ℕ) (u r : Uptime) → r ≡ never_on → slice_get (replicate n r) m ≡ Some u → IsUptime m 0 [] u
none_timed n m u r is there = subst (λ (v : Uptime). IsUptime m 0 [] v) (sym (same_all n r u m there ∙ is)) first
  where
    first : IsUptime m 0 [] never_on
    first = record { on = refl; since = omega arith; before = omega arith; until = refl }

-- nothing is reported
pub nothing_at : (t : Uptimes) (count mote ms : ℕ) → cond (nat_lt mote count) (with_outcome_at nothing_told mote t.motes ms) t.motes ≡ t.motes
nothing_at t count mote ms = by (nat_lt mote count)
  where
    by : (b : Bool) → cond b (with_outcome_at nothing_told mote t.motes ms) t.motes ≡ t.motes
    by true = set_again t.motes mote never_on
    by false = refl

-- What holds of every run of a Trickle timer: what a step keeps, and so what each history keeps.
use Rattle.std.specs.Prelude.{◌≡◌, ℕ, zero, suc, not, ◌&&◌, ◌*◌, ◌/◌, ◌%◌, ◌^◌, ◌≤◌, ◌<◌, min, Bool, true, false, ◌⊎◌, List, [], ◌∷◌, Contains, nat_lt, if◌then◌else◌}
use Rattle.std.proofs.Common.{refl, sym, ap, inl, inr, arith}
use Rattle.std.proofs.lemmas.Bool.{cond_both, ltb-true, ltb-false, true≢false}
use Rattle.std.proofs.lemmas.List.Elements.{Contains-append_right}
use Rattle.dg_trickle.specs.declared.Act.TheVariants.{Send, Quiet, Expired, Nothing}
use Rattle.dg_trickle.specs.Times.{shortest_interval, longest_interval, redundancy}
use Rattle.dg_trickle.specs.Timer.{Timer}
use Rattle.dg_trickle.specs.Steps.{interval_begun, after_same, after_other, after_tick, act_of, is_due, is_over, IsRunning}
use Rattle.dg_trickle.specs.Runs.{Call, Same, Other, Tick, after, timer, Mark, Heard, Kept, noted_of, noted, current_marks, sends, IsDoubled, DoublesOrFalls}

-- ---- the bounds of an interval and of t

pub IsRunning-begun : (size moment word : ℕ) → shortest_interval ≤ size → size ≤ longest_interval → IsRunning (interval_begun size moment word)
IsRunning-begun size moment word low high =
    let half : word % (size / 2) < size / 2 = omega arith in
    record { shortest = low; longest = high; second_half = omega arith; before_end = omega arith }

pub IsRunning-same : (s : Timer) → IsRunning s → IsRunning (after_same s)
IsRunning-same s r =
    record { shortest = r.shortest; longest = r.longest; second_half = r.second_half; before_end = r.before_end }

pub IsRunning-other : (s : Timer) (moment word : ℕ) → IsRunning s → IsRunning (after_other s moment word)
IsRunning-other s moment word r =
    cond_both (nat_lt shortest_interval s.interval) _ s IsRunning (λ _. IsRunning-begun shortest_interval moment word (omega arith) (omega arith)) (λ _. r)

pub IsRunning-tick : (s : Timer) (moment word : ℕ) → IsRunning s → IsRunning (after_tick s moment word)
IsRunning-tick s moment word r =
    let fires : Timer = record s { fired = true } in
    let longer : Timer = interval_begun (min (2 * s.interval) longest_interval) moment word in
    cond_both (is_due s moment) fires _ IsRunning
    (λ _. record { shortest = r.shortest; longest = r.longest; second_half = r.second_half; before_end = r.before_end })
    (λ _.
    cond_both (is_over s moment) longer s IsRunning
    (λ _. IsRunning-begun (min (2 * s.interval) longest_interval) moment word (omega (arith, r.shortest)) (omega arith))
    (λ _. r))

pub IsRunning-after : (s : Timer) (call : Call) → IsRunning s → IsRunning (after s call)
IsRunning-after s Same r = IsRunning-same s r
IsRunning-after s (Other moment word) r = IsRunning-other s moment word r
IsRunning-after s (Tick moment word) r = IsRunning-tick s moment word r

pub IsRunning-timer : (start word : ℕ) (calls : List Call) → IsRunning (timer start word calls)
IsRunning-timer start word [] = IsRunning-begun shortest_interval start word (omega arith) (omega arith)
IsRunning-timer start word (call ∷ earlier) = IsRunning-after (timer start word earlier) call (IsRunning-timer start word earlier)

-- ---- an interval doubles or falls

-- what is twice the shortest interval, doubled k times, at most the longest
twice : (size k : ℕ) → k ≤ 7 → size ≡ shortest_interval * 2 ^ k → (j : ℕ) × (j ≤ 7) × (min (2 * size) longest_interval ≡ shortest_interval * 2 ^ j)
twice size zero h e = (1, omega arith, omega arith)
twice size (suc zero) h e = (2, omega arith, omega arith)
twice size (suc (suc zero)) h e = (3, omega arith, omega arith)
twice size (suc (suc (suc zero))) h e = (4, omega arith, omega arith)
twice size (suc (suc (suc (suc zero)))) h e = (5, omega arith, omega arith)
twice size (suc (suc (suc (suc (suc zero))))) h e = (6, omega arith, omega arith)
twice size (suc (suc (suc (suc (suc (suc zero)))))) h e = (7, omega arith, omega arith)
twice size (suc (suc (suc (suc (suc (suc (suc zero))))))) h e = (7, omega arith, omega arith)
twice size (suc (suc (suc (suc (suc (suc (suc (suc k)))))))) h e = absurd (omega arith)

IsDoubled-shortest : (moment word : ℕ) → IsDoubled (interval_begun shortest_interval moment word)
IsDoubled-shortest moment word = (0, omega arith, refl)

IsDoubled-after : (s : Timer) (call : Call) → IsDoubled s → IsDoubled (after s call)
IsDoubled-after s Same d = d
IsDoubled-after s (Other moment word) d =
    cond_both (nat_lt shortest_interval s.interval) _ s IsDoubled (λ _. IsDoubled-shortest moment word) (λ _. d)
IsDoubled-after s (Tick moment word) d =
    let fires : Timer = record s { fired = true } in
    let longer : Timer = interval_begun (min (2 * s.interval) longest_interval) moment word in
    cond_both (is_due s moment) fires _ IsDoubled (λ _. d) (λ _.
    cond_both (is_over s moment) longer s IsDoubled (λ _. twice s.interval d.0 d.1 d.2) (λ _. d))

pub IsDoubled-timer : (start word : ℕ) (calls : List Call) → IsDoubled (timer start word calls)
IsDoubled-timer start word [] = IsDoubled-shortest start word
IsDoubled-timer start word (call ∷ earlier) = IsDoubled-after (timer start word earlier) call (IsDoubled-timer start word earlier)

twice_or_same : (size k : ℕ) → k ≤ 7 → size ≡ shortest_interval * 2 ^ k → (min (2 * size) longest_interval ≡ size) ⊎ (min (2 * size) longest_interval ≡ 2 * size)
twice_or_same size zero h e = inr (omega arith)
twice_or_same size (suc zero) h e = inr (omega arith)
twice_or_same size (suc (suc zero)) h e = inr (omega arith)
twice_or_same size (suc (suc (suc zero))) h e = inr (omega arith)
twice_or_same size (suc (suc (suc (suc zero)))) h e = inr (omega arith)
twice_or_same size (suc (suc (suc (suc (suc zero))))) h e = inr (omega arith)
twice_or_same size (suc (suc (suc (suc (suc (suc zero)))))) h e = inr (omega arith)
twice_or_same size (suc (suc (suc (suc (suc (suc (suc zero))))))) h e = inl (omega arith)
twice_or_same size (suc (suc (suc (suc (suc (suc (suc (suc k)))))))) h e = absurd (omega arith)

pub doubles_or_falls : (s : Timer) (call : Call) → IsDoubled s → DoublesOrFalls s (after s call)
doubles_or_falls s Same d = inl refl
doubles_or_falls s (Other moment word) d =
    cond_both (nat_lt shortest_interval s.interval) _ s (DoublesOrFalls s) (λ _. inr (inr refl)) (λ _. inl refl)
doubles_or_falls s (Tick moment word) d =
    let fires : Timer = record s { fired = true } in
    let longer : Timer = interval_begun (min (2 * s.interval) longest_interval) moment word in
    cond_both (is_due s moment) fires _ (DoublesOrFalls s) (λ _. inl refl) (λ _.
    cond_both (is_over s moment) longer s (DoublesOrFalls s)
    (λ _. elim (twice_or_same s.interval d.0 d.1 d.2) [ inl e ↦ inl e | inr e ↦ inr (inl e) ])
    (λ _. inl refl))

-- ---- what happened within the interval

-- what the state of the timer says of the marks of its interval
pub record Remembers (s : Timer) (marks : List Mark) : Type 0 where
  untouched : s.count ≡ 0 → s.fired ≡ false → marks ≡ []
  heard : 0 < s.count → Contains marks Heard
  once : sends marks ≤ (if s.fired then 1 else 0)

Remembers-begun : (size moment word : ℕ) → Remembers (interval_begun size moment word) []
Remembers-begun size moment word =
    record { untouched = λ _ _. refl; heard = λ h. absurd (omega arith); once = omega arith }

Contains-more : (mark : Mark) (marks : List Mark) → Contains marks Heard → Contains (mark ∷ marks) Heard
Contains-more mark marks h = Contains-append_right (mark ∷ []) marks Heard h

Contains-here : (marks : List Mark) → Contains (Heard ∷ marks) Heard
Contains-here marks = (0, omega arith, refl)

Remembers-same : (s : Timer) (marks : List Mark) → Remembers s marks → Remembers (after_same s) (Heard ∷ marks)
Remembers-same s marks m =
    record { untouched = λ none _. absurd (omega arith); heard = λ _. Contains-here marks; once = m.once }

Remembers-other : (s : Timer) (moment word : ℕ) (marks : List Mark) → Remembers s marks → Remembers (after_other s moment word) (noted s (Other moment word) marks)
Remembers-other s moment word marks m =
    elim (nat_lt shortest_interval s.interval) as (λ b. Remembers (if b then interval_begun shortest_interval moment word else s) (if b then [] else marks)) [
      | true ↦ Remembers-begun shortest_interval moment word
      | false ↦ m
    ]

not_fired : (f b : Bool) → (not f && b) ≡ true → f ≡ false
not_fired true b e = sym e
not_fired false b e = refl

few_sends : (f : Bool) (n : ℕ) → n ≤ (if f then 1 else 0) → n ≤ 1
few_sends true n h = h
few_sends false n h = omega arith

-- due: the timer fires, and sends or is suppressed. Over: the next interval begins
Remembers-tick : (s next : Timer) (marks : List Mark) (due over few : Bool) → (due ≡ true → s.fired ≡ false) → few ≡ nat_lt s.count redundancy → Remembers next [] → Remembers s marks
    → Remembers (if due then record s { fired = true } else (if over then next else s)) (noted_of (if due then (if few then Send else Quiet) else (if over then Expired else Nothing)) marks)
Remembers-tick s next marks true over true unfired e n m =
    let none : s.count ≡ 0 = omega (arith, ltb-true s.count redundancy (sym e)) in
    let empty : marks ≡ [] = m.untouched none (unfired refl) in
    record { untouched = λ _ f. absurd (true≢false f); heard = λ h. absurd (omega arith); once = omega (arith, ap sends empty) }
Remembers-tick s next marks true over false unfired e n m =
    record { untouched = λ _ f. absurd (true≢false f); heard = λ h. Contains-more Kept marks (m.heard h); once = few_sends s.fired (sends marks) m.once }
Remembers-tick s next marks false true few unfired e n m = n
Remembers-tick s next marks false false few unfired e n m = m

Remembers-after : (s : Timer) (call : Call) (marks : List Mark) → Remembers s marks → Remembers (after s call) (noted s call marks)
Remembers-after s Same marks m = Remembers-same s marks m
Remembers-after s (Other moment word) marks m = Remembers-other s moment word marks m
Remembers-after s (Tick moment word) marks m =
    Remembers-tick s (interval_begun (min (2 * s.interval) longest_interval) moment word) marks (is_due s moment) (is_over s moment) (nat_lt s.count redundancy) (not_fired s.fired _) refl (Remembers-begun _ moment word) m

Remembers-timer : (start word : ℕ) (calls : List Call) → Remembers (timer start word calls) (current_marks start word calls)
Remembers-timer start word [] = Remembers-begun shortest_interval start word
Remembers-timer start word (call ∷ earlier) =
    Remembers-after (timer start word earlier) call (current_marks start word earlier) (Remembers-timer start word earlier)

sends_untouched : (s : Timer) (marks : List Mark) (due over few : Bool) → (due ≡ true → s.fired ≡ false) → few ≡ nat_lt s.count redundancy → Remembers s marks
    → (if due then (if few then Send else Quiet) else (if over then Expired else Nothing)) ≡ Send → marks ≡ []
sends_untouched s marks true over true unfired e m is = m.untouched (omega (arith, ltb-true s.count redundancy (sym e))) (unfired refl)
sends_untouched s marks true over false unfired e m is = cc
sends_untouched s marks false true few unfired e m is = cc
sends_untouched s marks false false few unfired e m is = cc

-- a tick sends only if no consistent transmission was heard and nothing was sent since the interval began
pub sends_if_untouched : (start word : ℕ) (earlier : List Call) (moment : ℕ) → act_of (timer start word earlier) moment ≡ Send → current_marks start word earlier ≡ []
sends_if_untouched start word earlier moment is =
    let s = timer start word earlier in
    sends_untouched s (current_marks start word earlier) (is_due s moment) (is_over s moment) (nat_lt s.count redundancy) (not_fired s.fired _) refl (Remembers-timer start word earlier) is

quiet_heard : (s : Timer) (marks : List Mark) (due over few : Bool) → few ≡ nat_lt s.count redundancy → Remembers s marks
    → (if due then (if few then Send else Quiet) else (if over then Expired else Nothing)) ≡ Quiet → Contains marks Heard
quiet_heard s marks true over true e m is = cc
quiet_heard s marks true over false e m is = m.heard (omega (arith, ltb-false s.count redundancy (sym e)))
quiet_heard s marks false true few e m is = cc
quiet_heard s marks false false few e m is = cc

-- a timer is suppressed only if a consistent transmission was heard since the interval began
pub suppressed_if_heard : (start word : ℕ) (earlier : List Call) (moment : ℕ) → act_of (timer start word earlier) moment ≡ Quiet → Contains (current_marks start word earlier) Heard
suppressed_if_heard start word earlier moment is =
    let s = timer start word earlier in
    quiet_heard s (current_marks start word earlier) (is_due s moment) (is_over s moment) (nat_lt s.count redundancy) refl (Remembers-timer start word earlier) is

-- and it sends at most once per interval
pub sends_at_most_once : (start word : ℕ) (calls : List Call) → sends (current_marks start word calls) ≤ 1
sends_at_most_once start word calls = few_sends _ _ (Remembers-timer start word calls).once

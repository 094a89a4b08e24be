-- Parts that are played, and recorded as steps.
use Rattle.std.proofs.Common.{◌≡◌, inl, inr, ℕ, zero, suc, ◌+◌, ◌*◌, ◌%◌, ◌/◌, ◌^◌, ◌<◌, ◌≤◌, ◌==◌, Bool, true, false, if◌then◌else◌, nat_lt, List, [], ◌∷◌, ◌++◌, length, map, refl, append-nil, append_assoc, ap, sym, subst, ◌∙◌, arith, lit<}
use Rattle.std.specs.Prelude.{Result, Ok, Err, OnOk, codes}
use Rattle.std.specs.List.{AllByRecursion}
use Rattle.rand_pcg.specs.Lcg.{Lcg}
use Rattle.rand_pcg.specs.Pcg.{pcg32}
use Rattle.dg_words.specs.Cells.{AreBytes}
use Rattle.dg_base.specs.declared.events.Event.{Event}
use Rattle.dg_base.specs.declared.events.Event.TheVariants.{Tick, Hear, Last, Reset}
use Rattle.dg_base.specs.declared.events.Step.{Step}
use Rattle.dg_nor.specs.Device.{Device}
use Rattle.dg_object.specs.Object.{Row, row_of}
use Rattle.dg_script.specs.Contents.{generated}
use Rattle.dg_script.specs.Fitting.{FitsEvent}
use Rattle.dg_script.specs.declared.report.Report.{Report}
use Rattle.dg_seed.specs.Draws.{first_generator}
use Rattle.dg_rules.specs.World.{World}
use Rattle.dg_rules.specs.Steps.{WorldStep}
use Rattle.dg_completion.proofs.GrowLemmas.{all_append}
use Rattle.dg_world.specs.Alone.{uncut}
use Rattle.dg_world.specs.Boards.{WorldStands}
use Rattle.dg_world.specs.Worlds.{IsWorld}
use Rattle.dg_world.specs.declared.world.World.{World as KeptWorld}
use Rattle.dg_end.specs.declared.ends.End.{End}
use Rattle.dg_end.specs.declared.ends.End.TheVariants as ends
use Rattle.dg_trial.specs.Schedule.{SchedulePart, always, resets, beside, disturbed_at, disturbances, opening, rest_events, row_of_seed, shaking, sweep_count, line_links}
use Rattle.dg_trial.specs.inner.Words.{size_by}
use Rattle.dg_trial.specs.inner.Words.{cut_reset}
use Rattle.dg_trial.specs.inner.Words.{row_by}
use Rattle.dg_trial.specs.Playing.{first, LeadsTo, LeadsBy, AddsSteps, FitsStep, MayPlayParts, MayPlayOver, OpenedAndRecorded, PartsPlay, PartsPlayedBy, PartsRecorded}
use Rattle.dg_trial.specs.Trials.{trial_start, Formatted, TrialRecorded, RecordEnds, Unplayed}
use Rattle.dg_trial.specs.inner.Outcomes.{FormatEnds, BeginEnds, ScheduleEnds}
use Rattle.dg_trial.specs.declared.recording.TrialRecord.{TrialRecord}
use Rattle.dg_trial.proofs.BeginLemmas.{first_stands}
use Rattle.dg_trial.proofs.FitLemmas.{beside_fits}
use Rattle.dg_trial.proofs.LoopLemmas.{Fronts}
use Rattle.dg_trial.proofs.PartLemmas.{SoFar, so_far_none, so_far_stop}
use Rattle.dg_trial.proofs.RunLemmas.{may_front}
use Rattle.dg_trial.proofs.TrialLemmas.{parts_are, schedule_stopped}

-- ---- runs by steps

-- a run by steps is a run
pub by_to : (w v : World) (ps : List SchedulePart) (xs : List Step) → LeadsBy w ps xs v → LeadsTo w ps v
unfolding LeadsTo LeadsBy
by_to w v [] [] e = e
by_to w v [] (x ∷ xs) e = absurd e
by_to w v (p ∷ ps) [] e = absurd e
by_to w v (p ∷ ps) (x ∷ xs) e = (e.1, e.2, subst (λ (y : Step). WorldStep w y e.1 e.2) (sym e.0) e.3, by_to e.1 v ps xs e.4)

by_none : (w : World) → LeadsBy w [] [] w
unfolding LeadsBy
by_none w = refl

by_one : (w v : World) (p : SchedulePart) (x : Step) → p (length w.sent) ≡ x → LeadsTo w (p ∷ []) v → LeadsBy w (p ∷ []) (x ∷ []) v
unfolding LeadsTo LeadsBy
by_one w v p x same e = (same, e.0, e.1, subst (λ (y : Step). WorldStep w y e.0 e.1) same e.2, e.3)

pub by_then : (w u v : World) (ps qs : List SchedulePart) (xs ys : List Step) → LeadsBy w ps xs u → LeadsBy u qs ys v → LeadsBy w (ps ++ qs) (xs ++ ys) v
unfolding LeadsBy
by_then w u v [] qs [] ys e f = subst (λ (z : World). LeadsBy z qs ys v) (sym e) f
by_then w u v [] qs (x ∷ xs) ys e f = absurd e
by_then w u v (p ∷ ps) qs [] ys e f = absurd e
by_then w u v (p ∷ ps) qs (x ∷ xs) ys e f = (e.0, e.1, e.2, e.3, by_then e.1 u v ps qs xs ys e.4 f)

-- parts that are the same however many frames were sent
pub by_events : (w v : World) (es : List Event) → LeadsTo w (map always es) v → LeadsBy w (map always es) (map uncut es) v
unfolding LeadsTo LeadsBy
by_events w v [] e = e
by_events w v (x ∷ es) e = (refl, e.0, e.1, e.2, by_events e.0 v es e.3)

-- ---- parts that are recorded

pub recorded_none : (motes : ℕ) (kept : KeptWorld) (boards : List Device) → PartsRecorded motes [] [] kept kept boards boards
recorded_none motes kept boards = record { fits = tt; plays = λ w initial is stands. record { world = w; run = by_none w; kept_now = is; boards = stands } }

pub adds_none : (steps : List Step) (P : List Step → Type 0) → P [] → AddsSteps steps steps P
adds_none steps P h = record { more = []; added = sym (append-nil steps); holds = h }

-- one part, where it was played
pub recorded_one : (r : Result (Unit {0}) End) (motes : ℕ) (p : SchedulePart) (x : Step) (before after : List Step) (first kept : KeptWorld) (old now : List Device) → FitsStep motes x → ((w : World) → IsWorld first old w → p (length w.sent) ≡ x)
    → OnOk r (after ≡ before ++ x ∷ []) → PartsPlay r (p ∷ []) first kept old now → OnOk r (AddsSteps before after (λ more. PartsRecorded motes (p ∷ []) more first kept old now))
recorded_one (Ok u) motes p x before after first kept old now fits same more played =
    record {
      more = x ∷ [];
      added = more;
      holds = record {
        fits = (fits, tt);
        plays = λ w initial is stands.
            let a = played w initial is stands in
            record { world = a.world; run = by_one w a.world p x (same w is) a.run; kept_now = a.kept_now; boards = a.boards };
      };
    }
recorded_one (Err e) motes p x before after first kept old now fits same more played = tt

-- parts that were played, where memory ran out before they were recorded
pub unrecorded : (ps : List SchedulePart) (first kept : KeptWorld) (old now : List Device) → PartsPlay (Ok tt) ps first kept old now → PartsPlay (Err ends.Memory) ps first kept old now
unrecorded ps first kept old now played w initial is stands =
    let a = played w initial is stands in
    record { begun = ps; left = []; split = sym (append-nil ps); world = a.world; run = a.run; there = a.boards }

recorded_more : (motes : ℕ) (ps qs : List SchedulePart) (xs ys : List Step) (first k k2 : KeptWorld) (old mid now : List Device) → PartsRecorded motes ps xs first k old mid → PartsRecorded motes qs ys k k2 mid now → PartsRecorded motes (ps ++ qs) (xs ++ ys) first k2 old now
recorded_more motes ps qs xs ys first k k2 old mid now x y =
    record {
      fits = all_append (FitsStep motes) xs ys x.fits y.fits;
      plays = λ w initial is stands.
          let p = x.plays w initial is stands in
          let q = y.plays p.world initial p.kept_now p.boards in
          record { world = q.world; run = by_then w p.world q.world ps qs xs ys p.run q.run; kept_now = q.kept_now; boards = q.boards };
    }

pub recorded_so_far : (motes : ℕ) (ps : List SchedulePart) (a b : List Step) (first kept : KeptWorld) (old now : List Device) → AddsSteps a b (λ more. PartsRecorded motes ps more first kept old now) → SoFar ps first kept old now
recorded_so_far motes ps a b first kept old now x =
    record {
      played = λ w initial is stands.
          let p = x.holds.plays w initial is stands in
          record { world = p.world; run = by_to w p.world ps x.more p.run; kept_now = p.kept_now; boards = p.boards };
    }

-- one piece more of a schedule
pub piece_recorded : (front piece : ℕ → List SchedulePart) → Fronts front piece → (motes k : ℕ) (a b c : List Step) (first k1 k2 : KeptWorld) (old mid now : List Device) → AddsSteps a b (λ more. PartsRecorded motes (front k) more first k1 old mid)
    → AddsSteps b c (λ more. PartsRecorded motes (piece k) more k1 k2 mid now) → AddsSteps a c (λ more. PartsRecorded motes (front (k + 1)) more first k2 old now)
piece_recorded front piece f motes k a b c first k1 k2 old mid now x y =
    record {
      more = x.more ++ y.more;
      added = y.added ∙ ap (λ (l : List Step). l ++ y.more) x.added ∙ append_assoc a x.more y.more;
      holds = subst (λ (ps : List SchedulePart). PartsRecorded motes ps (x.more ++ y.more) first k2 old now) (sym (f.more k)) (recorded_more motes (front k) (piece k) x.more y.more first k1 k2 old mid now x.holds y.holds);
    }

pub all_recorded : (front : ℕ → List SchedulePart) (motes k n : ℕ) (a b : List Step) (first kept : KeptWorld) (old now : List Device) → n ≤ k → k ≤ n → AddsSteps a b (λ more. PartsRecorded motes (front k) more first kept old now)
    → AddsSteps a b (λ more. PartsRecorded motes (front n) more first kept old now)
all_recorded front motes k n a b first kept old now low high x =
    let e : k ≡ n = omega arith in
    subst (λ (m : ℕ). AddsSteps a b (λ more. PartsRecorded motes (front m) more first kept old now)) e x

-- ---- the numbers of disturbances

uncut_recorded : (motes : ℕ) (e : Event) → FitsEvent motes e → FitsStep motes (uncut e)
uncut_recorded motes e fits = record { event = fits; cut = tt }

mask_bytes : (n : ℕ) → n < 256 → AreBytes (n ∷ [])
mask_bytes n h zero = h
mask_bytes n h (suc k) = lit< tt

disturbed_by : (ticks lasts hears : Bool) (motes a w2 w3 sent : ℕ) → 2 ≤ motes → a < motes → w2 < 2 ^ 32 → w3 < 2 ^ 32 → sent ≤ 1000000
    → FitsStep motes (if ticks then uncut (Tick a (w2 % 1024) w3) else if lasts then uncut (Last (beside motes a) a (w2 % 1024) w3) else if hears then uncut (Hear a 1 w3 (1 + w2 % (sent + 1))) else cut_reset a w2 w3)
disturbed_by true lasts hears motes a w2 w3 sent some low second third few = uncut_recorded motes (Tick a (w2 % 1024) w3) (low, record { dt = omega arith; word = third })
disturbed_by false true hears motes a w2 w3 sent some low second third few =
    let b = beside_fits motes a some low in
    uncut_recorded motes (Last (beside motes a) a (w2 % 1024) w3) (record { first = b.0; second = low; two = b.1 }, record { dt = omega arith; word = third })
disturbed_by false false true motes a w2 w3 sent some low second third few =
    uncut_recorded motes (Hear a 1 w3 (1 + w2 % (sent + 1))) ((low, omega arith), (record { dt = omega arith; word = third }, omega arith))
disturbed_by false false false motes a w2 w3 sent some low second third few =
    record {
      event = (low, record { dt = omega arith; word = third });
      cut = record { range = record { counted = omega arith; some = omega arith; few = omega arith }; fits = omega arith; bytes = mask_bytes (w3 % 256) (omega arith) };
    }

pub disturbed_recorded : (motes a kind w2 w3 sent : ℕ) → 2 ≤ motes → a < motes → w2 < 2 ^ 32 → w3 < 2 ^ 32 → sent ≤ 1000000 → FitsStep motes (disturbed_at motes a kind w2 w3 sent)
disturbed_recorded motes a kind w2 w3 sent some low second third few = disturbed_by (nat_lt kind 4) (nat_lt kind 6) (kind == 6) motes a w2 w3 sent some low second third few

-- ---- how it begins

pub format_begun : (e : End) (motes pages seed : ℕ) (old new : List Device) → FormatEnds (Err e) motes old new → BeginEnds (Err e) motes pages seed old new
format_begun ends.FlashFault motes pages seed old new h = h
format_begun end motes pages seed old new h = absurd h

-- memory ran out
pub unbegun : (e : End) (motes pages seed : ℕ) (old new : List Device) → ◌≡◌ {A = Result (Unit {0}) End} (Err e) (Err ends.Memory) → Unplayed motes pages seed old new → BeginEnds (Err e) motes pages seed old new
unbegun e motes pages seed old new is h =
    let same : e ≡ ends.Memory = cc in
    subst (λ (x : End). BeginEnds (Err x) motes pages seed old new) (sym same) h

pub begin_stopped : (e : End) (motes pages seed : ℕ) (old new : List Device) → BeginEnds (Err e) motes pages seed old new → ScheduleEnds (Err e) motes pages seed old new
begin_stopped ends.Memory motes pages seed old new h = h
begin_stopped ends.FlashFault motes pages seed old new h = inl h
begin_stopped end motes pages seed old new h = absurd h

-- a schedule that was stopped is a record that was
pub record_stopped : (e : End) (motes pages seed : ℕ) (old new : List Device) → motes ≤ length old → ScheduleEnds (Err e) motes pages seed old new → RecordEnds (Err e) motes pages seed old new
record_stopped ends.Memory motes pages seed old new enough h = h
record_stopped ends.FlashFault motes pages seed old new enough h = (enough, h)
record_stopped end motes pages seed old new enough h = absurd h

-- what may be played may be played up to a part
pub may_first : (motes : ℕ) (k : KeptWorld) (boards : List Device) (a b c : List SchedulePart) → MayPlayOver motes k boards (a ++ (b ++ c)) → MayPlayOver motes k boards (a ++ b)
may_first motes k boards a b c m =
    record {
      world = m.world;
      initial = m.initial;
      is = m.is;
      stands = m.stands;
      may = may_front motes m.world (a ++ b) c (subst (λ (ps : List SchedulePart). MayPlayParts motes m.world ps) (sym (append_assoc a b c)) m.may);
    }

-- ---- what is recorded

pub trial_recorded : (motes pages seed word : ℕ) (g : Lcg) (r : TrialRecord) (before : List Step) (v k : KeptWorld) (old mid new : List Device) → (word, g) ≡ pcg32 (first_generator seed) → before ≡ [] → r.links.items ≡ line_links motes
    → r.content ≡ generated (size_by pages word) seed → r.sweeps ≡ sweep_count motes pages → Formatted motes old mid → IsWorld v mid (trial_start motes pages seed)
    → AddsSteps before r.disturbances.items (λ more. OpenedAndRecorded motes (disturbances motes (100 * motes) g) more v k mid new) → TrialRecorded motes pages seed r old new
trial_recorded motes pages seed word g r before v k old mid new drawn none links content sweeps f is added =
    let o = added.holds in
    let a = o.opens (trial_start motes pages seed) old is (first_stands motes (row_of_seed pages seed) old mid f) in
    let p = o.recorded.plays a.world old a.kept_now a.boards in
    let same : added.more ≡ r.disturbances.items = sym (added.added ∙ ap (λ (l : List Step). l ++ added.more) none) in
    let draws : disturbances motes (100 * motes) g ≡ shaking motes seed = ap (λ (x : ℕ × Lcg). disturbances motes (100 * motes) x.1) drawn in
    record {
      links = links;
      image = ap (λ (b : List ℕ). row_of 1 1 (codes "trial") b) content ∙ ap (λ (x : ℕ × Lcg). row_by pages seed x.0) drawn;
      sweeps = sweeps;
      fits = subst (AllByRecursion (FitsStep motes)) same o.recorded.fits;
      opened = a.world;
      last = p.world;
      opens = a.run;
      shakes = subst (λ (ps : List SchedulePart). LeadsBy a.world ps r.disturbances.items p.world) draws (subst (λ (xs : List Step). LeadsBy a.world (disturbances motes (100 * motes) g) xs p.world) same p.run);
      boards = p.boards;
    }

-- a board stopped or memory ran out before the last disturbance
pub disturbed_stopped : (e : End) (motes pages seed word : ℕ) (g : Lcg) (v k : KeptWorld) (old mid new : List Device) → motes ≤ length old → (word, g) ≡ pcg32 (first_generator seed) → Formatted motes old mid → IsWorld v mid (trial_start motes pages seed)
    → PartsPlay (Err e) (opening motes ++ disturbances motes (100 * motes) g) v k mid new → RecordEnds (Err e) motes pages seed old new
disturbed_stopped e motes pages seed word g v k old mid new enough drawn f is plays =
    let d : List SchedulePart = disturbances motes (100 * motes) g in
    let rest : List SchedulePart = map always (rest_events motes pages) in
    let parts = parts_are motes pages seed (sweep_count motes pages) g (line_links motes) refl refl (ap (λ (x : ℕ × Lcg). x.1) drawn) in
    let whole = so_far_stop e [] (opening motes ++ d) rest (opening motes ++ (d ++ rest)) v v k mid mid new (so_far_none v mid) plays (append_assoc (opening motes) d rest) in
    record_stopped e motes pages seed old new enough (schedule_stopped e motes pages seed (sweep_count motes pages) g (line_links motes) (row_of_seed pages seed) v k old mid new parts refl f is whole)

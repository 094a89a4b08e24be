-- The rows of a counter are those of the run that it counted.
use Rattle.std.proofs.Common.{◌≡◌, ℕ, ◌+◌, ◌*◌, ◌-◌, ◌%◌, ◌^◌, ◌<◌, ◌≤◌, ◌==◌, Bool, true, false, cond, List, [], ◌∷◌, length, get_or, set, min, refl, sym, ap, subst, ◌∙◌, arith}
use Rattle.std.proofs.Common.{zero, suc, Option, Some, None, inl, inr}
use Rattle.std.specs.Prelude.{◌≢◌, IfSome, slice_get, slice_index, slice_index_or}
use Rattle.std.proofs.lemmas.Nat.{mod-mul-add}
use Rattle.std.proofs.lemmas.Bool.{cases_lt, cases_eq, eq-eqb, ne_eqb, both_ways}
use Rattle.std.proofs.lemmas.List.Sums.{sum_by-cons}
use Rattle.std.proofs.lemmas.List.{get_or_past, get_or-set_same, get_or-set_other}
use Rattle.std.proofs.lemmas.List.FromFn.{fill_by_all, get_or-map-range_with_len, length-map-range_with_len}
use Rattle.dg_object.specs.Object.{Row}
use Rattle.dg_script.specs.Script.{Script}
use Rattle.dg_rules.specs.Sizes.{most_events}
use Rattle.dg_rules.specs.Runs.{Played}
use Rattle.dg_replay.specs.Items.{beginning_of, is_event}
use Rattle.dg_replay.specs.Shown.{stores_in, events_played}
use Rattle.dg_script.specs.Items.{Item, Declares, Applies}
use Rattle.dg_nor.specs.Device.{Device, PartsRise}
use Rattle.dg_words.specs.Counts.{Rose}
use Rattle.dg_outside.specs.Outside.{Outside}
use Rattle.dg_world.specs.Applied.{SameBoards}
use Rattle.dg_replay.specs.Done.{ReplayDone}
use Rattle.dg_replay.specs.Replayed.{Progress, Replayed}
use Rattle.dg_base.specs.declared.answers.Status.{Status}
use Rattle.dg_base.specs.declared.answers.Status.TheVariants.{NoImage, WriteFault}
use Rattle.dg_events.specs.Told.{Happened}
use Rattle.dg_events.specs.Uptimes.{ms_before, ms_of, on_ms_of, ends_on, never_on, up_until, with_stop, with_end, IsUptime, HasTimed}
use Rattle.dg_events.specs.declared.uptime.Uptimes.{Uptimes}
use Rattle.dg_events.specs.declared.uptime.Uptime.{Uptime}
use Rattle.dg_cost.specs.TimeRows.{rows_of_times, rows_of_power, rows_of_moment, events_until, ms_until, time_rows}
use Rattle.dg_events.specs.Counts.{count_all, count_at, has_kind, is_refused, is_cut, is_start_by_power, is_start_by_order, is_cut_start_by_power, is_start_of}
use Rattle.dg_events.specs.Counters.{AreCounts, CountsAre, no_counts}
use Rattle.dg_events.specs.Noted.{up, up_at}
use Rattle.dg_events.specs.declared.event_counts.EventCounts.{EventCounts}
use Rattle.dg_events.specs.declared.event_counter.EventCounter.{EventCounter}
use Rattle.dg_cost_text.specs.Table.{table_of_rows}
use Rattle.dg_cost_text.specs.declared.rows.Counted.{Counted}
use Rattle.dg_count.specs.Ended.{with_ended, all_until, times_until}
use Rattle.dg_events.specs.FrameCounters.{AreFrames, AreFromOutside, no_frames, no_outside}
use Rattle.dg_cost.proofs.BytesLemmas.{BringFew, bring_few}
use Rattle.dg_events.specs.Made.{operations_at}
use Rattle.dg_count.specs.Chips.{no_tally, counts_by, IsEndNoted, made_at_end}
use Rattle.dg_cost.proofs.FlashLemmas.{mote_flash}
use Rattle.dg_cost.proofs.FrameLemmas.{mote_frames}
use Rattle.dg_cost.proofs.MomentRowLemmas.{newest_are}
use Rattle.dg_count.specs.Runs.{CountedRun, CountedReplay}
use Rattle.dg_count.specs.declared.costs.Costs.{Costs}
use Rattle.dg_count.specs.declared.counter.Counter.{Counter}
use Rattle.dg_count.specs.declared.place.EventPlace.{EventPlace}
use Rattle.dg_cost.specs.EventRows.{HasRows, HasCounts, HasEvents, rows_of_events, rows_of_starts, rows_of_images, passing_counts, and_ended}
use Rattle.dg_cost.specs.Counting.{IsCountOf, ended_of}
use Rattle.dg_cost.specs.Costs.{CountsRun, CountsReplay, IsText, CostWrote, Rehearsed, with_report}
use Rattle.dg_cost.specs.declared.call.Form.{Form}
use Rattle.dg_cost.specs.declared.call.Form.TheVariants.{Table, Csv, Json, Timed}

-- ---- the counts of a mote

none_some : {A : Type 0} (x : A) → None ≡ Some x → ⊥
none_some x e = cc

get_there : {A : Type 0} (xs : List A) (i : ℕ) (d : A) → i < length xs → slice_get xs i ≡ Some (get_or xs i d)
get_there [] i d lt = absurd (omega arith)
get_there (x ∷ xs) zero d lt = refl
get_there (x ∷ xs) (suc i) d lt = get_there xs i d (omega arith)

get_within : {A : Type 0} (xs : List A) (i : ℕ) (x : A) → slice_get xs i ≡ Some x → i < length xs
get_within [] i x there = absurd (none_some x there)
get_within (y ∷ xs) zero x there = omega arith
get_within (y ∷ xs) (suc i) x there = let h = get_within xs i x there in omega arith

listed : (c : EventCounter) (played : List Played) (m : ℕ) (tests : ℕ → Happened → Bool) (kinds : ℕ) (xs : List ℕ) → CountedRun c played
    → AreCounts m tests played kinds xs → xs ≡ passing_counts m tests kinds played
listed c played m tests kinds xs run are =
    fill_by_all (λ (k : ℕ). count_at m (tests k) played) xs kinds 0 are.long (λ k lt. are.each k lt ∙ run.exact m (tests k))

below_end : (n w : ℕ) → n < w → n % w ≡ n
below_end n w lt = let is : n ≡ 0 * w + n = omega arith in ap (λ (j : ℕ). j % w) is ∙ mod-mul-add 0 w n lt

up_small : (n : ℕ) → n ≤ most_events → up n ≡ n + 1
up_small n few = below_end (n + 1) (2 ^ 64) (omega (arith, few))

counted_few : (c : EventCounter) (played : List Played) (m k : ℕ) → CountedRun c played → slice_index (passing_counts m has_kind 7 played) k ≤ most_events
counted_few c played m k run = elim (cases_lt k 7) [
  | inl lt ↦
      subst (λ (n : ℕ). n ≤ most_events) (sym (get_or-map-range_with_len (λ (j : ℕ). count_at m (has_kind j) played) 0 7 k k 0 lt (omega arith)))
      (run.few m (has_kind k))
  | inr ge ↦
      let far : slice_index (passing_counts m has_kind 7 played) k ≡ 0 = get_or_past (passing_counts m has_kind 7 played) k 0
      (omega (arith, ge, length-map-range_with_len (λ (j : ℕ). count_at m (has_kind j) played) 0 7)) in
      omega (arith, far)
]

-- ---- with the event that ended the run

ended_events : (e : EventCounter) (ended : Option EventPlace) (m : ℕ) (played : List Played) (c : EventCounts) → CountedRun e played
    → c.events ≡ passing_counts m has_kind 7 played → (with_ended ended m c).events ≡ and_ended ended m (passing_counts m has_kind 7 played)
ended_events e None m played c run is = is
ended_events e (Some place) m played c run is = by (place.mote == m)
  where
    all : List ℕ
    all = passing_counts m has_kind 7 played

    by : (b : Bool) → (cond b (record c { events = up_at place.kind c.events }) c).events ≡ cond b (set all place.kind (slice_index all place.kind + 1)) all
    by true =
        ap (λ (xs : List ℕ). up_at place.kind xs) is
        ∙ ap (λ (n : ℕ). set all place.kind n) (up_small (slice_index all place.kind) (counted_few e played m place.kind run))
    by false = is

-- all other counts are as before
abbrev Rest : (a b : EventCounts) → Type 0
Rest a b = (a.refused ≡ b.refused) × (a.cuts ≡ b.cuts) × (a.by_power ≡ b.by_power) × (a.by_order ≡ b.by_order)
    × (a.cut_by_power ≡ b.cut_by_power) × (a.of_image ≡ b.of_image)

ended_rest : (ended : Option EventPlace) (m : ℕ) (c : EventCounts) → Rest (with_ended ended m c) c
ended_rest None m c = (refl, refl, refl, refl, refl, refl)
ended_rest (Some place) m c = by (place.mote == m)
  where
    by : (b : Bool) → Rest (cond b (record c { events = up_at place.kind c.events }) c) c
    by true = (refl, refl, refl, refl, refl, refl)
    by false = (refl, refl, refl, refl, refl, refl)

mote_events : (e : EventCounter) (ended : Option EventPlace) (m : ℕ) (played : List Played) (c : EventCounts) (table : List (List ℕ × ℕ))
    → CountedRun e played → CountsAre m played c → HasCounts (with_ended ended m c) table → HasEvents ended m played table
mote_events e ended m played c table run are has =
    let events = ended_events e ended m played c run (listed e played m has_kind 7 c.events run are.events) in
    let rest = ended_rest ended m c in
    let refused = rest.0 ∙ listed e played m is_refused 11 c.refused run are.refused in
    let cuts = rest.1 ∙ are.cuts ∙ run.exact m is_cut in
    let power = rest.2 ∙ are.by_power ∙ run.exact m is_start_by_power in
    let order = rest.3 ∙ are.by_order ∙ run.exact m is_start_by_order in
    let cut = rest.4 ∙ are.cut_by_power ∙ run.exact m is_cut_start_by_power in
    let images = rest.5 ∙ listed e played m is_start_of 7 c.of_image run are.of_image in
    let d : EventCounts = with_ended ended m c in
    record {
      events = subst (λ (rows : List (List ℕ × ℕ)). HasRows rows table)
          (ap (λ (xs : List ℕ). rows_of_events xs d.refused d.cuts) events
          ∙ ap (λ (xs : List ℕ). rows_of_events (and_ended ended m (passing_counts m has_kind 7 played)) xs d.cuts) refused
          ∙ ap (λ (n : ℕ). rows_of_events (and_ended ended m (passing_counts m has_kind 7 played)) (passing_counts m is_refused 11 played) n) cuts) has.events;
      starts = subst (λ (rows : List (List ℕ × ℕ)). HasRows rows table)
          (ap (λ (n : ℕ). rows_of_starts n d.by_order d.cut_by_power) power
          ∙ ap (λ (n : ℕ). rows_of_starts (count_at m is_start_by_power played) n d.cut_by_power) order
          ∙ ap (λ (n : ℕ). rows_of_starts (count_at m is_start_by_power played) (count_at m is_start_by_order played) n) cut) has.starts;
      images = subst (λ (rows : List (List ℕ × ℕ)). HasRows rows table) (ap (λ (xs : List ℕ). rows_of_images xs) images) has.images;
    }

-- ---- times

mote_times : (m ms : ℕ) (events : List Played) (u : Uptime) (table : List (List ℕ × ℕ)) → ms ≡ ms_of events → IsUptime m ms events u
    → HasRows (rows_of_power u ms) table → HasRows (time_rows None m events) table
mote_times m ms events u table all is has =
    subst (λ (rows : List (List ℕ × ℕ)). HasRows rows table)
    (ap (λ (n : ℕ). rows_of_times n (ms - n) u.on) is.until ∙ ap (λ (n : ℕ). rows_of_times (on_ms_of m events) (n - on_ms_of m events) u.on) all
    ∙ ap (λ (b : Bool). rows_of_times (on_ms_of m events) (ms_of events - on_ms_of m events) b) is.on) has

-- ---- with the event that ended the run

end_is : {table : List Row} {script : Script} (c : Counter) (ran : Status) (came : Progress table script) → ran ≢ WriteFault → IsEndNoted ran came c.ended
    → c.ended ≡ ended_of c ran
end_is c NoImage came wrote is = refl
end_is c WriteFault came wrote is = absurd (wrote refl)
end_is c _ came wrote is = is

events_are : (ended : Option EventPlace) (all : ℕ) (played : List Played) → all ≡ count_all played → count_all played ≤ most_events
    → all_until ended all ≡ events_until ended played
events_are None all played is few = is
events_are (Some place) all played is few = omega (arith, is, few)

-- the moment of its end
ms_are : (ended : Option EventPlace) (t : Uptimes) (events : List Played) → IfSome ended (λ place. place.dt < 2 ^ 32) → HasTimed t events
    → (times_until ended t).ms ≡ ms_until ended events
ms_are None t events fits timed = timed.ms
ms_are (Some place) t events fits timed = let lt : place.dt < 2 ^ 32 = fits in omega (arith, lt, timed.ms, timed.early, timed.few)

-- a clock goes on to that event
passed_until : (u : Uptime) (ms dt : ℕ) → u.since ≤ ms → u.before ≤ cond u.on u.since ms → ms + dt < 2 ^ 64 → up_until u (ms + dt) ≡ up_until u ms + cond u.on dt 0
passed_until u ms dt since before few = by u.on before
  where
    by : (b : Bool) → u.before ≤ cond b u.since ms
        → cond b (min (u.before + (ms + dt - u.since)) (2 ^ 64 - 1)) u.before ≡ cond b (min (u.before + (ms - u.since)) (2 ^ 64 - 1)) u.before + cond b dt 0
    by true h = omega (arith, since, h, few)
    by false h = omega arith

-- and its mote goes off
power_until : (place : EventPlace) (m : ℕ) (t : Uptimes) → m < length t.motes
    → let now = (with_end t place.mote place.dt).ms in let u = get_or t.motes m never_on in
    rows_of_power (get_or (with_end t place.mote place.dt).motes m never_on) now ≡ rows_of_times (up_until u now) (now - up_until u now) (cond (place.mote == m) false u.on)
power_until place m t lt = elim (cases_eq place.mote m) [
  | inl same ↦
      ap (λ (v : Uptime). rows_of_power v now)
      (ap (λ (k : ℕ). get_or (set t.motes k (with_stop (get_or t.motes k never_on) now)) m never_on) same ∙ get_or-set_same t.motes m (with_stop u now) never_on lt)
      ∙ ap (λ (b : Bool). rows_of_times (up_until u now) (now - up_until u now) (cond b false u.on)) (sym (eq-eqb place.mote m same))
  | inr other ↦
      ap (λ (v : Uptime). rows_of_power v now)
      (get_or-set_other t.motes place.mote m (with_stop (get_or t.motes place.mote never_on) now) never_on (λ e. other (sym e)))
      ∙ ap (λ (b : Bool). rows_of_times (up_until u now) (now - up_until u now) (cond b false u.on)) (sym (ne_eqb place.mote m other))
]
  where
    now : ℕ
    now = (with_end t place.mote place.dt).ms

    u : Uptime
    u = get_or t.motes m never_on

mote_until : (ended : Option EventPlace) (m : ℕ) (t : Uptimes) (events : List Played) (table : List (List ℕ × ℕ)) → IfSome ended (λ place. place.dt < 2 ^ 32) → HasTimed t events
    → m < length t.motes → HasRows (rows_of_power (get_or (times_until ended t).motes m never_on) (times_until ended t).ms) table → HasRows (time_rows ended m events) table
mote_until None m t events table fits timed lt has =
    mote_times m t.ms events (get_or t.motes m never_on) table timed.ms (timed.each m (get_or t.motes m never_on) (get_there t.motes m never_on lt)) has
mote_until (Some place) m t events table fits timed lt has =
    subst (λ (rows : List (List ℕ × ℕ)). HasRows rows table)
    (power_until place m t lt ∙ ap (λ (x : ℕ). rows_of_times x (now - x) (cond off false u.on)) on_is ∙ ap (λ (x : ℕ). rows_of_times on (x - on) (cond off false u.on)) now_is
    ∙ ap (λ (b : Bool). rows_of_times on (ms_of events + place.dt - on) (cond off false b)) is.on) has
  where
    now : ℕ
    now = (with_end t place.mote place.dt).ms

    off : Bool
    off = place.mote == m

    u : Uptime
    u = get_or t.motes m never_on

    is : IsUptime m t.ms events u
    is = timed.each m u (get_there t.motes m never_on lt)

    on : ℕ
    on = on_ms_of m events + cond (ends_on m events) place.dt 0

    few : t.ms + place.dt < 2 ^ 64
    few = let small : place.dt < 2 ^ 32 = fits in omega (arith, small, timed.ms, timed.early, timed.few)

    sum_is : now ≡ t.ms + place.dt
    sum_is = omega (arith, few)

    now_is : now ≡ ms_of events + place.dt
    now_is = sum_is ∙ ap (λ (n : ℕ). n + place.dt) timed.ms

    on_is : up_until u now ≡ on
    on_is = ap (λ (n : ℕ). up_until u n) sum_is ∙ passed_until u t.ms place.dt is.since is.before few ∙ ap (λ (n : ℕ). n + cond u.on place.dt 0) is.until
        ∙ ap (λ (b : Bool). on_ms_of m events + cond b place.dt 0) is.on

-- declarations take no time
events_ms : (b : Bool) (p : Played) (rest : List Played) (n : ℕ) → (b ≡ false → ms_before p.item ≡ 0) → ms_of rest ≡ n
    → ms_of (cond b (p ∷ rest) rest) ≡ ms_before p.item + n
events_ms true p rest n none is = sum_by-cons (λ (q : Played). ms_before q.item) p rest ∙ ap (λ (k : ℕ). ms_before p.item + k) is
events_ms false p rest n none is = let zero_is : ms_before p.item ≡ 0 = none refl in omega (arith, is, zero_is)

no_ms : (i : Item) → is_event i ≡ false → ms_before i ≡ 0
no_ms (Declares row) e = refl
no_ms (Applies s reported) e = absurd (both_ways true e refl)

declared_ms : (played : List Played) → ms_of (events_played played) ≡ ms_of played
declared_ms [] = refl
declared_ms (p ∷ ps) =
    events_ms (is_event p.item) p (events_played ps) (ms_of ps) (no_ms p.item) (declared_ms ps)
    ∙ sym (sum_by-cons (λ (q : Played). ms_before q.item) p ps)

ms_all : (ended : Option EventPlace) (played : List Played) → ms_until ended (events_played played) ≡ ms_until ended played
ms_all None played = declared_ms played
ms_all (Some place) played = ap (λ (n : ℕ). n + place.dt) (declared_ms played)

-- ---- the counts of a replay

pub run_rows : {table : List Row} {script : Script} (c : Counter) (ran : Status) (came : Progress table script) (boards : List Device) (counted : Counted)
    → ran ≢ WriteFault → c.frames.lost ≡ false → c.wholes.lost ≡ false → BringFew (events_played came.played) → CountedReplay ran c boards came → IsCountOf c ran counted
    → CountsRun ran came boards counted
run_rows c ran came boards counted wrote kept whole short replay is = record {
  motes = is.motes ∙ replay.motes;
  ended = ended_of c ran;
  is_end = subst (λ (o : Option EventPlace). IsEndNoted ran came o) (end_is c ran came wrote replay.ended) replay.ended;
  last =
      subst (λ (rows : List (List ℕ × ℕ)). HasRows rows (table_of_rows counted.all))
      (ap (λ (n : ℕ). rows_of_moment n (times_until (ended_of c ran) c.times).ms)
      (events_are (ended_of c ran) c.events.all came.played (replay.events.counted.all ∙ replay.events.exact_all) replay.events.few_all)
      ∙ ap (λ (n : ℕ). rows_of_moment (events_until (ended_of c ran) came.played) n)
      (ms_are (ended_of c ran) c.times (events_played came.played) is.fits replay.times ∙ ms_all (ended_of c ran) came.played)) is.last;
  times = λ m rows there.
      let lt : m < length c.times.motes =
      omega (arith, get_within counted.motes.items m rows there, is.motes, replay.few, replay.times.motes) in
      mote_until (ended_of c ran) m c.times (events_played came.played) (table_of_rows rows) is.fits replay.times lt (is.power m rows there);
  each = λ m rows there.
      let lt : m < length c.events.motes =
      omega (arith, get_within counted.motes.items m rows there, is.motes, replay.few, replay.events.counted.motes) in
      mote_events c.events (ended_of c ran) m came.played (get_or c.events.motes m no_counts) (table_of_rows rows) replay.events
      (replay.events.counted.each m (get_or c.events.motes m no_counts) (get_there c.events.motes m no_counts lt)) (is.each m rows there);
  frames = λ m rows there.
      let are : AreFrames c.frames.sent.items c.frames.motes (events_played came.played) = (replay.frames kept).0 in
      let came_in : AreFromOutside c.frames.outside (events_played came.played) = (replay.frames kept).1 in
      let lt : m < length c.frames.motes =
      omega (arith, get_within counted.motes.items m rows there, is.motes, replay.few, are.many) in
      let in_outside : m < length c.frames.outside =
      omega (arith, get_within counted.motes.items m rows there, is.motes, replay.few, came_in.many) in
      mote_frames m (events_played came.played) c.frames.sent.items c.frames.motes (get_or c.frames.motes m no_frames) (get_or c.frames.outside m no_outside)
      (table_of_rows rows) replay.times.few short are (are.each m (get_or c.frames.motes m no_frames) (get_there c.frames.motes m no_frames lt))
      (came_in.each m (get_or c.frames.outside m no_outside) (get_there c.frames.outside m no_outside in_outside)) (is.frames m rows there);
  flash = λ m board rows there here awake.
      let lt : m < length (stores_in (beginning_of came.ground came.done).world) =
      omega (arith, get_within counted.motes.items m rows there, is.motes, replay.motes) in
      mote_flash (slice_index_or c.formatted m no_tally) (slice_index_or c.settled m no_tally) (operations_at m (events_played came.played) + made_at_end (ended_of c ran) came m) board.made
      (table_of_rows rows) (replay.chips.shown m board (omega (arith, lt, replay.motes, replay.few)) here)
      (subst (λ (o : Option EventPlace). PartsRise (operations_at m (events_played came.played) + made_at_end o came m) (counts_by c.formatted m) (counts_by c.settled m))
      (end_is c ran came wrote replay.ended) (replay.chips.made m board (omega (arith, lt, replay.motes)) here awake)) (is.flash m rows there);
  moments = record {
    wholes = c.wholes;
    kept = whole;
    noted = replay.wholes;
    motes = is.wholes;
    newest = is.all_kept.newest;
    newest_are =
        newest_are c is.all_kept.newest (stores_in (beginning_of came.ground came.done).world) (events_played came.played) is.all_kept.answers replay.motes
        (replay.wholes whole);
    all = is.all_kept.has;
  };
}

-- what a text shows of counts
pub text_shows : (asked : Form) (P Q : Counted → Type 0) (report text : List ℕ) → ((counted : Counted) → P counted → Q counted) → IsText asked P report text
    → IsText asked Q report text
text_shows (Table model) P Q report text f is = tt
text_shows Csv P Q report text f is = (is.0, is.1, f is.0 is.2)
text_shows (Json model) P Q report text f is = tt
text_shows Timed P Q report text f is = is

-- ---- a replay that was counted

-- the counter has counted this replay
abbrev pub SeenReplay : Counter → Status → (a b : Outside) → Type 0
SeenReplay c ran a b = (table : List Row) → (x : Replayed table ran a b) × CountedReplay ran c b.boards x.came

-- what a counter costs besides does not matter
cost_shows : (asked : Form) (c : Counter) (costs : Costs) (ran : Status) (a b : Outside) (report text : List ℕ)
    → ran ≢ WriteFault → c.frames.lost ≡ false → c.wholes.lost ≡ false → SeenReplay c ran a b → IsText asked (IsCountOf (record c { costs = costs }) ran) report text
    → IsText asked (CountsReplay ran a b) report text
cost_shows asked c costs ran a b report text wrote kept whole seen is =
    text_shows asked (IsCountOf (record c { costs = costs }) ran) (CountsReplay ran a b) report text shows is
  where
    same : (table : List Row) → CountedReplay ran (record c { costs = costs }) b.boards (seen table).0.came
    same table = record {
      events = (seen table).1.events;
      times = (seen table).1.times;
      frames = (seen table).1.frames;
      wholes = (seen table).1.wholes;
      motes = (seen table).1.motes;
      few = (seen table).1.few;
      ended = (seen table).1.ended;
      chips = record { shown = (seen table).1.chips.shown; made = (seen table).1.chips.made };
    }

    shows : (counted : Counted) → IsCountOf (record c { costs = costs }) ran counted → CountsReplay ran a b counted
    shows counted has table =
        ((seen table).0, run_rows (record c { costs = costs }) ran (seen table).0.came b.boards counted wrote kept whole (bring_few (seen table).0.input (seen table).0.came) (same table) has)

-- a report was kept, and no write of it failed
all_kept : (ran : Status) (a b : Outside) (kept report : List ℕ) (faults : ℕ) (before after : List Device) → faults ≤ 0
    → ReplayDone ran (with_report kept 0 before a) (with_report report faults after b) → ran ≢ WriteFault
all_kept ran a b kept report faults before after none done wrote =
    let failed : ReplayDone WriteFault (with_report kept 0 before a) (with_report report faults after b) =
    subst (λ (s : Status). ReplayDone s (with_report kept 0 before a) (with_report report faults after b)) wrote done in
    let rose : Rose 0 faults = (failed.replayed []).caused in
    omega (arith, none, rose)

-- A report was kept from none on, and the text was made of it and of the counts.
pub rehearsed : (asked : Form) (c : Counter) (costs : Costs) (ran status : Status) (a b : Outside) (kept report shown text : List ℕ)
    (faults : ℕ) (before after : List Device) → SameBoards a.boards before → SameBoards after b.boards → faults ≤ 0 → c.frames.lost ≡ false
    → c.wholes.lost ≡ false → kept ≡ [] → shown ≡ report
    → ReplayDone ran (with_report kept 0 before a) (with_report report faults after b)
    → SeenReplay c ran (with_report kept 0 before a) (with_report report faults after b)
    → IsText asked (IsCountOf (record c { costs = costs }) ran) shown text → CostWrote ran status text a b
    → Rehearsed asked status a b
rehearsed asked c costs ran status a b kept report shown text faults before after first last unfailed valid whole none same done seen is wrote = record {
  ran = ran;
  report = report;
  faults = faults;
  before = before;
  after = after;
  read_first = first;
  read_last = last;
  replayed = subst (λ (xs : List ℕ). ReplayDone ran (with_report xs 0 before a) end) none done;
  kept = all_kept ran a b kept report faults before after unfailed done;
  text = text;
  is_text = cost_shows asked c costs ran (with_report [] 0 before a) end report text (all_kept ran a b kept report faults before after unfailed done) valid whole
      (subst (λ (xs : List ℕ). SeenReplay c ran (with_report xs 0 before a) end) none seen)
      (subst (λ (xs : List ℕ). IsText asked (IsCountOf (record c { costs = costs }) ran) xs text) same is);
  wrote = wrote;
}
  where
    end : Outside
    end = with_report report faults after b

-- Counts of a whole run: declarations are not events, and a run has at most `most_events` events.
use Rattle.std.proofs.Common.{◌≡◌, ℕ, ◌+◌, ◌%◌, ◌^◌, ◌<◌, ◌≤◌, Bool, true, false, cond, List, [], ◌∷◌, ◌++◌, get_or, inl, inr, Result, Ok, Err, zero, suc, map, filter, count_by, length, refl, sym, ap, subst, ◌∙◌, arith}
use Rattle.std.specs.Prelude.{is_some, slice_get, nat_lt, Option, Some, None}
use Rattle.std.proofs.lemmas.Nat.{mod-mul-add}
use Rattle.std.proofs.lemmas.Bool.{both_ways, cases_lt, ltb-true, and_parts}
use Rattle.std.proofs.lemmas.List.{get_or-replicate}
use Rattle.std.proofs.lemmas.List.Sums.{sum_by-cons, length-filter, count_by-le-length}
use Rattle.dg_rules.specs.World.{World, first_world, off_site, no_site}
use Rattle.dg_rules.specs.Steps.{declared_as}
use Rattle.dg_volume.specs.Table.{row_at}
use Rattle.dg_rules.specs.Sizes.{most_motes, most_events}
use Rattle.dg_rules.specs.Runs.{Played, Plays, ItemStep}
use Rattle.dg_script.specs.Items.{Item, Declares, Applies}
use Rattle.dg_replay.specs.Items.{is_event, events_among}
use Rattle.dg_replay.specs.Replayed.{item_played}
use Rattle.dg_base.specs.declared.events.Event.{Event}
use Rattle.dg_world.specs.Deployments.{Deployment}
use Rattle.dg_world.specs.declared.world.WorldFault.{WorldFault}
use Rattle.dg_world.specs.declared.world.WorldFault.TheVariants.{TooMany}
use Rattle.dg_replay.specs.Shown.{events_played, LeadTo, IsApplied, IsPlaced}
use Rattle.dg_events.specs.Noted.{IsEventPlayed}
use Rattle.dg_events.specs.Told.{Happened, happening}
use Rattle.dg_events.specs.Counts.{passes, at, count_at, count_all, has_kind, is_refused, is_cut, is_start_by_power, is_start_by_order, is_cut_start_by_power, is_start_of}
use Rattle.dg_events.specs.Counters.{as_u64, told_count, AreCounts, CountsAre, HasCounted}
use Rattle.dg_events.specs.Uptimes.{is_on, on_from, ends_on, ms_of, IsBefore, HasTimed}
use Rattle.dg_events.specs.declared.uptime.Uptimes.{Uptimes}
use Rattle.dg_count.specs.Ended.{event_place}
use Rattle.dg_count.specs.Runs.{CountsEvent, IsSeenBy, CountedRun}
use Rattle.dg_events.specs.declared.event_counts.EventCounts.{EventCounts}
use Rattle.dg_events.specs.declared.event_counter.EventCounter.{EventCounter}
use Rattle.dg_events.specs.declared.frame_counter.FrameCounter.{FrameCounter}
use Rattle.dg_count.specs.Shown.{IsShown, CountsFrames}
use Rattle.dg_moments.specs.Moments.{event_moment, store_after, is_loaded}
use Rattle.dg_moments.specs.Looking.{ReadsBoards}
use Rattle.dg_moments.specs.Telling.{HasNoted, BringsWholes, PlacesWholes}
use Rattle.dg_count.proofs.GivenLemmas.{given_tells}
use Rattle.dg_rules.specs.Events.{mote_of, dt_of}
use Rattle.dg_events.specs.Kinds.{event_number}
use Rattle.dg_rules.specs.World.{store_at}
use Rattle.dg_volume.specs.Stands.{Stands}
use Rattle.dg_world.specs.Applying.{step_of}
use Rattle.dg_events.proofs.HaveLemmas.{event_tells}
use Rattle.dg_replay.proofs.ItemLemmas.{step_counts}
use Rattle.dg_moments.specs.declared.wholes.Wholes.{Wholes}
use Rattle.dg_world.specs.declared.world.World.{World as CodeWorld}
use Rattle.dg_count.specs.declared.place.EventPlace.{EventPlace}
use Rattle.dg_nor.specs.Device.{Device}
use Rattle.dg_object.specs.Object.{Row}
use Rattle.dg_script.specs.declared.report.Report.{Report}
use Rattle.dg_volume.specs.Store.{Store, held, fresh}
use Rattle.dg_rules.specs.Begins.{store_of}
use Rattle.dg_cost_text.specs.declared.moment.Moment.{Moment}

count_more : {X : Type 0} (p q : X → Bool) → ((x : X) → q x ≡ false → p x ≡ false) → (x : X) (xs : List X) (b : Bool) → q x ≡ b
    → count_by p (filter q xs) ≡ count_by p xs → count_by p (cond b (x ∷ filter q xs) (filter q xs)) ≡ count_by p (x ∷ xs)
count_more {X} p q none x xs true e rest =
    sum_by-cons (λ (y : X). cond (p y) 1 0) x (filter q xs) ∙ ap (λ (n : ℕ). cond (p x) 1 0 + n) rest
    ∙ sym (sum_by-cons (λ (y : X). cond (p y) 1 0) x xs)
count_more {X} p q none x xs false e rest =
    let zero_is : cond {A = ℕ} (p x) 1 0 ≡ 0 = ap (λ (b : Bool). cond {A = ℕ} b 1 0) (none x e) in
    let all : count_by p (x ∷ xs) ≡ cond {A = ℕ} (p x) 1 0 + count_by p xs = sum_by-cons (λ (y : X). cond (p y) 1 0) x xs in
    let same : count_by p xs ≡ count_by p (x ∷ xs) = omega (arith, all, zero_is) in
    rest ∙ same

-- leaving out what does not pass the test changes no count
count_filtered : {X : Type 0} (p q : X → Bool) → ((x : X) → q x ≡ false → p x ≡ false) → (xs : List X) → count_by p (filter q xs) ≡ count_by p xs
count_filtered p q none [] = refl
count_filtered p q none (x ∷ xs) = count_more p q none x xs (q x) refl (count_filtered p q none xs)

count_le : {X : Type 0} (p q : X → Bool) → ((x : X) → q x ≡ false → p x ≡ false) → (xs : List X) → count_by p xs ≤ count_by q xs
count_le p q none xs =
    omega (arith, count_filtered p q none xs, count_by-le-length p (filter q xs), length-filter q xs)

count_mapped : {X Y : Type 0} (p : Y → Bool) (f : X → Y) (xs : List X) → count_by p (map f xs) ≡ count_by (λ (x : X). p (f x)) xs
count_mapped p f [] = refl
count_mapped {X} {Y} p f (x ∷ xs) =
    sum_by-cons (λ (y : Y). cond (p y) 1 0) (f x) (map f xs) ∙ ap (λ (n : ℕ). cond (p (f x)) 1 0 + n) (count_mapped p f xs)
    ∙ sym (sum_by-cons (λ (y : X). cond (p (f y)) 1 0) x xs)

-- a declaration is not an event
no_event : (test : Happened → Bool) (i : Item) (w : World) → is_event i ≡ false → passes test (happening i w) ≡ false
no_event test (Declares row) w e = refl
no_event test (Applies step reported) w e = absurd (both_ways true e refl)

none_happens : (i : Item) (w : World) → is_event i ≡ false → is_some (happening i w) ≡ false
none_happens (Declares row) w e = refl
none_happens (Applies step reported) w e = absurd (both_ways true e refl)

among_events : (m : ℕ) (test : Happened → Bool) (played : List Played) → count_at m test (events_played played) ≡ count_at m test played
among_events m test played =
    count_filtered (λ (p : Played). passes (at m test) (happening p.item p.before)) (λ (p : Played). is_event p.item)
    (λ p e. no_event (at m test) p.item p.before e) played

all_events : (played : List Played) → count_all (events_played played) ≡ count_all played
all_events played =
    count_filtered (λ (p : Played). is_some (happening p.item p.before)) (λ (p : Played). is_event p.item) (λ p e. none_happens p.item p.before e) played

few : (m : ℕ) (test : Happened → Bool) (played : List Played) → events_among (map item_played played) ≤ most_events → count_at m test played ≤ most_events
few m test played most =
    omega (
      arith,
      most,
      count_mapped is_event item_played played,
      count_le (λ (p : Played). passes (at m test) (happening p.item p.before)) (λ (p : Played). is_event p.item)
          (λ p e. no_event (at m test) p.item p.before e) played,
    )

few_all : (played : List Played) → events_among (map item_played played) ≤ most_events → count_all played ≤ most_events
few_all played most =
    omega (
      arith,
      most,
      count_mapped is_event item_played played,
      count_le (λ (p : Played). is_some (happening p.item p.before)) (λ (p : Played). is_event p.item) (λ p e. none_happens p.item p.before e) played,
    )

below_end : (n k w : ℕ) → n ≤ k → k < w → n % w ≡ n
below_end n k w a b = ap (λ (j : ℕ). j % w) (omega arith) ∙ mod-mul-add 0 w n (omega (arith, a, b))

counts_all : (m : ℕ) (tests : ℕ → Happened → Bool) (played : List Played) (kinds : ℕ) (xs : List ℕ) → AreCounts m tests (events_played played) kinds xs
    → AreCounts m tests played kinds xs
counts_all m tests played kinds xs is =
    record { long = is.long; each = λ k lt. is.each k lt ∙ ap as_u64 (among_events m (tests k) played) }

one_all : (m : ℕ) (test : Happened → Bool) (played : List Played) (n : ℕ) → n ≡ told_count m test (events_played played) → n ≡ told_count m test played
one_all m test played n is = is ∙ ap as_u64 (among_events m test played)

mote_all : (m : ℕ) (played : List Played) (c : EventCounts) → CountsAre m (events_played played) c → CountsAre m played c
mote_all m played c is = record {
  events = counts_all m has_kind played 7 c.events is.events;
  refused = counts_all m is_refused played 11 c.refused is.refused;
  cuts = one_all m is_cut played c.cuts is.cuts;
  by_power = one_all m is_start_by_power played c.by_power is.by_power;
  by_order = one_all m is_start_by_order played c.by_order is.by_order;
  cut_by_power = one_all m is_cut_start_by_power played c.cut_by_power is.cut_by_power;
  of_image = counts_all m is_start_of played 7 c.of_image is.of_image;
}

-- the events of a run are counted
pub run_counted : (c : EventCounter) (played : List Played) → events_among (map item_played played) ≤ most_events → HasCounted c (events_played played) → CountedRun c played
run_counted c played most is = record {
  counted = record { all = is.all ∙ ap as_u64 (all_events played); motes = is.motes; each = λ m x there. mote_all m played x (is.each m x there) };
  few = λ m test. few m test played most;
  few_all = few_all played most;
  exact_all = below_end (count_all played) most_events (2 ^ 64) (few_all played most) (omega arith);
  exact = λ m test. below_end (count_at m test played) most_events (2 ^ 64) (few m test played most) (omega arith);
}

-- an event that a watcher is shown was played
pub event_played : {p : Played} {e : Event} {reported : Bool} {after : Deployment} → IsApplied p e reported after
    → IsEventPlayed e after.reported p
event_played {reported = reported} x = record { cut = x.cut; reported = reported; item = x.item; step = x.step; told = x.told }

-- ---- which motes are on

first_off : (stores : List Store) (m : ℕ) → is_some (get_or (map off_site stores) m no_site).runs ≡ false
first_off [] m = refl
first_off (s ∷ stores) zero = refl
first_off (s ∷ stores) (suc m) = first_off stores m

declared_on : (o : Option Row) (w : World) (row : Row) (m : ℕ) → is_on (declared_as o w row) m ≡ is_on w m
declared_on None w row m = refl
declared_on (Some kept) w row m = refl

-- what is no event turns no mote on or off
item_on : (i : Item) (w v : World) (lines : List Report) (m : ℕ) → ItemStep w i v lines → is_event i ≡ false → is_on v m ≡ is_on w m
item_on (Declares row) w v lines m step e = ap (λ (u : World). is_on u m) step.world ∙ declared_on (row_at w.declared row.image row.version) w row m
item_on (Applies s reported) w v lines m step e = absurd (both_ways true e refl)

events_on : (b : Bool) (was : Bool) (m : ℕ) (p : Played) (events : List Played) → (b ≡ false → is_on p.after m ≡ was)
    → on_from (is_on p.after m) m events ≡ on_from was m (cond b (p ∷ events) events)
events_on true was m p events same = refl
events_on false was m p events same = ap (λ (c : Bool). on_from c m events) (same refl)

plays_on : (u : World) (played : List Played) (w : World) (m : ℕ) → Plays u played w → is_on w m ≡ on_from (is_on u m) m (events_played played)
unfolding Plays
plays_on u [] w m h = sym (ap (λ (v : World). is_on v m) h)
plays_on u (p ∷ ps) w m h =
    plays_on p.after ps w m h.2
    ∙ events_on (is_event p.item) (is_on u m) m p (events_played ps)
    (λ e. item_on p.item p.before p.after p.reports m h.1 e ∙ ap (λ (v : World). is_on v m) h.0)

lead_on : {stores : List Store} {events : List Played} {w : World} (m : ℕ) → LeadTo stores events w → is_on w m ≡ ends_on m events
lead_on {stores} {events} {w} m l =
    plays_on (first_world l.table l.links l.narrow stores) l.played w m l.run
    ∙ ap (λ (b : Bool). on_from b m (events_played l.played)) (first_off stores m)
    ∙ ap (λ (es : List Played). on_from false m es) (sym l.are)

done_or_full : (r : Result (Unit {0}) WorldFault) → r ≡ Ok tt → r ≡ Err TooMany → ⊥
done_or_full r is full = absurd cc

-- what a watcher knows of the world before an event
pub world_before : {p : Played} {e : Event} {reported : Bool} {after : Deployment} {stores : List Store} {events : List Played} (count : ℕ)
    → LeadTo stores events p.before → IsApplied p e reported after → count ≡ length stores → length stores ≤ most_motes → IsBefore count events p.before
world_before {p} {events = events} count led is placed few = record {
  on = λ m. lead_on m led;
  motes = led.motes ∙ sym placed;
  few_motes = omega (arith, placed, few);
  few = elim (cases_lt p.before.events most_events) [
    | inl lt ↦ omega (arith, lt, led.counted)
    | inr ge ↦ absurd (done_or_full (Ok tt) refl (is.done.full p.before is.was (omega (arith, ge, is.was.few_events))))
  ];
}

-- an event is at a mote of the world after it
mote_after : {p : Played} {e : Event} {reported : Bool} {after : Deployment} {stores : List Store} {events : List Played} (count : ℕ)
    → LeadTo stores events p.before → IsApplied p e reported after → count ≡ length stores → mote_of e < count → mote_of e < length p.after.sites
mote_after {p} {e} {reported} {after} count led is placed lt =
    let step : ItemStep p.before (Applies (step_of e is.cut) reported) p.after p.reports = subst (λ (i : Item). ItemStep p.before i p.after p.reports) is.item is.step in
    let same : length p.after.sites ≡ length p.before.sites = (step_counts p.before p.after (step_of e is.cut) step.0 step.1).sites in
    omega (arith, lt, placed, same, led.motes)

-- the board of a mote stands for its store after an event, and is not stopped
pub stands_after : {p : Played} {e : Event} {reported : Bool} {after : Deployment} {stores : List Store} {events : List Played} (count : ℕ) (d : Device)
    → LeadTo stores events p.before → IsApplied p e reported after → count ≡ length stores → mote_of e < count
    → slice_get after.boards (mote_of e) ≡ Some d → Stands d.image (store_at p.after (mote_of e)) × (d.stopped ≡ false)
stands_after {p} {e} {reported} {after} count d led is placed lt there =
    let within : mote_of e < length p.after.sites = mote_after count led is placed lt in
    ((is.stands.sites (mote_of e) d within there).stands, is.awake (mote_of e) d within there)

-- there are boards for all motes
pub boards_after : {p : Played} {e : Event} {reported : Bool} {after : Deployment} {stores : List Store} {events : List Played}
    → LeadTo stores events p.before → IsApplied p e reported after → length stores ≤ length after.boards
boards_after {p} {e} {reported} led is =
    let step : ItemStep p.before (Applies (step_of e is.cut) reported) p.after p.reports = subst (λ (i : Item). ItemStep p.before i p.after p.reports) is.item is.step in
    let same : length p.after.sites ≡ length p.before.sites = (step_counts p.before p.after (step_of e is.cut) step.0 step.1).sites in
    omega (arith, is.stands.boards_enough, same, led.motes)

-- ---- what the chips stand for

first_store : (stores : List Store) (m : ℕ) → (get_or (map off_site stores) m no_site).store ≡ store_of stores m
first_store [] m = refl
first_store (s ∷ stores) zero = refl
first_store (s ∷ stores) (suc m) = first_store stores m

declared_store : (o : Option Row) (w : World) (row : Row) (m : ℕ) → store_at (declared_as o w row) m ≡ store_at w m
declared_store None w row m = refl
declared_store (Some kept) w row m = refl

-- what is no event changes no chip
item_store : (i : Item) (w v : World) (lines : List Report) (m : ℕ) → ItemStep w i v lines → is_event i ≡ false → store_at v m ≡ store_at w m
item_store (Declares row) w v lines m step e = ap (λ (u : World). store_at u m) step.world ∙ declared_store (row_at w.declared row.image row.version) w row m
item_store (Applies s reported) w v lines m step e = absurd (both_ways true e refl)

events_store : (b : Bool) (was : Store) (m : ℕ) (p : Played) (events : List Played) → (b ≡ false → store_at p.after m ≡ was)
    → store_after (store_at p.after m) m events ≡ store_after was m (cond b (p ∷ events) events)
events_store true was m p events same = refl
events_store false was m p events same = ap (λ (s : Store). store_after s m events) (same refl)

plays_store : (u : World) (played : List Played) (w : World) (m : ℕ) → Plays u played w → store_at w m ≡ store_after (store_at u m) m (events_played played)
unfolding Plays
plays_store u [] w m h = sym (ap (λ (v : World). store_at v m) h)
plays_store u (p ∷ ps) w m h =
    plays_store p.after ps w m h.2
    ∙ events_store (is_event p.item) (store_at u m) m p (events_played ps)
    (λ e. item_store p.item p.before p.after p.reports m h.1 e ∙ ap (λ (v : World). store_at v m) h.0)

-- the chips of a world, by the events that lead to it
pub lead_store : {stores : List Store} {events : List Played} {w : World} (m : ℕ) → LeadTo stores events w → store_at w m ≡ store_after (store_of stores m) m events
lead_store {stores} {events} {w} m l =
    plays_store (first_world l.table l.links l.narrow stores) l.played w m l.run
    ∙ ap (λ (s : Store). store_after s m (events_played l.played)) (first_store stores m)
    ∙ ap (λ (es : List Played). store_after (store_of stores m) m es) (sym l.are)

-- nothing but golden is kept by a chip that was formatted
loaded_empty : (name content : List ℕ) (n image : ℕ) → is_loaded image ≡ true → held (fresh name content n) image ≡ None
loaded_empty name content n zero loaded = absurd (both_ways false refl loaded)
loaded_empty name content n (suc k) loaded =
    get_or-replicate 6 k None None (omega (arith, ltb-true (suc k) 7 (and_parts (nat_lt 0 (suc k)) (nat_lt (suc k) 7) loaded).1))

formatted_empty : (motes : ℕ) (used : Option ℕ) (initial boards : List Device) (stores : List Store) → IsPlaced motes used initial boards stores → is_some used ≡ true
    → (m image : ℕ) → m < length stores → is_loaded image ≡ true → held (store_of stores m) image ≡ None
formatted_empty motes None initial boards stores is formatted m image lt loaded = absurd (both_ways false refl formatted)
formatted_empty motes (Some n) initial boards stores is formatted m image lt loaded =
    let f = is.formatted n refl in
    let there : m < motes = omega (arith, lt, is.stand.count) in
    ap (λ (ss : List Store). held (store_of ss m) image) f.2
    ∙ ap (λ (s : Store). held s image) (get_or-replicate motes m (fresh f.0 f.1 n) no_site.store there) ∙ loaded_empty f.0 f.1 n image loaded

none_used : (used : Option ℕ) → is_some used ≡ false → used ≡ None
none_used None e = refl
none_used (Some n) e = absurd (both_ways true e refl)

-- the boards of this many motes are used from now on
pub seen_placed : {counts : EventCounter} {times : Uptimes} {frames : FrameCounter} {wholes begun : Wholes} {placed motes : ℕ} {used : Option ℕ} {initial boards : List Device} (stores : List Store)
    → IsPlaced motes used initial boards stores → PlacesWholes wholes begun motes → (begun.mounted ≡ false → is_some used ≡ true) → (begun.mounted ≡ true → is_some used ≡ false)
    → ReadsBoards wholes.given.items initial × IsSeenBy counts times frames wholes placed [] []
    → ReadsBoards begun.given.items initial × IsSeenBy counts times frames begun motes stores []
seen_placed {wholes = wholes} {begun = begun} {motes = motes} {used = used} {initial = initial} {boards = boards} stores is places formatted mounted seen = (
  noted.0,
  record {
    counted = seen.1.counted;
    timed = seen.1.timed;
    framed = seen.1.framed;
    noted = noted.1;
    told = seen.1.told;
    motes = sym is.stand.count;
    few = omega (arith, is.stand.count, is.few);
  },
)
  where
    noted : HasNoted begun initial stores []
    noted = places initial stores (sym is.stand.count) (λ fresh_now m image lt loaded. formatted_empty motes used initial boards stores is (formatted fresh_now) m image lt loaded)
        (λ as_they_are reads. given_tells motes begun.given.items initial boards stores is.stand is.enough (is.same (none_used used (mounted as_they_are))) reads) (seen.0, seen.1.noted)

same_moment : (n k ms t : ℕ) → n ≡ k → ms ≡ t → ◌≡◌ {A = Moment} (record { event = n; ms = ms }) (record { event = k; ms = t })
same_moment n k ms t e f = ap (λ (j : ℕ). record { event = j; ms = ms }) e ∙ ap (λ (j : ℕ). record { event = k; ms = j }) f

-- the moment of a counter that has counted and timed these events
counted_moment : (events : List Played) (c : EventCounter) (t : Uptimes) → HasCounted c events → HasTimed t events
    → ◌≡◌ {A = Moment} (record { event = c.all; ms = t.ms }) (event_moment events)
counted_moment events c t counted timed =
    same_moment c.all (count_all events) t.ms (ms_of events)
    (counted.all
    ∙ below_end (count_all events) most_events (2 ^ 64)
    (omega (arith, timed.few, count_by-le-length (λ (p : Played). is_some (happening p.item p.before)) events)) (omega arith))
    timed.ms

-- one more event was counted
pub seen_event : {before after : EventCounter} {times later : Uptimes} {frames more : FrameCounter} {wholes new : Wholes} {world : CodeWorld} {boards : List Device} {placed still : ℕ} {e : Event} {lines : List Report} (initial : List Device) (stores : List Store) (events : List Played) (p : Played)
    → CountsEvent before after e lines → still ≡ placed
    → ((past : List Played) (q : Played) → IsEventPlayed e lines q → IsBefore placed past q.before → HasTimed times past → HasTimed later (past ++ q ∷ []))
    → CountsFrames frames more world e lines
    → BringsWholes wholes new placed (mote_of e) boards lines (record { event = after.all; ms = later.ms })
    → ((d : Device) → mote_of e < placed → slice_get boards (mote_of e) ≡ Some d → Stands d.image (store_at p.after (mote_of e)) × (d.stopped ≡ false))
    → length stores ≤ length boards → LeadTo stores events p.before
    → IsShown world e lines events p
    → IsEventPlayed e lines p → IsBefore placed events p.before
    → ReadsBoards wholes.given.items initial × IsSeenBy before times frames wholes placed stores events
    → ReadsBoards new.given.items initial × IsSeenBy after later more new still stores (events ++ p ∷ [])
seen_event {before = before} {after = after} {times = times} {later = later} {frames = frames} {wholes = wholes} {new = new} {placed = placed} {e = e} {lines = lines} initial stores events p counts same clock sent notes stands enough led shown is was both = (
  noted.0,
  record {
    counted = counts events p is seen.counted;
    timed = clock events p is was seen.timed;
    framed = sent events p shown seen.framed;
    noted = noted.1;
    told = seen.told;
    motes = same ∙ seen.motes;
    few = seen.few;
  },
)
  where
    seen : IsSeenBy before times frames wholes placed stores events
    seen = both.1

    noted : HasNoted new initial stores (events ++ p ∷ [])
    noted = notes initial stores events p seen.motes is.told
        (counted_moment (events ++ p ∷ []) after later (counts events p is seen.counted) (clock events p is was seen.timed))
        (record {
          few = was.few;
          enough = enough;
          before = λ m lt. lead_store m led;
          tells = λ lt. event_tells p is (omega (arith, lt, was.motes, seen.motes));
          stands = λ d lt there. (stands d (omega (arith, lt, seen.motes)) there).0;
          awake = λ d lt there. (stands d (omega (arith, lt, seen.motes)) there).1;
          others = λ m lt apart. seen.told.others e lines p is m apart;
          untold = λ image v lt known none. seen.told.untold e lines p is (mote_of e) image v known none;
        }) (both.0, seen.noted)

-- the event that ended a replay
pub place_is : (p : EventPlace) (e : Event) → p.mote ≡ mote_of e → p.dt ≡ dt_of e → p.kind ≡ event_number e → p ≡ event_place e
place_is p e mote dt kind =
    ap (λ (n : ℕ). record { mote = n; dt = p.dt; kind = p.kind }) mote ∙ ap (λ (n : ℕ). record { mote = mote_of e; dt = n; kind = p.kind }) dt
    ∙ ap (λ (n : ℕ). record { mote = mote_of e; dt = dt_of e; kind = n }) kind

-- The bytes that come from outside are few: a frame of a script has at most 64.
use Rattle.std.proofs.Common.{◌≡◌, ℕ, ◌+◌, ◌*◌, ◌≤◌, ◌==◌, ◌&&◌, not, Bool, true, false, cond, List, [], ◌∷◌, ◌++◌, length, Option, Some, sym, subst, arith}
use Rattle.std.specs.List.{AllByRecursion}
use Rattle.std.specs.Str.Lines.{lines}
use Rattle.std.proofs.lemmas.List.Sums.{sum_by-cons}
use Rattle.dg_base.specs.declared.events.Event.{Event}
use Rattle.dg_base.specs.declared.events.Event.TheVariants.{Tick, Hear, Last, Reset, Inject, Order as OrderEvent, Frame}
use Rattle.dg_object.specs.Object.{Row}
use Rattle.dg_script.specs.Items.{Item, Declares, Applies}
use Rattle.dg_script.specs.Places.{first_place}
use Rattle.dg_script.specs.Ranges.{EventInRange}
use Rattle.dg_rules.specs.World.{World}
use Rattle.dg_rules.specs.Events.{mote_of}
use Rattle.dg_rules.specs.Past.{brought}
use Rattle.dg_rules.specs.Premises.{ItemInRange, PlayedInRange}
use Rattle.dg_rules.specs.Runs.{Played}
use Rattle.dg_replay.specs.Ending.{script_of, has_unused_bytes, used}
use Rattle.dg_replay.specs.Items.{beginning_of, is_event}
use Rattle.dg_replay.specs.Replayed.{Progress, RunsTo}
use Rattle.dg_replay.specs.Shown.{events_played}
use Rattle.dg_replay.proofs.FirstLemmas.{run_or}
use Rattle.dg_replay.proofs.GoldenRuns.{script_run}
use Rattle.dg_replay.proofs.LineRanges.{LinesFit, script_fits, front_fits, rest_fits}
use Rattle.dg_events.specs.Told.{Happened, happened, happening}
use Rattle.dg_events.specs.Counts.{at}
use Rattle.dg_events.specs.Frames.{is_outside, bytes_brought, bytes_if, bytes_at}

-- ---- what is played of a script is in its ranges

lines_fit : (input : List ℕ) → LinesFit first_place (script_of input).lines
unfolding script_of
lines_fit input = script_fits (not (has_unused_bytes input)) first_place 1 (lines (used input))

run_in_range : {table : List Row} (input : List ℕ) (c : Progress table (script_of input)) (v : World) → c.last ≡ Some v
    → AllByRecursion (PlayedInRange (beginning_of c.ground c.done).motes) c.played
run_in_range input c v is =
    let fit : LinesFit first_place (c.done ++ c.rest) = subst (LinesFit first_place) (sym c.lines) (lines_fit input) in
    (script_run c.ground c.done c.rest c.begun c.left c.played v (front_fits first_place c.done c.rest fit) (rest_fits first_place c.done c.rest fit) c.parts c.items
    (subst (λ (o : Option World). RunsTo (beginning_of c.ground c.done).world c.played o) is c.run)).ranges

played_in_range : {table : List Row} (input : List ℕ) (c : Progress table (script_of input)) → AllByRecursion (PlayedInRange (beginning_of c.ground c.done).motes) c.played
played_in_range input c =
    run_or (beginning_of c.ground c.done).world c.last c.played c.run
    (λ (played : List Played) (last : Option World). AllByRecursion (PlayedInRange (beginning_of c.ground c.done).motes) played) tt (λ v is. run_in_range input c v is)

-- ---- the bytes of an event

few_if : (b : Bool) (n : ℕ) → n ≤ 64 → cond b n 0 ≤ 64
few_if true n few = few
few_if false n few = omega arith

none_if : (b : Bool) (n : ℕ) → cond (b && false) n 0 ≤ 64
none_if true n = omega arith
none_if false n = omega arith

event_few : (motes : ℕ) (b c : Bool) (w : World) (e : Event) → EventInRange motes e → cond (b && (is_outside e && c)) (bytes_brought (brought w e)) 0 ≤ 64
event_few motes b c w (Tick m dt word) h = none_if b (bytes_brought (brought w (Tick m dt word)))
event_few motes b c w (Hear m dt word frame) h = none_if b (bytes_brought (brought w (Hear m dt word frame)))
event_few motes b c w (Last from to dt word) h = none_if b (bytes_brought (brought w (Last from to dt word)))
event_few motes b c w (Reset m dt word) h = none_if b (bytes_brought (brought w (Reset m dt word)))
event_few motes b c w (Inject m image version dt word) h = none_if b (bytes_brought (brought w (Inject m image version dt word)))
event_few motes b c w (OrderEvent m number image version dt word) h = none_if b (bytes_brought (brought w (OrderEvent m number image version dt word)))
event_few motes b c w (Frame m dt word bytes) h = few_if (b && c) (length bytes) h.1.few

item_few : (motes m : ℕ) (rest : Happened → Bool) (i : Item) (w : World) → ItemInRange motes i
    → bytes_if (at m (λ (x : Happened). is_outside x.event && rest x)) (happening i w) ≤ 64
item_few motes m rest (Declares row) w h = omega arith
item_few motes m rest (Applies step reported) w h = event_few motes (mote_of step.event == m) (rest (happened w step)) w step.event h.event

-- ---- the bytes of a run

-- so few bytes come from outside to a mote in these events, whatever else is asked of them
abbrev pub BringFew : List Played → Type 0
BringFew events = (m : ℕ) (rest : Happened → Bool) → bytes_at m (λ (x : Happened). is_outside x.event && rest x) events ≤ length events * 64

more_few : (b : Bool) (m : ℕ) (test : Happened → Bool) (p : Played) (events : List Played) → bytes_if (at m test) (happening p.item p.before) ≤ 64
    → bytes_at m test events ≤ length events * 64 → bytes_at m test (cond b (p ∷ events) events) ≤ length (cond b (p ∷ events) events) * 64
more_few true m test p events one rest =
    let all : bytes_at m test (p ∷ events) ≡ bytes_if (at m test) (happening p.item p.before) + bytes_at m test events =
    sum_by-cons (λ (q : Played). bytes_if (at m test) (happening q.item q.before)) p events in
    omega (arith, all, one, rest)
more_few false m test p events one rest = rest

events_few : (motes m : ℕ) (rest : Happened → Bool) (played : List Played) → AllByRecursion (PlayedInRange motes) played
    → bytes_at m (λ (x : Happened). is_outside x.event && rest x) (events_played played) ≤ length (events_played played) * 64
events_few motes m rest [] h = omega arith
events_few motes m rest (p ∷ ps) h =
    more_few (is_event p.item) m (λ (x : Happened). is_outside x.event && rest x) p (events_played ps) (item_few motes m rest p.item p.before h.0)
    (events_few motes m rest ps h.1)

pub bring_few : {table : List Row} (input : List ℕ) (c : Progress table (script_of input)) → BringFew (events_played c.played)
bring_few input c m rest = events_few (beginning_of c.ground c.done).motes m rest c.played (played_in_range input c)

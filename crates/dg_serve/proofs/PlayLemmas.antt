-- What an event at a board is by its kind: a reset, a tick, or a frame.
use Rattle.std.proofs.Common.{◌≡◌, ◌⊎◌, ℕ, ◌<◌, List, length, set, ap, sym, ◌∙◌, subst, ⊎_elim, inl, inr, arith}
use Rattle.std.specs.Prelude.{Bool, not, true, false, slice_get, slice_index_or, take, option_map, Option, Some, None, Result, Ok, Err}
use Rattle.dg_base.specs.declared.events.Event.{Event}
use Rattle.dg_base.specs.declared.events.Event.TheVariants.{Tick, Hear, Last, Reset, Inject, Order, Frame}
use Rattle.dg_mote.specs.Motes.{sent_in}
use Rattle.dg_mote.specs.declared.outbox.Outbox.{Outbox}
use Rattle.dg_nor.specs.Device.{Device, Endures}
use Rattle.dg_nor.specs.Fuse.{beneath_of}
use Rattle.dg_volume.specs.Stands.{Stands, IsVolume, IsNoVolume}
use Rattle.dg_script.specs.Places.{none_narrow}
use Rattle.dg_rules.specs.World.{World, Running, site, is_wide_mote, wide_at, store_at}
use Rattle.dg_rules.specs.Premises.{WorldTimely}
use Rattle.dg_script.specs.Ranges.{EventInRange, StepInRange}
use Rattle.dg_rules.specs.Events.{mote_of, dt_of}
use Rattle.dg_rules.specs.Steps.{WorldStep}
use Rattle.dg_base.specs.declared.events.Step.{Step}
use Rattle.dg_script.specs.declared.report.Report.{Report}
use Rattle.dg_world.specs.Worlds.{MoteStands, SiteStands}
use Rattle.dg_world.specs.Alone.{uncut, IsAlone, IsReset, AloneDone, PlaysAlone, CountKeeps}
use Rattle.dg_world.specs.declared.outcome.Fault.{Fault}
use Rattle.dg_world.specs.declared.outcome.Fault.TheVariants as fault
use Rattle.dg_node.specs.declared.node.Node.{Node}
use Rattle.dg_link.specs.Inboxes.{Inboxes}
use Rattle.dg_shared.specs.Airs.{sent_now}
use Rattle.dg_serve.specs.Services.{Moment, Steps, new_frames, handed_to}
use Rattle.dg_serve.specs.inner.Stretches.{neighbours_by}
use Rattle.dg_serve.specs.Endings.{ServedBoardsStand, EventEnds, HandedToFirst}
use Rattle.dg_serve.specs.Standings.{Standing, StandsFor, PlayedAt, at_mote, begun_before, begun_behind, handed_by, HandedToSome, stop_by}
use Rattle.dg_serve.proofs.OpenLemmas.{one_in}
use Rattle.dg_serve.proofs.BoardLemmas.{got_within}
use Rattle.dg_serve.proofs.EventLemmas.{got_some, behind, steps_on, frames_of, IsHere, stands_then, boards_then, stops_in, finds_no_volume, finds_no_image}

-- the law that keeps motes in time
abbrev pub KeepsTime : Type 0
KeepsTime = (w v : World) (x : Step) (reports : List Report) → WorldTimely w → StepInRange (length w.sites) x → WorldStep w x v reports → WorldTimely v

-- what ran at a mote
abbrev pub ran_at : Standing → ℕ → Option Node
ran_at p mote = slice_index_or p.service.motes.items mote None

-- An event was played at the board of this mote.
pub record Setting (motes mote : ℕ) (event : Event) (r : Result Outbox Fault) (p q : Standing) : Type 0 where
  pub played : PlayedAt r event mote p.service.timeline.moment (at_mote (ran_at p mote) p.boards) (at_mote (ran_at q mote) q.boards)
  pub put : q.service.motes.items ≡ set p.service.motes.items mote (ran_at q mote)
  pub timeline : q.service.timeline ≡ p.service.timeline
  pub known : mote < motes
  pub many : length p.service.motes.items ≡ motes
  pub off : IsReset event → ran_at p mote ≡ None

pub setting_at : (motes mote : ℕ) (event : Event) (r : Result Outbox Fault) (p q : Standing) → mote_of event ≡ mote → Setting motes mote event r p q → Setting motes (mote_of event) event r p q
setting_at motes mote event r p q at x = subst (λ m. Setting motes m event r p q) (sym at) x

-- ---- a board whose mote did not begin

pub off_stands : (a before : Device) (v : Option Node) (w : World) (m : ℕ) → v ≡ None → (before.image ≡ a.image) × ((site w m).runs ≡ None) × (Stands a.image (store_at w m) ⊎ IsNoVolume a.image) → IsVolume a.image → SiteStands before v (site w m)
off_stands a before v w m off x volume =
    let stands : Stands a.image (store_at w m) = ⊎_elim (λ s. s) (λ none. absurd (none volume.0 volume.1)) x.2 in
    let P : Option Node → Option Running → Type 0 = λ o r. MoteStands before.image o (store_at w m) r in
    record {
      stands = subst (λ c. Stands c (store_at w m)) (sym x.0) stands;
      mote = subst (λ o. P o (site w m).runs) (sym off) (subst (λ r. P None r) (sym x.1) tt);
    }

-- an event of a mote that began
here_on : (links : List (ℕ × ℕ)) (motes : ℕ) (event : Event) (r : Result Outbox Fault) (first : List Device) (s : Moment) (p q : Standing) (x : Setting motes (mote_of event) event r p q) → StandsFor motes motes links (dt_of event) first s p
    → IsHere links motes motes motes (dt_of event) event first s p q x.played.before x.played.after (ran_at p (mote_of event)) (ran_at q (mote_of event))
here_on links motes event r first s p q x st = record {
  stands = st;
  known = x.known;
  many = x.many;
  was = x.played.was;
  put = x.played.put;
  motes_put = x.put;
  timeline = x.timeline;
  inside = x.known;
  others_on = λ k other within. within;
  others_off = λ k out. out;
  site_of = λ a was volume. (st.on (mote_of event) a x.played.before x.known was x.played.was).1;
  image_of = λ a was none. let v = (st.on (mote_of event) a x.played.before x.known was x.played.was).0 in absurd (none v.0 v.1);
}

pub is_here : (links : List (ℕ × ℕ)) (motes : ℕ) (event : Event) (r : Result Outbox Fault) (first : List Device) (s : Moment) (p q : Standing) → IsAlone event → (x : Setting motes (mote_of event) event r p q) → StandsFor motes (begun_before motes event) links (dt_of event) first s p
    → IsHere links motes (begun_before motes event) (begun_behind motes event) (dt_of event) event first s p q x.played.before x.played.after (ran_at p (mote_of event)) (ran_at q (mote_of event))
is_here links motes (Tick m dt word) r first s p q alone x st = here_on links motes (Tick m dt word) r first s p q x st
is_here links motes (Frame m dt word bytes) r first s p q alone x st = here_on links motes (Frame m dt word bytes) r first s p q x st
is_here links motes (Reset m dt word) r first s p q alone x st = record {
  stands = st;
  known = x.known;
  many = x.many;
  was = x.played.was;
  put = x.played.put;
  motes_put = x.put;
  timeline = x.timeline;
  inside = omega arith;
  others_on = λ k other within. omega arith;
  others_off = λ k out. omega arith;
  site_of = λ a was volume. off_stands a x.played.before (ran_at p m) s.world m (x.off tt) (st.off m a x.played.before (omega arith) x.known was x.played.was) volume;
  image_of = λ a was none. (st.off m a x.played.before (omega arith) x.known was x.played.was).0;
}
is_here links motes (Hear m dt word frame) r first s p q alone x st = absurd alone
is_here links motes (Last from to dt word) r first s p q alone x st = absurd alone
is_here links motes (Inject m image version dt word) r first s p q alone x st = absurd alone
is_here links motes (Order m number image version dt word) r first s p q alone x st = absurd alone

-- ---- whose board is a volume

pub volume_on : (links : List (ℕ × ℕ)) (motes : ℕ) (event : Event) (r : Result Outbox Fault) (first : List Device) (s : Moment) (p q : Standing) → IsAlone event → (x : Setting motes (mote_of event) event r p q) → StandsFor motes (begun_before motes event) links (dt_of event) first s p
    → (IsReset event → IsVolume x.played.before.image) → (a : Device) → slice_get first (mote_of event) ≡ Some a → IsVolume a.image
volume_on links motes (Tick m dt word) r first s p q alone x st told a was = (st.on m a x.played.before x.known was x.played.was).0
volume_on links motes (Frame m dt word bytes) r first s p q alone x st told a was = (st.on m a x.played.before x.known was x.played.was).0
volume_on links motes (Reset m dt word) r first s p q alone x st told a was = subst IsVolume (st.off m a x.played.before (omega arith) x.known was x.played.was).0 (told tt)
volume_on links motes (Hear m dt word frame) r first s p q alone x st told a was = absurd alone
volume_on links motes (Last from to dt word) r first s p q alone x st told a was = absurd alone
volume_on links motes (Inject m image version dt word) r first s p q alone x st told a was = absurd alone
volume_on links motes (Order m number image version dt word) r first s p q alone x st told a was = absurd alone

-- every mote of a service is wide
is_wide : (w : World) (m : ℕ) → w.narrow ≡ none_narrow → wide_at w m ≡ true
is_wide w m none = ap (λ (narrow : List Bool). is_wide_mote narrow m) none ∙ ap not (one_in false 16 m)

-- ---- what is known of the board without a moment

-- the moment of some service
abbrev pub ForSome : (motes : ℕ) → List (ℕ × ℕ) → Event → Standing → Type 0
ForSome motes links event p = (first : List Device) × (s : Moment) × StandsFor motes (begun_before motes event) links (dt_of event) first s p

abbrev Kept : Result Outbox Fault → Device → Device → Type 0
Kept r a b = Endures (beneath_of a) (beneath_of b) × CountKeeps r a b

module _ (links : List (ℕ × ℕ)) (motes : ℕ) (event : Event) (r : Result Outbox Fault) (p q : Standing) (alone : IsAlone event) (x : Setting motes (mote_of event) event r p q) where
  -- what the rules say of it
  pub played_for : (first : List Device) (s : Moment) → StandsFor motes (begun_before motes event) links (dt_of event) first s p → (a : Device) → slice_get first (mote_of event) ≡ Some a → IsVolume a.image
      → PlaysAlone r s.world event (ran_at q (mote_of event)) x.played.before x.played.after
  played_for first s st a was volume =
      let h = is_here links motes event r first s p q alone x st in
      x.played.plays s.world (h.site_of a was volume) (omega (arith, x.known, st.sites)) st.moment (is_wide s.world (mote_of event) st.wide)

-- its board among those at the beginning
first_at : (links : List (ℕ × ℕ)) (motes begun ahead : ℕ) (mote : ℕ) (first : List Device) (s : Moment) (p : Standing) (before : Device) → StandsFor motes begun links ahead first s p → slice_get p.boards mote ≡ Some before → (a : Device) × (slice_get first mote ≡ Some a)
first_at links motes begun ahead mote first s p before st was = got_some first mote (let n = st.count in let k = got_within p.boards mote before was in omega (arith, n, k))

-- the board endures the event, and its count does not change unless it stopped
pub kept : (links : List (ℕ × ℕ)) (motes : ℕ) (event : Event) (r : Result Outbox Fault) (p q : Standing) (alone : IsAlone event) (x : Setting motes (mote_of event) event r p q) → (IsReset event ⊎ ForSome motes links event p) → Kept r x.played.before x.played.after
kept links motes (Tick m dt word) r p q alone x (inl reset) = absurd reset
kept links motes (Tick m dt word) r p q alone x (inr y) =
    let a = first_at links motes motes dt m y.0 y.1 p x.played.before y.2 x.played.was in
    let z = played_for links motes (Tick m dt word) r p q alone x y.0 y.1 y.2 a.0 a.1 (y.2.on m a.0 x.played.before x.known a.1 x.played.was).0 in
    (z.endures, z.count)
kept links motes (Frame m dt word bytes) r p q alone x (inl reset) = absurd reset
kept links motes (Frame m dt word bytes) r p q alone x (inr y) =
    let a = first_at links motes motes dt m y.0 y.1 p x.played.before y.2 x.played.was in
    let z = played_for links motes (Frame m dt word bytes) r p q alone x y.0 y.1 y.2 a.0 a.1 (y.2.on m a.0 x.played.before x.known a.1 x.played.was).0 in
    (z.endures, z.count)
kept links motes (Reset m dt word) r p q alone x known = let y = x.played.powers tt in (y.endures, y.count)
kept links motes (Hear m dt word frame) r p q alone x known = absurd alone
kept links motes (Last from to dt word) r p q alone x known = absurd alone
kept links motes (Inject m image version dt word) r p q alone x known = absurd alone
kept links motes (Order m number image version dt word) r p q alone x known = absurd alone

-- ---- it was done

module _ (links : List (ℕ × ℕ)) (motes : ℕ) (event : Event) (out : Outbox) (p q : Standing) (alone : IsAlone event) (x : Setting motes (mote_of event) event (Ok out) p q) (time : KeepsTime) (fits : EventInRange motes event) (first : List Device) (s : Moment) (st : StandsFor motes (begun_before motes event) links (dt_of event) first s p) where
  volume : (a : Device) → slice_get first (mote_of event) ≡ Some a → IsVolume a.image
  volume = volume_on links motes event (Ok out) first s p q alone x st (λ reset. (x.played.powers reset).ends)

  done_at : AloneDone s.world event (ran_at q (mote_of event)) (sent_in out) x.played.after
  done_at =
      let a = first_at links motes (begun_before motes event) (dt_of event) (mote_of event) first s p x.played.before st x.played.was in
      (played_for links motes event (Ok out) p q alone x first s st a.0 a.1 (volume a.0 a.1)).ends

  pub then : Moment
  then = behind motes s done_at.done.world

  timely_then : WorldTimely done_at.done.world
  timely_then = time s.world done_at.done.world (uncut event) done_at.done.reports st.timely (record { event = subst (λ n. EventInRange n event) (sym st.sites) fits; cut = tt }) done_at.done.step

  pub steps_then : Steps motes s event then
  unfolding then
  steps_then = steps_on motes s event (ran_at q (mote_of event)) (sent_in out) x.played.after done_at.reported done_at.done

  pub stands_behind : q.clock ≡ p.clock → q.inboxes ≡ option_map (handed_by links motes (mote_of event) (sent_in out)) p.inboxes → StandsFor motes (begun_behind motes event) links 0 first then q
  unfolding then
  stands_behind clock handed_on =
      stands_then links motes (begun_before motes event) (begun_behind motes event) (dt_of event) event first s p q x.played.before x.played.after (ran_at p (mote_of event)) (ran_at q (mote_of event))
      (is_here links motes event (Ok out) first s p q alone x st) (sent_in out) done_at.reported done_at.done volume timely_then st.moment clock handed_on

  pub boards_behind : ServedBoardsStand then.world first q.boards
  unfolding then
  boards_behind =
      boards_then links motes (begun_before motes event) (begun_behind motes event) (dt_of event) event first s p q x.played.before x.played.after (ran_at p (mote_of event)) (ran_at q (mote_of event))
      (is_here links motes event (Ok out) first s p q alone x st) (sent_in out) done_at.reported done_at.done volume timely_then st.moment

  -- the frame that it sent, if it sent one
  pub frames_behind : (new_frames s.world then.world ≡ sent_now (mote_of event) (sent_in out)) × (then.world.links ≡ links)
  unfolding then
  frames_behind = (
    frames_of s event (ran_at q (mote_of event)) (sent_in out) x.played.after done_at.reported done_at.done,
    done_at.done.links ∙ st.linked,
  )

-- ---- which motes a frame was forwarded to

-- some of the neighbours have it
pub some_handed : (links : List (ℕ × ℕ)) (motes mote : ℕ) (s t : Moment) (frame : Option (List ℕ)) (before after : Option Inboxes) → new_frames s.world t.world ≡ sent_now mote frame → t.world.links ≡ links → HandedToSome links motes mote frame before after
    → HandedToFirst motes s.world t.world before after
some_handed links motes mote s t None before after sent linked some = absurd some
some_handed links motes mote s t (Some bytes) before after sent linked some = record {
  frame = record { by = mote; bytes = bytes };
  sent = sent;
  k = some.0;
  some = subst (λ (l : List (ℕ × ℕ)). after ≡ option_map (handed_to (take some.0 (neighbours_by l motes mote)) bytes) before) (sym linked) some.1;
}

-- ---- it was not done

-- a board of which nothing was known keeps its bytes
same_on : (links : List (ℕ × ℕ)) (motes : ℕ) (event : Event) (r : Result Outbox Fault) (first : List Device) (s : Moment) (p q : Standing) → IsAlone event → (x : Setting motes (mote_of event) event r p q) → StandsFor motes (begun_before motes event) links (dt_of event) first s p
    → (IsReset event → IsNoVolume x.played.before.image → x.played.after.image ≡ x.played.before.image) → (a : Device) → slice_get first (mote_of event) ≡ Some a → IsNoVolume a.image → x.played.after.image ≡ x.played.before.image
same_on links motes (Tick m dt word) r first s p q alone x st told a was none = let v = (st.on m a x.played.before x.known was x.played.was).0 in absurd (none v.0 v.1)
same_on links motes (Frame m dt word bytes) r first s p q alone x st told a was none = let v = (st.on m a x.played.before x.known was x.played.was).0 in absurd (none v.0 v.1)
same_on links motes (Reset m dt word) r first s p q alone x st told a was none = told tt (subst IsNoVolume (sym (st.off m a x.played.before (omega arith) x.known was x.played.was).0) none)
same_on links motes (Hear m dt word frame) r first s p q alone x st told a was none = absurd alone
same_on links motes (Last from to dt word) r first s p q alone x st told a was none = absurd alone
same_on links motes (Inject m image version dt word) r first s p q alone x st told a was none = absurd alone
same_on links motes (Order m number image version dt word) r first s p q alone x st told a was none = absurd alone

-- the board is stopped
stopped_on : (links : List (ℕ × ℕ)) (motes : ℕ) (event : Event) (first : List Device) (s : Moment) (p q : Standing) → (alone : IsAlone event) → (x : Setting motes (mote_of event) event (Err fault.Stopped) p q) → StandsFor motes (begun_before motes event) links (dt_of event) first s p → x.played.after.stopped ≡ true
stopped_on links motes (Tick m dt word) first s p q alone x st =
    let a = first_at links motes motes dt m first s p x.played.before st x.played.was in
    (played_for links motes (Tick m dt word) (Err fault.Stopped) p q alone x first s st a.0 a.1 (st.on m a.0 x.played.before x.known a.1 x.played.was).0).ends.stopped
stopped_on links motes (Frame m dt word bytes) first s p q alone x st =
    let a = first_at links motes motes dt m first s p x.played.before st x.played.was in
    (played_for links motes (Frame m dt word bytes) (Err fault.Stopped) p q alone x first s st a.0 a.1 (st.on m a.0 x.played.before x.known a.1 x.played.was).0).ends.stopped
stopped_on links motes (Reset m dt word) first s p q alone x st = (x.played.powers tt).ends.stopped
stopped_on links motes (Hear m dt word frame) first s p q alone x st = absurd alone
stopped_on links motes (Last from to dt word) first s p q alone x st = absurd alone
stopped_on links motes (Inject m image version dt word) first s p q alone x st = absurd alone
stopped_on links motes (Order m number image version dt word) first s p q alone x st = absurd alone

-- a board that is found not to be a volume is that of a mote that begins
begins_there : (links : List (ℕ × ℕ)) (motes : ℕ) (event : Event) (first : List Device) (s : Moment) (p q : Standing) → (alone : IsAlone event) → (x : Setting motes (mote_of event) event (Err fault.NotAVolume) p q) → StandsFor motes (begun_before motes event) links (dt_of event) first s p → IsReset event
begins_there links motes (Tick m dt word) first s p q alone x st =
    let a = first_at links motes motes dt m first s p x.played.before st x.played.was in
    absurd (played_for links motes (Tick m dt word) (Err fault.NotAVolume) p q alone x first s st a.0 a.1 (st.on m a.0 x.played.before x.known a.1 x.played.was).0).ends
begins_there links motes (Frame m dt word bytes) first s p q alone x st =
    let a = first_at links motes motes dt m first s p x.played.before st x.played.was in
    absurd (played_for links motes (Frame m dt word bytes) (Err fault.NotAVolume) p q alone x first s st a.0 a.1 (st.on m a.0 x.played.before x.known a.1 x.played.was).0).ends
begins_there links motes (Reset m dt word) first s p q alone x st = tt
begins_there links motes (Hear m dt word frame) first s p q alone x st = absurd alone
begins_there links motes (Last from to dt word) first s p q alone x st = absurd alone
begins_there links motes (Inject m image version dt word) first s p q alone x st = absurd alone
begins_there links motes (Order m number image version dt word) first s p q alone x st = absurd alone

pub failed_run : (links : List (ℕ × ℕ)) (motes : ℕ) (event : Event) (f : Fault) (p q : Standing) (alone : IsAlone event) (x : Setting motes (mote_of event) event (Err f) p q) (first : List Device) (s : Moment) → StandsFor motes (begun_before motes event) links (dt_of event) first s p
    → EventEnds (stop_by f) s.world event first q.boards
failed_run links motes event fault.Stopped p q alone x first s st =
    stops_in links motes (begun_before motes event) (begun_behind motes event) (dt_of event) event first s p q x.played.before x.played.after (ran_at p (mote_of event)) (ran_at q (mote_of event))
    (is_here links motes event (Err fault.Stopped) first s p q alone x st)
    (stopped_on links motes event first s p q alone x st)
    (λ a was volume. (played_for links motes event (Err fault.Stopped) p q alone x first s st a was volume).ends)
    (same_on links motes event (Err fault.Stopped) first s p q alone x st (λ reset none. (x.played.powers reset).ends.same none))
failed_run links motes event fault.NotAVolume p q alone x first s st =
    let none : (a : Device) → slice_get first (mote_of event) ≡ Some a → IsNoVolume a.image = λ a was store stands. (played_for links motes event (Err fault.NotAVolume) p q alone x first s st a was (store, stands)).ends in
    let a = first_at links motes (begun_before motes event) (dt_of event) (mote_of event) first s p x.played.before st x.played.was in
    finds_no_volume links motes (begun_before motes event) (begun_behind motes event) (dt_of event) event first s p q x.played.before x.played.after (ran_at p (mote_of event)) (ran_at q (mote_of event))
    (is_here links motes event (Err fault.NotAVolume) first s p q alone x st)
    (begins_there links motes event first s p q alone x st)
    none
    (same_on links motes event (Err fault.NotAVolume) first s p q alone x st (λ reset never. (x.played.powers reset).ends.1.same_image) a.0 a.1 (none a.0 a.1))
failed_run links motes event fault.NoImage p q alone x first s st =
    let volume = volume_on links motes event (Err fault.NoImage) first s p q alone x st (λ reset. (x.played.powers reset).ends) in
    let a = first_at links motes (begun_before motes event) (dt_of event) (mote_of event) first s p x.played.before st x.played.was in
    finds_no_image links motes (begun_before motes event) (begun_behind motes event) (dt_of event) event first s p q x.played.before x.played.after (ran_at p (mote_of event)) (ran_at q (mote_of event))
    (is_here links motes event (Err fault.NoImage) first s p q alone x st)
    volume
    (played_for links motes event (Err fault.NoImage) p q alone x first s st a.0 a.1 (volume a.0 a.1)).ends

-- How a part of a service ends, from the timing before its event, and from how that ended.
use Rattle.std.proofs.Common.{◌≡◌, ◌≢◌, ◌⊎◌, ℕ, ◌+◌, ◌^◌, ◌<◌, ◌≤◌, List, [], ◌∷◌, length, append-nil, refl, ap, sym, ◌∙◌, subst, ⊎_elim, inl, inr, arith}
use Rattle.std.specs.Prelude.{slice_get, slice_index_or, Option, Some, None, Result, Ok, Err, IfSome}
use Rattle.dg_words.specs.Counts.{Rose}
use Rattle.dg_base.specs.Outside.{Puts}
use Rattle.dg_base.specs.declared.events.Event.{Event}
use Rattle.dg_base.specs.declared.events.Event.TheVariants.{Tick, Reset, Frame}
use Rattle.dg_link.specs.Inboxes.{Inboxes, TakesFrame}
use Rattle.dg_script.specs.Ranges.{IsFrame}
use Rattle.dg_script.specs.Fitting.{FitsLine}
use Rattle.dg_script.specs.declared.line.Line.TheVariants.{Happens as EventLine}
use Rattle.dg_nor.specs.Device.{Device}
use Rattle.dg_volume.specs.Stands.{IsVolume}
use Rattle.dg_rules.specs.World.{World, Running, site}
use Rattle.dg_rules.specs.Events.{mote_of, dt_of}
use Rattle.dg_volume.specs.Store.{Store}
use Rattle.dg_mote.specs.Timely.{Timely}
use Rattle.dg_mote.proofs.TimelyLemmas.{timely_later}
use Rattle.dg_world.specs.Alone.{IsAlone, IsReset}
use Rattle.dg_world.specs.Worlds.{MayRun, MoteStands}
use Rattle.dg_node.specs.declared.node.Node.{Node}
use Rattle.dg_serve.specs.Services.{Part, Begins, Looks, Ticks, Moment, Steps, EventApplied, PartDone}
use Rattle.dg_serve.specs.inner.Runs.{event_lines}
use Rattle.dg_serve.specs.Endings.{ServedBoardsStand, FindsNoImage, FindsNoVolume, EventEnds, EndsInNext, TakesFor, FoundBy, HandedToFirst, PartlyHanded, StopLeaves, event_of}
use Rattle.dg_serve.specs.inner.Stretches.{course, remains}
use Rattle.dg_serve.specs.Standings.{Standing, StandsFor, StandsForSome, StandsReady, IsUnderWay, EventAsks, BoardsAreUsed, BoardsAreCalm, ServedParts, PartsHalted, PartsGoOn, stretch, AppliedAt, NotApplied, HandedThen, AppliedPartly, ApplyEnds, begun_before, begun_behind}
use Rattle.dg_serve.specs.declared.stop.Stop.{Stop}
use Rattle.dg_serve.specs.declared.stop.Stop.TheVariants as stop
use Rattle.dg_serve.proofs.BoardLemmas.{got_within}
use Rattle.dg_serve.proofs.EventLemmas.{got_some}
use Rattle.dg_serve.proofs.GoLemmas.{one_part, no_part}
use Rattle.dg_serve.proofs.PartLemmas.{Timed, drawn, reads_of, stands_drawn, applied_of, frame_runs, part_at}

pub puts_none : (o p : Option (List ℕ)) → p ≡ o → Puts o p []
puts_none None p e = e
puts_none (Some w) p e = e ∙ ap Some (sym (append-nil w))

-- ---- a part

-- A timing stands between what was before a part, and what is before its event. The link may have given a frame before it.
pub record DrawnTo (p m : Standing) (dt word : ℕ) : Type 0 where
  pub timed : Timed p.service.timeline m.service.timeline dt word p.clock m.clock
  pub boards : m.boards ≡ p.boards
  pub motes : m.service.motes.items ≡ p.service.motes.items
  pub written : m.written ≡ p.written
  pub port : m.port ≡ p.port
  pub failures : m.failures ≡ p.failures
  pub faults : m.faults ≡ p.faults
  pub addressees : m.addressees ≡ p.addressees
  pub reached : p.reached ≤ m.reached
  pub known : m.service.timeline.reading ≤ m.reached
  pub short : dt < 2 ^ 32

-- the moment between the look at the link and the timing
abbrev pub looked : Moment → Option Inboxes → Moment
looked s boxes = record s { inboxes = boxes }

-- how an event follows from a part
pub record IsPart (motes begun on : ℕ) (part : Part) (event : (dt word : ℕ) → Event) (bytes : List ℕ) (before taken : Option Inboxes) : Type 0 where
  pub dt_is : (dt word : ℕ) → dt_of (event dt word) ≡ dt
  pub before_is : (dt word : ℕ) → begun_before motes (event dt word) ≡ begun
  pub behind_is : (dt word : ℕ) → begun_behind motes (event dt word) ≡ on
  pub event_is : (dt word : ℕ) → event dt word ≡ event_of part dt word bytes
  pub within : on ≤ motes
  pub rises : begun ≤ on
  pub done : (s t : Moment) (es : List Event) → s.inboxes ≡ before → EventApplied motes (looked s taken) event es t → PartDone motes part s es t
  pub fits : IsFrame bytes
  pub at : (dt word : ℕ) → mote_of (event dt word) < on
  pub takes_for : (dt word : ℕ) → TakesFor (event dt word) before taken
  -- where a frame was taken, its mote had begun, and starts nothing
  pub untaken : (dt word : ℕ) (w : World) (old new : List Device) → FindsNoVolume w (event dt word) old new ⊎ FindsNoImage w (event dt word) old new → ((m : ℕ) (a : Device) → mote_of (event dt word) ≡ m → m < begun → slice_get old m ≡ Some a → IsVolume a.image) → taken ≡ before
  pub new_volumes : (dt word : ℕ) (boards : List Device) → ((a : Device) → IsReset (event dt word) → slice_get boards (mote_of (event dt word)) ≡ Some a → IsVolume a.image) → (m : ℕ) (a : Device) → begun ≤ m → m < on → slice_get boards m ≡ Some a → IsVolume a.image

-- the link gave a frame, and nothing else changed
stands_looked : (motes begun : ℕ) (links : List (ℕ × ℕ)) (boxes : Option Inboxes) (p : Standing) (first : List Device) (s : Moment) → StandsFor motes begun links 0 first s p → StandsFor motes begun links 0 first (looked s boxes) (record p { inboxes = boxes })
stands_looked motes begun links boxes p first s st = record {
  moment = st.moment;
  reading = st.reading;
  draws = st.draws;
  clock = st.clock;
  inboxes = refl;
  linked = st.linked;
  wide = st.wide;
  sites = st.sites;
  count = st.count;
  timely = st.timely;
  on = st.on;
  off = st.off;
}

-- the next event is ahead of some moment
some_drawn : (motes begun : ℕ) (links : List (ℕ × ℕ)) (p m : Standing) (dt word : ℕ) → DrawnTo p m dt word → StandsForSome motes begun links p → (first : List Device) × (s : Moment) × StandsFor motes begun links dt first s m
some_drawn motes begun links p m dt word d y =
    let st = stands_looked motes begun links m.inboxes p y.0 y.1 y.2 in
    (y.0, drawn (looked y.1 m.inboxes) m.service.timeline m.clock, stands_drawn motes begun links y.0 (looked y.1 m.inboxes) (record p { inboxes = m.inboxes }) m dt word st d.timed d.boards d.motes refl)

-- its mote may run
may_run : (c : List ℕ) (v : Option Node) (s : Store) (o : Option Running) (moment now : ℕ) → moment ≤ now → MoteStands c v s o → IfSome o (λ r. Timely r.mote moment) → MayRun c now v
may_run c None s o moment now later stands timely = tt
may_run c (Some x) s None moment now later stands timely = absurd stands
may_run c (Some x) s (Some r) moment now later stands timely = (r.mote, s, stands.1, timely_later r.mote moment now later timely)

may_at : (motes ahead mote : ℕ) (links : List (ℕ × ℕ)) (m : Standing) → mote < motes → (first : List Device) × (s : Moment) × StandsFor motes motes links ahead first s m → (a : Device) → slice_get m.boards mote ≡ Some a → MayRun a.image m.service.timeline.moment (slice_index_or m.service.motes.items mote None)
may_at motes ahead mote links m known y a was =
    let st = y.2 in
    let f = got_some y.0 mote (let n = st.count in let k = got_within m.boards mote a was in omega (arith, n, k)) in
    let x = (st.on mote f.0 a known f.1 was).1 in
    may_run a.image (slice_index_or m.service.motes.items mote None) (site y.1.world mote).store (site y.1.world mote).runs y.1.world.moment m.service.timeline.moment (let n = st.moment in omega (arith, n)) x.mote (st.timely mote (omega (arith, known, st.sites)))

-- a mote that is off may begin
may_begin : (v : Option Node) (c : List ℕ) (now : ℕ) → v ≡ None → MayRun c now v
may_begin v c now off = subst (λ o. MayRun c now o) (sym off) tt

-- ---- what an event requires, once its word was drawn

asked : (motes mote begun : ℕ) (links : List (ℕ × ℕ)) (event : Event) (dt word : ℕ) (p m : Standing) → DrawnTo p m dt word → StandsReady motes begun p → p.service.timeline.moment < 2 ^ 60 → FitsLine motes (EventLine event) → IsAlone event → mote_of event ≡ mote → mote < motes
    → ((a : Device) → slice_get m.boards mote ≡ Some a → MayRun a.image m.service.timeline.moment (slice_index_or m.service.motes.items mote None)) → (IsReset event → slice_index_or m.service.motes.items mote None ≡ None)
    → IsReset event ⊎ ((first : List Device) × (s : Moment) × StandsFor motes (begun_before motes event) links (dt_of event) first s m) → EventAsks motes mote links event m
asked motes mote begun links event dt word p m d ready early fits alone at known may off some = record {
  fits = fits;
  alone = alone;
  at = at;
  known = known;
  motes_are = ap length d.motes ∙ ready.motes_are;
  boards = let n = ap length d.boards in omega (arith, n, ready.boards);
  addressees = d.addressees ∙ ready.addressees;
  moment = omega (arith, d.timed.moment, d.short, early);
  may = may;
  off = off;
  some = some;
}

-- a reset, before which its mote is off
pub reset_asks : (motes mote : ℕ) (links : List (ℕ × ℕ)) (dt word : ℕ) (p m : Standing) → DrawnTo p m dt word → StandsReady motes mote p → p.service.timeline.moment < 2 ^ 60 → mote < motes → EventAsks motes mote links (Reset mote dt word) m
reset_asks motes mote links dt word p m d ready early known =
    let off : slice_index_or m.service.motes.items mote None ≡ None = subst (λ xs. slice_index_or xs mote None ≡ None) (sym d.motes) (ready.off mote (omega arith)) in
    asked motes mote mote links (Reset mote dt word) dt word p m d ready early (known, d.timed.fits) tt refl known (λ a was. may_begin (slice_index_or m.service.motes.items mote None) a.image m.service.timeline.moment off) (λ reset. off) (inl tt)

-- an event of a service that is under way
pub event_asks : (motes mote : ℕ) (links : List (ℕ × ℕ)) (event : Event) (dt word : ℕ) (p m : Standing) → DrawnTo p m dt word → IsUnderWay motes links (2 ^ 60) p → FitsLine motes (EventLine event) → IsAlone event → mote_of event ≡ mote → mote < motes → (IsReset event → ⊥) → dt_of event ≡ dt → begun_before motes event ≡ motes → EventAsks motes mote links event m
event_asks motes mote links event dt word p m d way fits alone at known never dt_is before_is =
    let x = some_drawn motes motes links p m dt word d way.some in
    let P : ℕ → ℕ → Type 0 = λ b k. StandsFor motes b links k x.0 x.1 m in
    asked motes mote motes links event dt word p m d way.ready way.early fits alone at known (may_at motes dt mote links m known x) (λ reset. absurd (never reset))
    (inr (x.0, x.1, subst (λ b. P b (dt_of event)) (sym before_is) (subst (λ k. P motes k) (sym dt_is) x.2)))

module _ (motes begun on : ℕ) (links : List (ℕ × ℕ)) (part : Part) (event : (dt word : ℕ) → Event) (bytes : List ℕ) (dt word : ℕ) (p m q : Standing) (d : DrawnTo p m dt word) (h : IsPart motes begun on part event bytes p.inboxes m.inboxes) where
  looked_at : (first : List Device) (s : Moment) → StandsFor motes begun links 0 first s p → StandsFor motes begun links 0 first (looked s m.inboxes) (record p { inboxes = m.inboxes })
  looked_at first s st = stands_looked motes begun links m.inboxes p first s st

  stands_before : (first : List Device) (s : Moment) → StandsFor motes begun links 0 first s p → StandsFor motes (begun_before motes (event dt word)) links (dt_of (event dt word)) first (drawn (looked s m.inboxes) m.service.timeline m.clock) m
  stands_before first s st =
      let x = stands_drawn motes begun links first (looked s m.inboxes) (record p { inboxes = m.inboxes }) m dt word (looked_at first s st) d.timed d.boards d.motes refl in
      let P : ℕ → ℕ → Type 0 = λ b k. StandsFor motes b links k first (drawn (looked s m.inboxes) m.service.timeline m.clock) m in
      subst (λ b. P b (dt_of (event dt word))) (sym (h.before_is dt word)) (subst (λ k. P begun k) (sym (h.dt_is dt word)) x)

  applied_at : (first : List Device) (s t : Moment) → StandsFor motes begun links 0 first s p → Steps motes (drawn (looked s m.inboxes) m.service.timeline m.clock) (event dt word) t → PartDone motes part s (event dt word ∷ []) t
  applied_at first s t st steps =
      h.done s t (event dt word ∷ []) (sym st.inboxes)
      (applied_of motes (looked s m.inboxes) t m.service.timeline m.clock event dt word (reads_of (looked s m.inboxes) p.service.timeline m.service.timeline dt word p.clock m.clock st.reading st.draws st.clock d.timed) steps)

  ready_before : StandsReady motes begun p → StandsReady motes begun m
  ready_before ready = record {
    motes_are = ap length d.motes ∙ ready.motes_are;
    boards = let n = ap length d.boards in omega (arith, n, ready.boards);
    addressees = d.addressees ∙ ready.addressees;
    reading = d.known;
    off = λ k out. subst (λ xs. slice_index_or xs k None ≡ None) (sym d.motes) (ready.off k out);
  }

  -- whose board is found to be a volume
  new_volumes : ((a : Device) → IsReset (event dt word) → slice_get m.boards (mote_of (event dt word)) ≡ Some a → IsVolume a.image) → (k : ℕ) (a : Device) → begun ≤ k → k < on → slice_get p.boards k ≡ Some a → IsVolume a.image
  new_volumes told = subst (λ bs. (k : ℕ) (a : Device) → begun ≤ k → k < on → slice_get bs k ≡ Some a → IsVolume a.image) d.boards (h.new_volumes dt word m.boards told)

  -- it was done
  pub part_went : StandsReady motes begun p → AppliedAt motes links (event dt word) m q → q.reached ≡ m.reached → ServedParts motes begun on links (part ∷ []) p q
  part_went ready e reached = record {
    events = event dt word ∷ [];
    put = subst (λ (o : Option (List ℕ)). Puts o q.written (event_lines (event dt word ∷ []))) d.written e.put;
    run = λ first s st.
        let x = e.run first (drawn (looked s m.inboxes) m.service.timeline m.clock) (stands_before first s st) in
        (x.0, one_part motes s x.0 part (event dt word ∷ []) (applied_at first s x.0 st x.1), subst (λ n. StandsFor motes n links 0 first x.0 q) (h.behind_is dt word) x.2);
    ready = subst (λ n. StandsReady motes n q) (h.behind_is dt word) (e.ready (subst (λ n. StandsReady motes n m) (sym (h.before_is dt word)) (ready_before ready)));
    volumes = new_volumes e.volumes;
    below = (h.at dt word, tt);
    own = λ mote at. (ap mote_of (h.event_is dt word) ∙ part_at mote part dt word bytes at.0, tt);
    rises = h.rises;
    port = e.port ∙ d.port;
    boards = subst (λ bs. BoardsAreUsed on bs q.boards) d.boards (subst (λ n. BoardsAreUsed n m.boards q.boards) (h.behind_is dt word) e.boards);
    calm = subst (λ bs. BoardsAreCalm bs q.boards) d.boards e.calm;
    moved = let n = ap (λ t. t.moment) e.timeline in omega (arith, n, d.timed.moment, d.short);
    failures = e.failures ∙ d.failures;
    faults = e.faults ∙ d.faults;
    reached = omega (arith, reached, d.reached);
  }

  -- what it takes from the link
  taken_then : (first : List Device) (s : Moment) (found : Option Inboxes) → StandsFor motes begun links 0 first s p → found ≡ m.inboxes → TakesFor (event dt word) s.inboxes found
  taken_then first s found st same = subst (λ (o : Option Inboxes). TakesFor (event dt word) s.inboxes o) (sym same) (subst (λ (o : Option Inboxes). TakesFor (event dt word) o m.inboxes) st.inboxes (h.takes_for dt word))

  -- the event was not applied
  next_ends : (why : Stop) (first : List Device) (s : Moment) → StandsFor motes begun links 0 first s p → q.inboxes ≡ m.inboxes → q.clock ≡ m.clock → EventEnds why s.world (event dt word) first q.boards → EndsInNext why s (part ∷ []) first (remains q.boards q.inboxes q.clock)
  next_ends why first s st link clock ends = record {
    part = part;
    rest = [];
    is = refl;
    bytes = bytes;
    fits = h.fits;
    dt = dt;
    word = word;
    after = drawn s m.service.timeline m.clock;
    reads = reads_of s p.service.timeline m.service.timeline dt word p.clock m.clock st.reading st.draws st.clock d.timed;
    takes = subst (λ x. TakesFor x s.inboxes q.inboxes) (h.event_is dt word) (taken_then first s q.inboxes st link);
    clock = clock;
    ends = subst (λ x. EventEnds why s.world x first q.boards) (h.event_is dt word) ends;
  }

  volumes_before : (first : List Device) (s : Moment) → StandsFor motes begun links 0 first s p → StandsReady motes begun p → (k : ℕ) (a : Device) → mote_of (event dt word) ≡ k → k < begun → slice_get first k ≡ Some a → IsVolume a.image
  volumes_before first s st ready k a is within was =
      let wide : k < length p.boards = let n = ready.boards in let o = h.within in let r = h.rises in omega (arith, within, n, o, r) in
      let b = got_some p.boards k wide in
      (st.on k a b.0 within was b.1).0

  untold_halts : (why : Stop) → StandsReady motes begun p → NotApplied why motes links (event dt word) m q → (why ≢ stop.Write) → (why ≢ stop.Link) → q.reached ≡ m.reached
      → ((first : List Device) (s : Moment) → StandsFor motes begun links 0 first s p → StopLeaves why motes s (course [] [] (part ∷ [])) s first (remains q.boards q.inboxes q.clock)) → PartsHalted why motes begun links (part ∷ []) p q
  untold_halts why ready e writes sends reached left = record {
    events = [];
    done = [];
    left = part ∷ [];
    all = refl;
    text = [];
    put = puts_none p.written q.written (e.untold ∙ d.written);
    front = λ is. absurd (writes is);
    whole = λ other. refl;
    run = λ first s st. (s, no_part motes s, left first s st);
    on = begun;
    volumes = λ k a low high was. absurd (omega (arith, low, high));
    below = tt;
    own = λ mote at. tt;
    rises = omega arith;
    port = e.port ∙ d.port;
    boards = subst (λ bs. BoardsAreUsed motes bs q.boards) d.boards e.boards;
    calm = λ other. subst (λ bs. BoardsAreCalm bs q.boards) d.boards (e.calm other);
    counts = record {
      wrote = λ is. absurd (writes is);
      faults = λ other. e.faults ∙ d.faults;
      faults_rise = let x = e.faults ∙ d.faults in omega (arith, x);
      sent = λ is. absurd (sends is);
      failures = λ other. e.failures ∙ d.failures;
      failures_rise = let x = e.failures ∙ d.failures in omega (arith, x);
      reached = omega (arith, reached, d.reached);
    };
  }

  -- the event was applied, but its line was not written, or what it sent was not forwarded to all
  partly_halts : (why : Stop) → AppliedPartly why motes links (event dt word) m q → q.clock ≡ m.clock
      → ((first : List Device) (s t : Moment) → StandsFor motes begun links 0 first s p → PartDone motes part s (event dt word ∷ []) t → ServedBoardsStand t.world first q.boards → HandedThen why motes s.world t.world m.inboxes q.inboxes → q.clock ≡ t.clock
      → StopLeaves why motes s (course (part ∷ []) (event dt word ∷ []) []) t first (remains q.boards q.inboxes q.clock))
      → PartsHalted why motes begun links (part ∷ []) p q
  partly_halts why e clock left = record {
    events = event dt word ∷ [];
    done = part ∷ [];
    left = [];
    all = refl;
    text = e.text;
    put = subst (λ (o : Option (List ℕ)). Puts o q.written e.text) d.written e.put;
    front = λ is. record { written = []; event = event dt word; events_are = refl; n = e.front.0; text_is = e.front.1 };
    whole = e.whole;
    run = λ first s st.
        let x = e.run first (drawn (looked s m.inboxes) m.service.timeline m.clock) (stands_before first s st) in
        let done = applied_at first s x.0 st x.1 in
        (x.0, one_part motes s x.0 part (event dt word ∷ []) done, left first s x.0 st done x.2 x.3 (clock ∙ sym x.1.same_clock));
    on = on;
    volumes = new_volumes e.volumes;
    below = (h.at dt word, tt);
    own = λ mote at. (ap mote_of (h.event_is dt word) ∙ part_at mote part dt word bytes at.0, tt);
    rises = h.rises;
    port = e.port ∙ d.port;
    boards = subst (λ bs. BoardsAreUsed motes bs q.boards) d.boards e.boards;
    calm = λ other. subst (λ bs. BoardsAreCalm bs q.boards) d.boards e.calm;
    counts = record {
      wrote = λ is. subst (λ n. Rose n q.faults) d.faults (e.counts.wrote is);
      faults = λ other. e.counts.faults other ∙ d.faults;
      faults_rise = omega (arith, d.faults, e.counts.faults_rise);
      sent = λ is. subst (λ n. Rose n q.failures) d.failures (e.counts.sent is);
      failures = λ other. e.counts.failures other ∙ d.failures;
      failures_rise = omega (arith, d.failures, e.counts.failures_rise);
      reached = omega (arith, d.reached, e.counts.reached);
    };
  }

  -- what its event found
  found_by : (first : List Device) (s t : Moment) (found : Option Inboxes) → StandsFor motes begun links 0 first s p → PartDone motes part s (event dt word ∷ []) t → found ≡ m.inboxes → FoundBy motes s (part ∷ []) (event dt word ∷ []) t found
  found_by first s t found st applied same = record {
    earlier = [];
    part = part;
    parts_are = refl;
    written = [];
    event = event dt word;
    events_are = refl;
    before = s;
    serves = no_part motes s;
    applied = applied;
    takes = taken_then first s found st same;
  }

  -- its frame was not forwarded to all
  partly_by : (first : List Device) (s t : Moment) → StandsFor motes begun links 0 first s p → PartDone motes part s (event dt word ∷ []) t → HandedToFirst motes s.world t.world m.inboxes q.inboxes → PartlyHanded motes s (part ∷ []) (event dt word ∷ []) t q.inboxes
  unfolding found_by
  partly_by first s t st applied handed = record { found = m.inboxes; by = found_by first s t m.inboxes st applied refl; first = handed }

  -- ---- however the event ended

  pub part_ends : (r : Result (Unit {0}) Stop) → StandsReady motes begun p → ApplyEnds r motes links (event dt word) m q → q.reached ≡ m.reached → q.clock ≡ m.clock → PartsGoOn r motes links (stretch begun on (part ∷ [])) p q
  part_ends (Ok u) ready e reached clock = part_went ready e reached
  part_ends (Err stop.Memory) ready e reached clock =
      untold_halts stop.Memory ready e (λ x. absurd cc) (λ x. absurd cc) reached
      (λ first s st. inr (next_ends stop.Memory first s st e.link clock (e.run first (drawn (looked s m.inboxes) m.service.timeline m.clock) (stands_before first s st))))
  part_ends (Err stop.Write) ready e reached clock = partly_halts stop.Write e clock (λ first s t st applied boards same clock. (boards, found_by first s t q.inboxes st applied same, clock))
  part_ends (Err stop.Link) ready e reached clock = partly_halts stop.Link e clock (λ first s t st applied boards handed clock. (boards, inr (partly_by first s t st applied handed), clock))
  part_ends (Err stop.Flash) ready e reached clock =
      untold_halts stop.Flash ready e (λ x. absurd cc) (λ x. absurd cc) reached
      (λ first s st. next_ends stop.Flash first s st e.link clock (e.run first (drawn (looked s m.inboxes) m.service.timeline m.clock) (stands_before first s st)))
  part_ends (Err stop.NotAVolume) ready e reached clock =
      untold_halts stop.NotAVolume ready e (λ x. absurd cc) (λ x. absurd cc) reached
      (λ first s st.
      let x = e.run first (drawn (looked s m.inboxes) m.service.timeline m.clock) (stands_before first s st) in
      (next_ends stop.NotAVolume first s st e.link clock x, e.link ∙ h.untaken dt word s.world first q.boards (inl x) (volumes_before first s st ready) ∙ st.inboxes))
  part_ends (Err stop.NoImage) ready e reached clock =
      untold_halts stop.NoImage ready e (λ x. absurd cc) (λ x. absurd cc) reached
      (λ first s st.
      let x = e.run first (drawn (looked s m.inboxes) m.service.timeline m.clock) (stands_before first s st) in
      (next_ends stop.NoImage first s st e.link clock x, e.link ∙ h.untaken dt word s.world first q.boards (inr x) (volumes_before first s st ready) ∙ st.inboxes))

next_below : (m : ℕ) → m < m + 1
next_below m = omega arith

zero_is_small : 0 < 256
zero_is_small = omega arith

-- a part that takes no frame
no_frame : IsFrame []
no_frame = record { few = omega arith; bytes = λ k. zero_is_small }

-- ---- the parts

pub begins_part : (motes mote : ℕ) (boxes : Option Inboxes) → mote < motes → IsPart motes mote (mote + 1) (Begins mote) (λ dt word. Reset mote dt word) [] boxes boxes
begins_part motes mote boxes known = record {
  dt_is = λ dt word. refl;
  before_is = λ dt word. refl;
  behind_is = λ dt word. refl;
  event_is = λ dt word. refl;
  within = omega arith;
  rises = omega arith;
  done = λ s t es same x. subst (λ (o : Option Inboxes). EventApplied motes (looked s o) (λ dt word. Reset mote dt word) es t) (sym same) x;
  fits = no_frame;
  at = λ dt word. next_below mote;
  takes_for = λ dt word. refl;
  untaken = λ dt word w old new ends volumes. refl;
  new_volumes = λ dt word boards told m a low high was.
      let same : m ≡ mote = omega arith in
      told a tt (ap (slice_get boards) (sym same) ∙ was);
}

pub ticks_part : (motes mote : ℕ) (boxes : Option Inboxes) → mote < motes → IsPart motes motes motes (Ticks mote) (λ dt word. Tick mote dt word) [] boxes boxes
ticks_part motes mote boxes known = record {
  dt_is = λ dt word. refl;
  before_is = λ dt word. refl;
  behind_is = λ dt word. refl;
  event_is = λ dt word. refl;
  within = omega arith;
  rises = omega arith;
  done = λ s t es same x. subst (λ (o : Option Inboxes). EventApplied motes (looked s o) (λ dt word. Tick mote dt word) es t) (sym same) x;
  fits = no_frame;
  at = λ dt word. known;
  takes_for = λ dt word. refl;
  untaken = λ dt word w old new ends volumes. refl;
  new_volumes = λ dt word boards told m a low high was. absurd (omega (arith, low, high));
}

pub looks_part : (motes mote : ℕ) (bytes : List ℕ) (before taken : Option Inboxes) → mote < motes → TakesFrame mote bytes before taken → IsFrame bytes → IsPart motes motes motes (Looks mote) (λ dt word. Frame mote dt word bytes) bytes before taken
looks_part motes mote bytes before taken known takes fits = record {
  dt_is = λ dt word. refl;
  before_is = λ dt word. refl;
  behind_is = λ dt word. refl;
  event_is = λ dt word. refl;
  within = omega arith;
  rises = omega arith;
  done = λ s t es same x. inr (record { bytes = bytes; fits = fits; taken = taken; takes = subst (λ (o : Option Inboxes). TakesFrame mote bytes o taken) (sym same) takes; heard = x });
  fits = fits;
  at = λ dt word. known;
  takes_for = λ dt word. takes;
  untaken = λ dt word w old new ends volumes.
      ⊎_elim
      (λ no_volume. let v = volumes mote no_volume.board refl known no_volume.was in absurd (no_volume.no_volume v.0 v.1))
      (λ no_image. absurd (frame_runs w mote dt word bytes no_image.ends.effect no_image.ends.goes no_image.ends.none))
      ends;
  new_volumes = λ dt word boards told m a low high was. absurd (omega (arith, low, high));
}

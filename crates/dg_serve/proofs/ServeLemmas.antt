-- A service from its first line to its last.
use Rattle.std.proofs.Common.{◌≡◌, ◌≢◌, ◌⊎◌, ℕ, ◌<◌, ◌≤◌, List, [], ◌∷◌, ◌++◌, length, take, append-nil, append_assoc, refl, ap, sym, ◌∙◌, subst, inl, inr, arith}
use Rattle.std.specs.Prelude.{slice_get, Option, Some, None, option_map, Result, Ok, Err}
use Rattle.std.proofs.lemmas.Option.{same_Some}
use Rattle.std.specs.List.{AllByRecursion}
use Rattle.dg_words.specs.Counts.{Rose}
use Rattle.dg_base.specs.Outside.{Puts}
use Rattle.dg_base.proofs.OutsideLemmas.{Puts-join}
use Rattle.dg_base.specs.declared.answers.Status.{Status}
use Rattle.dg_base.specs.declared.answers.Status.TheVariants as status
use Rattle.dg_base.specs.declared.events.Event.{Event}
use Rattle.dg_link.specs.Inboxes.{emptied}
use Rattle.dg_netcfg.specs.declared.profile.NetProfile.{NetProfile}
use Rattle.dg_nor.specs.Device.{Device, Endures}
use Rattle.dg_nor.specs.Fuse.{beneath_of}
use Rattle.dg_object.specs.Object.{Row}
use Rattle.dg_volume.specs.Store.{Store}
use Rattle.dg_volume.specs.Stands.{IsVolume}
use Rattle.dg_rules.specs.Events.{mote_of}
use Rattle.dg_outside.specs.Outside.{Outside, InputState, OutputState, LinkState, outside}
use Rattle.dg_end.specs.Lines.{status_of, last_line, HasFixedLine}
use Rattle.dg_end.specs.Writes.{WritesLast}
use Rattle.dg_end.specs.declared.ends.End.{End}
use Rattle.dg_seed.specs.Draws.{first_generator}
use Rattle.dg_serve.specs.Services.{plan}
use Rattle.dg_serve.specs.Endings.{StoresOf, begins, end_of_stop}
use Rattle.dg_serve.specs.Traces.{UnwrittenLast, trace, lines_text, head_lines}
use Rattle.dg_serve.specs.inner.Runs.{event_lines}
use Rattle.dg_serve.specs.Standings.{Standing, StandsFor, IsBelow, StandsReady, BoardEndures, BoardIsCalm, BoardsAreUsed, Stretch, ServedParts, PartsHalted, PartsGoOn}
use Rattle.dg_serve.specs.Served.{LinkHas, WroteTrace, MotesEndure, ServiceRan, Began, Hindered, DidNotBegin}
use Rattle.dg_serve.specs.inner.Stretches.{IsAtVolume}
use Rattle.dg_serve.specs.Ran.{IsOpened}
use Rattle.dg_serve.specs.declared.stop.Stop.{Stop}
use Rattle.dg_serve.specs.declared.stop.Stop.TheVariants as stop
use Rattle.dg_serve.proofs.EventLemmas.{stands_boards}
use Rattle.dg_serve.proofs.StartLemmas.{stands_first}

-- what is outside of the service, where the code stands
abbrev pub outside_of : InputState → Standing → Outside
outside_of input p = outside input (record { written = p.written; writes = p.faults }) (record { inboxes = p.inboxes; failures = p.failures; port = p.port }) p.clock p.boards

-- ---- boards

pub endures_at : (o n : Option Device) (a b : Device) → o ≡ Some a → n ≡ Some b → BoardEndures o n → Endures (beneath_of a) (beneath_of b)
endures_at o n a b was now e =
    let P : Option Device → Option Device → Type 0 = λ x y. BoardEndures x y in
    subst (λ y. P (Some a) y) now (subst (λ x. P x n) was e)

pub calm_at : (o n : Option Device) (a b : Device) → o ≡ Some a → n ≡ Some b → BoardIsCalm o n → b.faults ≡ a.faults
calm_at o n a b was now e =
    let P : Option Device → Option Device → Type 0 = λ x y. BoardIsCalm x y in
    subst (λ y. P (Some a) y) now (subst (λ x. P x n) was e)

pub boards_endure : (motes : ℕ) (old new : List Device) → BoardsAreUsed motes old new → MotesEndure motes old new
boards_endure motes old new u = record { all = record { count = u.count; endures = λ m a b was now. endures_at (slice_get old m) (slice_get new m) a b was now (u.endures m) }; others = u.others }

at_volumes : (on : ℕ) (boards : List Device) (events : List Event) → ((m : ℕ) (a : Device) → 0 ≤ m → m < on → slice_get boards m ≡ Some a → IsVolume a.image) → AllByRecursion (IsBelow on) events → AllByRecursion (IsAtVolume boards) events
at_volumes on boards [] volumes below = tt
at_volumes on boards (e ∷ es) volumes below = (λ a was. volumes (mote_of e) a (omega arith) below.0 was, at_volumes on boards es volumes below.1)

-- ---- from the opening to where it ended

-- the head was written, and then the lines of all events
pub wrote_all : (profile : NetProfile) (events : List Event) (text : List ℕ) (w m v : Option (List ℕ)) → Puts w m (lines_text (head_lines profile)) → Puts m v text → text ≡ event_lines events → Puts w v (trace profile events)
wrote_all profile events text w m v head put whole = subst (λ (l : List ℕ). Puts w v (lines_text (head_lines profile) ++ l)) whole (Puts-join w m v (lines_text (head_lines profile)) text head put)

pub wrote_by : (why : Stop) (profile : NetProfile) (events : List Event) (text : List ℕ) (a : OutputState) (m : Option (List ℕ)) (b : OutputState) → Puts a.written m (lines_text (head_lines profile)) → Puts m b.written text → (why ≡ stop.Write → UnwrittenLast [] events text) → (why ≢ stop.Write → text ≡ event_lines events)
    → WroteTrace (Some why) profile events a b
wrote_by stop.Memory profile events text a m b head put front whole = wrote_all profile events text a.written m b.written head put (whole (λ x. absurd cc))
wrote_by stop.Write profile events text a m b head put front whole =
    let u = front refl in
    let lines = lines_text (head_lines profile) in (
      lines ++ text,
      Puts-join a.written m b.written lines text head put,
      record { written = u.written; event = u.event; events_are = u.events_are; n = u.n; text_is = ap (λ l. lines ++ l) u.text_is ∙ sym (append_assoc lines (event_lines u.written) (take u.n (event_lines (u.event ∷ [])))) },
    )
wrote_by stop.Link profile events text a m b head put front whole = wrote_all profile events text a.written m b.written head put (whole (λ x. absurd cc))
wrote_by stop.Flash profile events text a m b head put front whole = wrote_all profile events text a.written m b.written head put (whole (λ x. absurd cc))
wrote_by stop.NotAVolume profile events text a m b head put front whole = wrote_all profile events text a.written m b.written head put (whole (λ x. absurd cc))
wrote_by stop.NoImage profile events text a m b head put front whole = wrote_all profile events text a.written m b.written head put (whole (λ x. absurd cc))

module _ (profile : NetProfile) (seed turns : ℕ) (a : Outside) (after : InputState) (p q : Standing) (o : IsOpened profile seed (record a { boards = p.boards }) p.service p.addressees p.reached (outside_of after p)) where
  stands_opened : (table : List Row) (stores : List Store) → StoresOf profile.motes p.boards stores → StandsFor profile.motes 0 profile.links 0 p.boards (begins table profile.links stores p.service.timeline.reading p.clock seed (option_map (emptied profile.motes) a.link.inboxes)) p
  stands_opened table stores of = stands_first profile.motes profile.links table stores p.service.timeline.reading p.clock (first_generator seed) (option_map (emptied profile.motes) a.link.inboxes) p of o.moment refl o.draws refl o.link.0

  ran_all : ServedParts profile.motes 0 profile.motes profile.links (plan profile.motes turns) p q → ServiceRan None profile seed turns (record a { boards = p.boards }) (outside_of after q)
  ran_all w = record {
    origin = p.service.timeline.reading;
    clock = p.clock;
    first = o.told;
    events = w.events;
    done = plan profile.motes turns;
    left = [];
    parts = append-nil (plan profile.motes turns);
    all = λ is. refl;
    came = λ table stores of.
        let x = w.run p.boards (begins table profile.links stores p.service.timeline.reading p.clock seed (option_map (emptied profile.motes) a.link.inboxes)) (stands_opened table stores of) in
        record { last = x.0; serves = x.1; ends = (stands_boards profile.motes profile.motes 0 profile.links p.boards x.0 q x.2, x.2.inboxes, x.2.clock) };
    wrote = wrote_all profile w.events (event_lines w.events) a.output.written p.written q.written o.put w.put refl;
    volumes = at_volumes profile.motes p.boards w.events w.volumes w.below;
    port = w.port ∙ o.link.1;
    boards = boards_endure profile.motes p.boards q.boards w.boards;
    counts = record {
      wrote = λ is. absurd cc;
      writes = λ other. w.faults ∙ o.writes;
      sent = λ is. absurd cc;
      sends = λ other. w.failures ∙ o.failures;
      calm = λ other m x y was now. calm_at (slice_get p.boards m) (slice_get q.boards m) x y was now (w.calm m);
    };
  }

  ran_some : (why : Stop) → PartsHalted why profile.motes 0 profile.links (plan profile.motes turns) p q → ServiceRan (Some why) profile seed turns (record a { boards = p.boards }) (outside_of after q)
  ran_some why h = record {
    origin = p.service.timeline.reading;
    clock = p.clock;
    first = o.told;
    events = h.events;
    done = h.done;
    left = h.left;
    parts = h.all;
    all = λ is. absurd cc;
    came = λ table stores of.
        let x = h.run p.boards (begins table profile.links stores p.service.timeline.reading p.clock seed (option_map (emptied profile.motes) a.link.inboxes)) (stands_opened table stores of) in
        record { last = x.0; serves = x.1; ends = x.2 };
    wrote = wrote_by why profile h.events h.text a.output p.written (record { written = q.written; writes = q.faults }) o.put h.put h.front h.whole;
    volumes = at_volumes h.on p.boards h.events h.volumes h.below;
    port = h.port ∙ o.link.1;
    boards = boards_endure profile.motes p.boards q.boards h.boards;
    counts = record {
      wrote = λ is. subst (λ n. Rose n q.faults) o.writes (h.counts.wrote (same_Some why stop.Write is));
      writes = λ other. h.counts.faults (λ e. other (ap Some e)) ∙ o.writes;
      sent = λ is. subst (λ n. Rose n q.failures) o.failures (h.counts.sent (same_Some why stop.Link is));
      sends = λ other. h.counts.failures (λ e. other (ap Some e)) ∙ o.failures;
      calm = λ other m x y was now. calm_at (slice_get p.boards m) (slice_get q.boards m) x y was now (h.calm (λ e. other (ap Some e)) m);
    };
  }

  -- all turns were played
  pub began_done : ServedParts profile.motes 0 profile.motes profile.links (plan profile.motes turns) p q → Began status.Done profile seed turns (record a { boards = p.boards }) (outside_of after q)
  began_done w = record { why = None; traced = record { written = q.written; writes = q.faults }; ran = ran_all w; ended = (refl, refl); room = tt }

  -- it stopped, and its last line was written
  pub began_stopped : (why : Stop) (answer : Status) (told : OutputState) → PartsHalted why profile.motes 0 profile.links (plan profile.motes turns) p q → WritesLast answer (status_of (end_of_stop why)) (last_line (end_of_stop why)) (record { written = q.written; writes = q.faults }) told
      → (HasFixedLine (end_of_stop why) → answer ≢ status.Memory) → Began answer profile seed turns (record a { boards = p.boards }) (record (outside_of after q) { output = told })
  began_stopped why answer told h ended room = record { why = Some why; traced = record { written = q.written; writes = q.faults }; ran = ran_some why h; ended = ended; room = room }

  pub linked_stopped : (why : Stop) → PartsHalted why profile.motes 0 profile.links (plan profile.motes turns) p q → why ≡ stop.Link → Rose a.link.failures q.failures
  linked_stopped why h is = subst (λ n. Rose n q.failures) o.failures (h.counts.sent is)

  pub calm_stopped : (why : Stop) → PartsHalted why profile.motes 0 profile.links (plan profile.motes turns) p q → why ≢ stop.Link → q.failures ≡ a.link.failures
  calm_stopped why h other = h.counts.failures other ∙ o.failures

-- an input of which nothing is known
abbrev pub unread : InputState
unread = record { left = None; reads = 0 }

-- what was opened is ready to begin
pub ready_opened : (profile : NetProfile) (seed : ℕ) (a b : Outside) (p : Standing) → IsOpened profile seed a p.service p.addressees p.reached b → profile.motes ≤ length p.boards → StandsReady profile.motes 0 p
ready_opened profile seed a b p o wide = record { motes_are = o.motes; boards = wide; addressees = o.addressees_are; reading = o.known; off = λ m low. o.off m }

-- no board was added or taken away
pub parts_count : (r : Result (Unit {0}) Stop) (motes : ℕ) (links : List (ℕ × ℕ)) (x : Stretch) (p q : Standing) → PartsGoOn r motes links x p q → length q.boards ≡ length p.boards
parts_count (Ok u) motes links x p q w = w.boards.count
parts_count (Err why) motes links x p q h = h.boards.count

-- ---- a service that did not begin

-- the end is this one
pub told_end : (answer : Status) (end this : End) (a b : OutputState) → end ≡ this → WritesLast answer (status_of end) (last_line end) a b → WritesLast answer (status_of this) (last_line this) a b
told_end answer end this a b is h = subst (λ (e : End). WritesLast answer (status_of e) (last_line e) a b) is h

no_line : (of answer : Status) (profile : NetProfile) (a b : Outside) (told : OutputState) → b.boards ≡ a.boards → Hindered of profile a b × (b.clock ≡ a.clock) → (answer ≡ of) × (told ≡ b.output) → DidNotBegin answer profile a (record b { output = told })
no_line of answer profile a b told boards h e =
    subst (λ (s : Status). DidNotBegin s profile a (record b { output = told })) (sym e.0)
    (subst (λ (u : OutputState). DidNotBegin of profile a (record b { output = u })) (sym e.1) (record { hindered = h.0; boards = boards; clock = h.1 }))

pub not_begun : (why : Stop) (answer : Status) (profile : NetProfile) (a b : Outside) (told : OutputState) → b.boards ≡ a.boards → Hindered (status_of (end_of_stop why)) profile a b × (b.clock ≡ a.clock) → WritesLast answer (status_of (end_of_stop why)) (last_line (end_of_stop why)) b.output told → DidNotBegin answer profile a (record b { output = told })
not_begun stop.Memory answer profile a b told boards h e = no_line status.Memory answer profile a b told boards h e
not_begun stop.Write answer profile a b told boards h e = no_line status.WriteFault answer profile a b told boards h e
not_begun stop.Link answer profile a b told boards h e = no_line status.LinkFault answer profile a b told boards h e
not_begun stop.Flash answer profile a b told boards h e = absurd h.0
not_begun stop.NotAVolume answer profile a b told boards h e = absurd h.0
not_begun stop.NoImage answer profile a b told boards h e = absurd h.0

-- ---- faults of the link

-- a status of which a line is written is not that of another end
pub not_told : (answer of other : Status) (line : Option (List ℕ)) (a b : OutputState) → of ≢ other → status.WriteFault ≢ other → status.Memory ≢ other → WritesLast answer of line a b → answer ≢ other
not_told answer of other None a b one two three h is = one (sym h.0 ∙ is)
not_told answer of other (Some line) a b one two three (inl h) is = one (sym h.0 ∙ is)
not_told answer of other (Some line) a b one two three (inr (inl h)) is = two (sym h.0 ∙ is)
not_told answer of other (Some line) a b one two three (inr (inr h)) is = three (sym h.0 ∙ is)

pub told_link : (why : Stop) (answer : Status) (a b : OutputState) → WritesLast answer (status_of (end_of_stop why)) (last_line (end_of_stop why)) a b → answer ≡ status.LinkFault → why ≡ stop.Link
told_link stop.Memory answer a b h is = absurd (not_told answer status.Memory status.LinkFault (last_line (end_of_stop stop.Memory)) a b (λ e. cc) (λ e. cc) (λ e. cc) h is)
told_link stop.Write answer a b h is = absurd (not_told answer status.WriteFault status.LinkFault (last_line (end_of_stop stop.Write)) a b (λ e. cc) (λ e. cc) (λ e. cc) h is)
told_link stop.Link answer a b h is = refl
told_link stop.Flash answer a b h is = absurd (not_told answer status.FlashFault status.LinkFault (last_line (end_of_stop stop.Flash)) a b (λ e. cc) (λ e. cc) (λ e. cc) h is)
told_link stop.NotAVolume answer a b h is = absurd (not_told answer status.NotAVolume status.LinkFault (last_line (end_of_stop stop.NotAVolume)) a b (λ e. cc) (λ e. cc) (λ e. cc) h is)
told_link stop.NoImage answer a b h is = absurd (not_told answer status.NoImage status.LinkFault (last_line (end_of_stop stop.NoImage)) a b (λ e. cc) (λ e. cc) (λ e. cc) h is)

told_as : (answer : Status) (a b : OutputState) → WritesLast answer (status_of (end_of_stop stop.Link)) (last_line (end_of_stop stop.Link)) a b → answer ≡ status.LinkFault
told_as answer a b h = h.0

pub link_told : (why : Stop) (answer : Status) (a b : OutputState) → WritesLast answer (status_of (end_of_stop why)) (last_line (end_of_stop why)) a b → answer ≢ status.LinkFault → why ≢ stop.Link
link_told why answer a b h other is = other (told_as answer a b (subst (λ (w : Stop). WritesLast answer (status_of (end_of_stop w)) (last_line (end_of_stop w)) a b) is h))

pub hindered_linked : (why : Stop) (profile : NetProfile) (a b : Outside) → Hindered (status_of (end_of_stop why)) profile a b → why ≡ stop.Link → Rose a.link.failures b.link.failures
hindered_linked stop.Memory profile a b h is = absurd cc
hindered_linked stop.Write profile a b h is = absurd cc
hindered_linked stop.Link profile a b h is = h.3
hindered_linked stop.Flash profile a b h is = absurd cc
hindered_linked stop.NotAVolume profile a b h is = absurd cc
hindered_linked stop.NoImage profile a b h is = absurd cc

link_calm : (profile : NetProfile) (x y : LinkState) → (y ≡ x) ⊎ (LinkHas 0 profile x y × (y.failures ≡ x.failures)) → y.failures ≡ x.failures
link_calm profile x y (inl same) = ap (λ (l : LinkState). l.failures) same
link_calm profile x y (inr had) = had.1

pub hindered_calm : (why : Stop) (profile : NetProfile) (a b : Outside) → Hindered (status_of (end_of_stop why)) profile a b → why ≢ stop.Link → b.link.failures ≡ a.link.failures
hindered_calm stop.Memory profile a b h other = link_calm profile a.link b.link h.2
hindered_calm stop.Write profile a b h other = ap (λ (l : LinkState). l.failures) h.2
hindered_calm stop.Link profile a b h other = absurd (other refl)
hindered_calm stop.Flash profile a b h other = absurd h
hindered_calm stop.NotAVolume profile a b h other = absurd h
hindered_calm stop.NoImage profile a b h other = absurd h

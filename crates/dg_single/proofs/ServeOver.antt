-- A service of one mote from its first line to its last.
use Rattle.std.proofs.Common.{◌≡◌, ◌≢◌, ℕ, zero, suc, ◌+◌, ◌<◌, ◌≤◌, ◌⊎◌, Bool, true, false, List, [], ◌∷◌, ◌++◌, length, set, append-nil, refl, ap, sym, ◌∙◌, subst, inl, inr, arith}
use Rattle.std.specs.Prelude.{slice_get, replicate, Some, None, option_map, Result, Ok, Err}
use Rattle.std.proofs.lemmas.Option.{same_Some}
use Rattle.std.specs.List.{AllByRecursion}
use Rattle.dg_words.specs.Counts.{Rose}
use Rattle.dg_base.proofs.OutsideLemmas.{Puts-join}
use Rattle.dg_base.specs.declared.answers.Status.{Status}
use Rattle.dg_base.specs.declared.answers.Status.TheVariants as status
use Rattle.dg_base.specs.declared.events.Event.{Event}
use Rattle.dg_link.specs.Inboxes.{emptied}
use Rattle.dg_netcfg.specs.declared.profile.NetProfile.{NetProfile}
use Rattle.dg_nor.specs.Device.{Device}
use Rattle.dg_object.specs.Object.{Row}
use Rattle.dg_volume.specs.Store.{Store}
use Rattle.dg_volume.specs.Stands.{IsVolume}
use Rattle.dg_rules.specs.Events.{mote_of}
use Rattle.dg_seed.specs.Draws.{first_generator}
use Rattle.dg_serve.specs.Services.{Begins, Moment}
use Rattle.dg_serve.specs.inner.Stretches.{course}
use Rattle.dg_outside.specs.Outside.{Outside, InputState, OutputState}
use Rattle.dg_end.specs.Lines.{status_of, last_line, HasFixedLine}
use Rattle.dg_end.specs.Writes.{WritesLast}
use Rattle.dg_serve.specs.Endings.{StoresOf, begins, end_of_stop}
use Rattle.dg_serve.specs.inner.Stretches.{remains}
use Rattle.dg_serve.specs.inner.Runs.{event_lines}
use Rattle.dg_serve.specs.Standings.{Standing, StandsFor, IsBelow, IsEventAt, IsPartAt, ServedParts, PartsHalted}
use Rattle.dg_serve.specs.Served.{Hindered, DidNotBegin}
use Rattle.dg_serve.specs.inner.Stretches.{IsAtVolume}
use Rattle.dg_serve.specs.Ran.{IsOpened}
use Rattle.dg_serve.specs.declared.stop.Stop.{Stop}
use Rattle.dg_serve.specs.declared.stop.Stop.TheVariants as stop
use Rattle.dg_serve.proofs.BoardLemmas.{used_then, used_more, calm_all_then}
use Rattle.dg_serve.proofs.EventLemmas.{stands_boards}
use Rattle.dg_serve.proofs.GoLemmas.{serves_then, lines_then, stop_then, untold_then}
use Rattle.dg_serve.proofs.RunLemmas.{all_front, all_both}
use Rattle.dg_serve.proofs.OpenLemmas.{many_in}
use Rattle.dg_serve.proofs.ServeLemmas.{outside_of, boards_endure, calm_at, wrote_all, wrote_by, not_begun}
use Rattle.dg_serve.proofs.StartLemmas.{stands_first}
use Rattle.dg_single.specs.Overs.{Owns, Seat, seat, BeganAndGoes, RunGoes, latest_moment}
use Rattle.dg_single.specs.Plans.{turns_of, plan_of}
use Rattle.dg_single.specs.Singles.{OthersAreVolumes, MoteRun, MoteBegan}
use Rattle.dg_single.proofs.OverLemmas.{more_on}
use Rattle.dg_single.proofs.PlaceLemmas.{put_same}

-- ---- whose events they are

turns_at : (mote : ℕ) (ticks : List Bool) → AllByRecursion (IsPartAt mote) (turns_of mote ticks)
turns_at mote [] = tt
turns_at mote (true ∷ ticks) = (refl, (refl, turns_at mote ticks))
turns_at mote (false ∷ ticks) = (refl, turns_at mote ticks)

pub plan_at : (mote : ℕ) (ticks : List Bool) → AllByRecursion (IsPartAt mote) (plan_of mote ticks)
plan_at mote ticks = (refl, turns_at mote ticks)

-- events of a mote whose board is a volume
at_own : (mote : ℕ) (boards : List Device) (events : List Event) → ((a : Device) → slice_get boards mote ≡ Some a → IsVolume a.image) → AllByRecursion (IsEventAt mote) events → AllByRecursion (IsAtVolume boards) events
at_own mote boards [] volume own = tt
at_own mote boards (e ∷ es) volume own = (λ a was. volume a (ap (slice_get boards) (sym own.0) ∙ was), at_own mote boards es volume own.1)

-- or of one that began in them
at_begun : (mote on : ℕ) (boards : List Device) (events : List Event) → ((m : ℕ) (a : Device) → mote ≤ m → m < on → slice_get boards m ≡ Some a → IsVolume a.image) → AllByRecursion (IsBelow on) events → AllByRecursion (IsEventAt mote) events → AllByRecursion (IsAtVolume boards) events
at_begun mote on boards [] volumes below own = tt
at_begun mote on boards (e ∷ es) volumes below own = (λ a was. let at = own.0 in volumes (mote_of e) a (omega (arith, at)) below.0 was, at_begun mote on boards es volumes below.1 own.1)

-- ---- from the opening to where it ended

module _ (profile : NetProfile) (mote seed turns : ℕ) (a : Outside) (after : InputState) (p q : Standing) (o : IsOpened profile seed (record a { boards = p.boards }) p.service p.addressees p.reached (outside_of after p)) (known : mote < profile.motes) where
  abbrev First : List Row → List Store → Moment
  First table stores = begins table profile.links stores p.service.timeline.reading p.clock seed (option_map (emptied profile.motes) a.link.inboxes)

  -- those before it powered on, as far as its service knows
  stands_opened : (table : List Row) (stores : List Store) → StoresOf profile.motes p.boards stores → OthersAreVolumes profile.motes mote p.boards → StandsFor profile.motes mote profile.links 0 p.boards (First table stores) p
  stands_opened table stores of others =
      more_on profile.motes 0 mote profile.links p.boards (First table stores) p (omega arith) (omega (arith, known))
      (λ m a low high was. others m a (omega (arith, high, known)) (λ e. omega (arith, e, high)) was) (λ m low. o.off m)
      (stands_first profile.motes profile.links table stores p.service.timeline.reading p.clock (first_generator seed) (option_map (emptied profile.motes) a.link.inboxes) p of o.moment refl o.draws refl o.link.0)

  -- and so did those after it
  stands_begun : (mid : Standing) (w : ServedParts profile.motes mote (mote + 1) profile.links (Begins mote ∷ []) p mid) → (s : Moment) → OthersAreVolumes profile.motes mote p.boards → StandsFor profile.motes (mote + 1) profile.links 0 p.boards s mid → StandsFor profile.motes profile.motes profile.links 0 p.boards s mid
  stands_begun mid w s others st =
      more_on profile.motes (mote + 1) profile.motes profile.links p.boards s mid (omega (arith, known)) (omega arith)
      (λ m a low high was. others m a high (λ e. omega (arith, e, low)) was) (λ m low. w.ready.off m low) st

  -- its board is a volume
  own_volume : (mid : Standing) → ServedParts profile.motes mote (mote + 1) profile.links (Begins mote ∷ []) p mid → (a : Device) → slice_get p.boards mote ≡ Some a → IsVolume a.image
  own_volume mid w a was = w.volumes mote a (omega arith) (omega arith) was

  ran_all : BeganAndGoes (Ok tt) (seat profile.motes mote profile.links) turns p q → MoteRun None profile mote seed turns (record a { boards = p.boards }) (outside_of after q)
  ran_all x =
      let w = x.begins in
      let t = x.turns_go in
      let g = t.goes in
      let own = all_both (IsEventAt mote) w.events g.events (w.own mote (refl, tt)) (g.own mote (turns_at mote t.ticks)) in
      let faults = g.faults ∙ w.faults ∙ o.writes in
      let failures = g.failures ∙ w.failures ∙ o.failures in
      record {
        origin = p.service.timeline.reading;
        clock = p.clock;
        first = o.told;
        events = w.events ++ g.events;
        ticks = t.ticks;
        done = plan_of mote t.ticks;
        left = [];
        parts = append-nil (plan_of mote t.ticks);
        few = t.few;
        all = λ is. refl;
        came = λ table stores of others.
            let s = First table stores in
            let y = w.run p.boards s (stands_opened table stores of others) in
            let z = g.run p.boards y.0 (stands_begun x.between w y.0 others y.2) in
            record {
              came = record { last = z.0; serves = serves_then profile.motes s y.0 z.0 (Begins mote ∷ []) (turns_of mote t.ticks) w.events g.events y.1 z.1; ends = (stands_boards profile.motes profile.motes 0 profile.links p.boards z.0 q z.2, z.2.inboxes, z.2.clock) };
              whole = λ is. whole_of t.ticks z.0 z.2.moment t.all;
            };
        own = own;
        volumes = at_own mote p.boards (w.events ++ g.events) (own_volume x.between w) own;
        boards = (boards_endure profile.motes p.boards q.boards (used_then profile.motes p.boards x.between.boards q.boards (used_more (mote + 1) profile.motes p.boards x.between.boards (omega (arith, known)) w.boards) g.boards)).all;
        port = g.port ∙ w.port ∙ o.link.1;
        wrote = wrote_all profile (w.events ++ g.events) (event_lines w.events ++ event_lines g.events) a.output.written p.written q.written o.put (Puts-join p.written x.between.written q.written (event_lines w.events) (event_lines g.events) w.put g.put) (sym (lines_then w.events g.events));
        counts = record {
          wrote = λ is. absurd cc;
          writes = λ other. faults;
          sent = λ is. absurd cc;
          sends = λ other. failures;
          calm = λ other m d c was now. calm_at (slice_get p.boards m) (slice_get q.boards m) d c was now (calm_all_then p.boards x.between.boards q.boards w.calm g.calm m);
        };
      }
    where
      whole_of : (ticks : List Bool) (last : Moment) → q.service.timeline.moment ≡ last.world.moment + 0 → (length ticks ≡ turns) ⊎ (latest_moment ≤ q.service.timeline.moment) → (length ticks ≡ turns) ⊎ (latest_moment ≤ last.world.moment)
      whole_of ticks last moment (inl all) = inl all
      whole_of ticks last moment (inr late) = inr (omega (arith, moment, late))

  -- a stop came as it powered on
  ran_begin : (why : Stop) → PartsHalted why profile.motes mote profile.links (Begins mote ∷ []) p q → MoteRun (Some why) profile mote seed turns (record a { boards = p.boards }) (outside_of after q)
  ran_begin why h =
      let own = h.own mote (all_front (IsPartAt mote) h.done h.left (subst (AllByRecursion (IsPartAt mote)) (sym h.all) (refl, tt))) in
      record {
        origin = p.service.timeline.reading;
        clock = p.clock;
        first = o.told;
        events = h.events;
        ticks = [];
        done = h.done;
        left = h.left;
        parts = h.all;
        few = omega arith;
        all = λ is. absurd cc;
        came = λ table stores of others.
            let s = First table stores in
            let y = h.run p.boards s (stands_opened table stores of others) in
            record { came = record { last = y.0; serves = y.1; ends = y.2 }; whole = λ is. absurd cc };
        own = own;
        volumes = at_begun mote h.on p.boards h.events h.volumes h.below own;
        boards = (boards_endure profile.motes p.boards q.boards h.boards).all;
        port = h.port ∙ o.link.1;
        wrote = wrote_by why profile h.events h.text a.output p.written (record { written = q.written; writes = q.faults }) o.put h.put h.front h.whole;
        counts = record {
          wrote = λ is. subst (λ n. Rose n q.faults) o.writes (h.counts.wrote (same_Some why stop.Write is));
          writes = λ other. h.counts.faults (λ e. other (ap Some e)) ∙ o.writes;
          sent = λ is. subst (λ n. Rose n q.failures) o.failures (h.counts.sent (same_Some why stop.Link is));
          sends = λ other. h.counts.failures (λ e. other (ap Some e)) ∙ o.failures;
          calm = λ other m d c was now. calm_at (slice_get p.boards m) (slice_get q.boards m) d c was now (h.calm (λ e. other (ap Some e)) m);
        };
      }

  -- a stop came in a turn
  ran_turns : (why : Stop) → BeganAndGoes (Err why) (seat profile.motes mote profile.links) turns p q → MoteRun (Some why) profile mote seed turns (record a { boards = p.boards }) (outside_of after q)
  ran_turns why x =
      let w = x.begins in
      let t = x.turns_go in
      let h = t.goes in
      let at = h.own mote (all_front (IsPartAt mote) h.done h.left (subst (AllByRecursion (IsPartAt mote)) (sym h.all) (turns_at mote t.ticks))) in
      let own = all_both (IsEventAt mote) w.events h.events (w.own mote (refl, tt)) at in
      let faults = w.faults ∙ o.writes in
      let failures = w.failures ∙ o.failures in
      let text = event_lines w.events ++ h.text in
      record {
        origin = p.service.timeline.reading;
        clock = p.clock;
        first = o.told;
        events = w.events ++ h.events;
        ticks = t.ticks;
        done = Begins mote ∷ h.done;
        left = h.left;
        parts = ap (λ l. Begins mote ∷ l) h.all;
        few = t.few;
        all = λ is. absurd cc;
        came = λ table stores of others.
            let s = First table stores in
            let y = w.run p.boards s (stands_opened table stores of others) in
            let z = h.run p.boards y.0 (stands_begun x.between w y.0 others y.2) in
            record {
              came = record { last = z.0; serves = serves_then profile.motes s y.0 z.0 (Begins mote ∷ []) h.done w.events h.events y.1 z.1; ends = stop_then why profile.motes s y.0 z.0 (Begins mote ∷ []) h.done h.left w.events h.events p.boards (remains q.boards q.inboxes q.clock) y.1 z.2 };
              whole = λ is. absurd cc;
            };
        own = own;
        volumes = at_own mote p.boards (w.events ++ h.events) (own_volume x.between w) own;
        boards = (boards_endure profile.motes p.boards q.boards (used_then profile.motes p.boards x.between.boards q.boards (used_more (mote + 1) profile.motes p.boards x.between.boards (omega (arith, known)) w.boards) h.boards)).all;
        port = h.port ∙ w.port ∙ o.link.1;
        wrote = wrote_by why profile (w.events ++ h.events) text a.output p.written (record { written = q.written; writes = q.faults }) o.put (Puts-join p.written x.between.written q.written (event_lines w.events) h.text w.put h.put) (λ is. untold_then w.events h.events h.text (h.front is)) (λ is. ap (λ l. event_lines w.events ++ l) (h.whole is) ∙ sym (lines_then w.events h.events));
        counts = record {
          wrote = λ is. subst (λ n. Rose n q.faults) faults (h.counts.wrote (same_Some why stop.Write is));
          writes = λ other. h.counts.faults (λ e. other (ap Some e)) ∙ faults;
          sent = λ is. subst (λ n. Rose n q.failures) failures (h.counts.sent (same_Some why stop.Link is));
          sends = λ other. h.counts.failures (λ e. other (ap Some e)) ∙ failures;
          calm = λ other m d c was now. calm_at (slice_get p.boards m) (slice_get q.boards m) d c was now (calm_all_then p.boards x.between.boards q.boards w.calm (h.calm (λ e. other (ap Some e))) m);
        };
      }

  -- all turns were played, unless it is late
  pub began_done : BeganAndGoes (Ok tt) (seat profile.motes mote profile.links) turns p q → MoteBegan status.Done profile mote seed turns (record a { boards = p.boards }) (outside_of after q)
  began_done x = record { why = None; traced = record { written = q.written; writes = q.faults }; run = ran_all x; ended = (refl, refl); room = tt }

  ran_stopped : (why : Stop) → RunGoes (Err why) (seat profile.motes mote profile.links) turns p q → MoteRun (Some why) profile mote seed turns (record a { boards = p.boards }) (outside_of after q)
  ran_stopped why (inl h) = ran_begin why h
  ran_stopped why (inr x) = ran_turns why x

  -- it stopped, and its last line was written
  pub began_stopped : (why : Stop) (answer : Status) (told : OutputState) → RunGoes (Err why) (seat profile.motes mote profile.links) turns p q → WritesLast answer (status_of (end_of_stop why)) (last_line (end_of_stop why)) (record { written = q.written; writes = q.faults }) told
      → (HasFixedLine (end_of_stop why) → answer ≢ status.Memory) → MoteBegan answer profile mote seed turns (record a { boards = p.boards }) (record (outside_of after q) { output = told })
  began_stopped why answer told h ended room = record { why = Some why; traced = record { written = q.written; writes = q.faults }; run = ran_stopped why h; ended = ended; room = room }

-- it did not begin, and no board was used
pub not_begun_over : (why : Stop) (answer : Status) (profile : NetProfile) (mote : ℕ) (a b : Outside) (d : Device) (told : OutputState) → slice_get a.boards mote ≡ Some d → b.boards ≡ set a.boards mote d → Hindered (status_of (end_of_stop why)) profile a (record b { boards = a.boards }) × (b.clock ≡ a.clock)
    → WritesLast answer (status_of (end_of_stop why)) (last_line (end_of_stop why)) b.output told → DidNotBegin answer profile a (record b { output = told })
not_begun_over why answer profile mote a b d told was put h ended =
    let same : b.boards ≡ a.boards = put ∙ put_same a.boards mote d was in
    subst (λ bs. DidNotBegin answer profile a (record b { output = told; boards = bs })) (sym same)
    (not_begun why answer profile a (record b { boards = a.boards }) told refl h ended)

-- ---- counts

own_in : (n m : ℕ) (d : Device) → m < n → slice_get (replicate n d) m ≡ Some d
own_in zero m d h = absurd (omega (arith, h))
own_in (suc n) zero d h = refl
own_in (suc n) (suc m) d h = own_in n m d (omega (arith, h))

-- there are boards of which one is the mote's
pub owned : (motes mote : ℕ) (d : Device) → mote < motes → Owns motes mote d (replicate motes d)
owned motes mote d known = record { is = own_in motes mote d known; enough = let n = many_in d motes in omega (arith, n) }

-- no count falls
pub goes_rise : (r : Result (Unit {0}) Stop) (x : Seat) (turns : ℕ) (p q : Standing) → RunGoes r x turns p q → (p.faults ≤ q.faults) × (p.failures ≤ q.failures)
goes_rise (Ok u) x turns p q went =
    let a = went.begins in
    let b = went.turns_go.goes in
    let f = b.faults ∙ a.faults in
    let l = b.failures ∙ a.failures in
    (omega (arith, f), omega (arith, l))
goes_rise (Err why) x turns p q (inl h) = (h.counts.faults_rise, h.counts.failures_rise)
goes_rise (Err why) x turns p q (inr went) =
    let a = went.begins in
    let b = went.turns_go.goes in
    let f = a.faults in
    let l = a.failures in
    let g = b.counts.faults_rise in
    let k = b.counts.failures_rise in
    (omega (arith, f, g), omega (arith, l, k))

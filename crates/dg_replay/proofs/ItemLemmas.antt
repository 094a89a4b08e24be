-- Items one after the other: those of lines that are split, and runs over them.
use Rattle.std.proofs.Common.{◌≡◌, ℕ, ◌+◌, Bool, true, false, cond, ◌≤◌, if◌then◌else◌, List, [], ◌∷◌, ◌++◌, length, map, refl, append-nil, append_assoc, ap, sym, ◌∙◌, subst, arith}
use Rattle.std.proofs.lemmas.List.{map-append}
use Rattle.std.proofs.lemmas.List.Sums.{sum_by-append}
use Rattle.std.proofs.lemmas.Grind.{flat_map-append}
use Rattle.std.specs.Prelude.{Option, Some, None, option_map}
use Rattle.dg_object.specs.Object.{Row}
use Rattle.dg_volume.specs.Table.{row_at}
use Rattle.dg_base.specs.declared.events.Step.{Step}
use Rattle.dg_frame.specs.declared.Message.{Message}
use Rattle.dg_script.specs.Places.{first_place, place_after}
use Rattle.dg_script.specs.Report.{report_text}
use Rattle.dg_script.specs.declared.place.Place.{Place}
use Rattle.dg_script.specs.declared.line.Line.{Line}
use Rattle.dg_script.specs.declared.line.Line.TheVariants.{Nothing, Motes, Golden, Boards, Link, Narrow, Image, Cut, Happens as EventLine, Round, Sweeps}
use Rattle.dg_script.specs.declared.report.Report.{Report}
use Rattle.dg_script.specs.declared.report.Report.TheVariants as report
use Rattle.dg_rules.specs.Sizes.{most_events}
use Rattle.dg_rules.specs.World.{World, counted}
use Rattle.dg_rules.specs.Changes.{is_taken, declared_lines}
use Rattle.dg_rules.specs.Events.{Does, Refuses, Goes, EventEffect, does, mote_of, dt_of}
use Rattle.dg_rules.specs.Steps.{WorldStep, DeclareStep, StepDoes, Ended, declared_as, blows, and_sent}
use Rattle.dg_rules.specs.Runs.{Played, Plays, ItemStep}
use Rattle.dg_rules.proofs.SiteLemmas.{site_count}
use Rattle.dg_script.specs.Items.{Item, Declares, Applies, place_behind, item_by, items_behind, items_of}
use Rattle.dg_replay.specs.Items.{StartState, Beginning, begin_by, begin_behind, beginning_of, is_event, events_among}
use Rattle.dg_replay.specs.inner.Words.{no_beginning, with_link, with_narrow}
use Rattle.dg_replay.specs.Replayed.{RunsTo, item_played, played_text}
use Rattle.dg_replay.specs.Playing.{ItemsRun}

pub some_is : {A : Type 0} (x y : A) → Some x ≡ Some y → x ≡ y
some_is x y e = cc

-- ---- the items of lines, and of others after them

items_apart : (place : Place) (done rest : List Line)
    → items_behind place (done ++ rest) ≡ items_behind place done ++ items_behind (place_behind place done) rest
unfolding place_behind items_behind
items_apart place [] rest = refl
items_apart place (l ∷ done) rest =
    ap (λ (xs : List Item). item_by place l ++ xs) (items_apart (place_after place l) done rest)
    ∙ sym (append_assoc (item_by place l) (items_behind (place_after place l) done) (items_behind (place_behind (place_after place l) done) rest))

pub items_split : (done rest : List Line) → items_of (done ++ rest) ≡ items_of done ++ items_behind (place_behind first_place done) rest
items_split done rest = items_apart first_place done rest

-- the first of the lines after others, and those after it
pub items_first : (place : Place) (line : Line) (rest : List Line) → items_behind place (line ∷ rest) ≡ item_by place line ++ items_behind (place_after place line) rest
unfolding items_behind
items_first place line rest = refl

pub items_next : (done : List Line) (line : Line) → items_of (done ++ line ∷ []) ≡ items_of done ++ item_by (place_behind first_place done) line
unfolding items_behind
items_next done line = items_split done (line ∷ []) ∙ ap (λ (xs : List Item). items_of done ++ xs) (append-nil (item_by (place_behind first_place done) line))

pub place_next : (place : Place) (done : List Line) (line : Line) → place_behind place (done ++ line ∷ []) ≡ place_after (place_behind place done) line
unfolding place_behind
place_next place [] line = refl
place_next place (l ∷ done) line = place_next (place_after place l) done line

pub begin_next : (g : StartState) (b : Beginning) (done : List Line) (line : Line) → begin_behind g b (done ++ line ∷ []) ≡ begin_by g (begin_behind g b done) line
unfolding begin_behind
begin_next g b [] line = refl
begin_next g b (l ∷ done) line = begin_next g (begin_by g b l) done line

-- how many motes there are does not depend on the boards
pub motes_same : (g h : StartState) (b c : Beginning) (lines : List Line) → b.motes ≡ c.motes → (begin_behind g b lines).motes ≡ (begin_behind h c lines).motes
unfolding begin_behind
motes_same g h b c [] e = e
motes_same g h b c (Nothing ∷ lines) e = motes_same g h b c lines e
motes_same g h b c (Motes n ∷ lines) e = motes_same g h (begin_by g b (Motes n)) (begin_by h c (Motes n)) lines refl
motes_same g h b c (Golden name used content ∷ lines) e = motes_same g h (begin_by g b (Golden name used content)) (begin_by h c (Golden name used content)) lines e
motes_same g h b c (Boards ∷ lines) e = motes_same g h (begin_by g b Boards) (begin_by h c Boards) lines e
motes_same g h b c (Link x y ∷ lines) e = motes_same g h (begin_by g b (Link x y)) (begin_by h c (Link x y)) lines e
motes_same g h b c (Narrow m ∷ lines) e = motes_same g h (begin_by g b (Narrow m)) (begin_by h c (Narrow m)) lines e
motes_same g h b c (Image image version name content ∷ lines) e = motes_same g h b c lines e
motes_same g h b c (Cut cut ∷ lines) e = motes_same g h b c lines e
motes_same g h b c (EventLine event ∷ lines) e = motes_same g h b c lines e
motes_same g h b c (Round x y ∷ lines) e = motes_same g h b c lines e
motes_same g h b c (Sweeps n ∷ lines) e = motes_same g h b c lines e

-- ---- declarations

pub taken_step : (o : Option Row) (w : World) (row : Row) → row_at w.declared row.image row.version ≡ o → is_taken o row ≡ true → DeclareStep w row w (report.Taken row.image row.version ∷ [])
taken_step None w row e taken = absurd (let f : false ≡ true = taken in cc)
taken_step (Some k) w row e taken =
    record {
      world = sym (ap (λ (o : Option Row). declared_as o w row) e);
      told = sym (ap (λ (o : Option Row). declared_lines o row) e ∙ ap (λ (b : Bool). if b then report.Taken row.image row.version ∷ [] else []) taken);
    }

-- a world with the same number of sites, in which this many more events were applied
pub record Counts (w v : World) (n : ℕ) : Type 0 where
  pub sites : length v.sites ≡ length w.sites
  pub events : v.events ≡ w.events + n

declared_rows : (o : Option Row) (w : World) (row : Row) → Counts w (declared_as o w row) 0
declared_rows None w row = record { sites = refl; events = omega arith }
declared_rows (Some k) w row = record { sites = refl; events = omega arith }

pub declared_same : (w z : World) (row : Row) (reports : List Report) → DeclareStep w row z reports → Counts w z 0
declared_same w z row reports step = subst (λ (v : World). Counts w v 0) (sym step.world) (declared_rows (row_at w.declared row.image row.version) w row)

-- ---- events

sent_counts : (w v : World) (m : ℕ) (sent : Option Message) → Counts w v 1 → Counts w (and_sent v m sent) 1
sent_counts w v m None c = c
sent_counts w v m (Some message) c = record { sites = c.sites; events = c.events }

done_counts : (blown : Bool) (w : World) (x : Step) (d : EventEffect) (v : World) (reports : List Report) → Ended blown w x d v reports → Counts w v 1
done_counts true w x d v reports cut =
    subst (λ (u : World). Counts w u 1) (sym cut.world) (record { sites = site_count (record (counted w (dt_of x.event)) { table = d.table }) (mote_of x.event) (record { store = cut.store; runs = None }); events = refl })
done_counts false w x d v reports (runs, found, world, told) =
    subst (λ (u : World). Counts w u 1) (sym world) (sent_counts w _ (mote_of x.event) d.sent (record { sites = site_count (record (counted w (dt_of x.event)) { table = d.table }) (mote_of x.event) _; events = refl }))

does_counts : (D : Does) (w : World) (x : Step) (v : World) (reports : List Report) → StepDoes D w x v reports → Counts w v 1
does_counts (Refuses why) w x v reports step = subst (λ (u : World). Counts w u 1) (sym step.0) (record { sites = refl; events = refl })
does_counts (Goes d) w x v reports step = done_counts (blows x.cut d.trail) w x d v reports step

pub step_counts : (w v : World) (x : Step) (reports : List Report) → WorldStep w x v reports → Counts w v 1
unfolding WorldStep
step_counts w v x reports step = does_counts (does w x.event) w x v reports step

-- ---- runs

pub events_among-append : (xs ys : List Item) → events_among (xs ++ ys) ≡ events_among xs + events_among ys
events_among-append xs ys = sum_by-append (λ x. cond (is_event x) 1 0) xs ys

item_counts : (w v : World) (item : Item) (reports : List Report) → ItemStep w item v reports → Counts w v (events_among (item ∷ []))
item_counts w v (Declares row) reports step = declared_same w v row reports step
item_counts w v (Applies x reported) reports step = step_counts w v x step.0 step.1

pub plays_counts : (w v : World) (ps : List Played) → Plays w ps v → Counts w v (events_among (map item_played ps))
unfolding Plays
plays_counts w v [] run = subst (λ (u : World). Counts w u 0) run (record { sites = refl; events = omega arith })
plays_counts w v (p ∷ ps) run =
    let first : Counts w p.after (events_among (p.item ∷ [])) = subst (λ (u : World). Counts u p.after (events_among (p.item ∷ []))) run.0 (item_counts p.before p.after p.item p.reports run.1) in
    let others = plays_counts p.after v ps run.2 in
    let sum : events_among (p.item ∷ map item_played ps) ≡ events_among (p.item ∷ []) + events_among (map item_played ps) = events_among-append (p.item ∷ []) (map item_played ps) in
    record { sites = others.sites ∙ first.sites; events = omega (arith, first.events, others.events, sum) }

pub plays_append : (w u v : World) (ps qs : List Played) → Plays w ps u → Plays u qs v → Plays w (ps ++ qs) v
unfolding Plays
plays_append w u v [] qs run more = subst (λ (x : World). Plays x qs v) (sym run) more
plays_append w u v (p ∷ ps) qs run more = (run.0, run.1, plays_append p.after u v ps qs run.2 more)

pub plays_none : (w v : World) (played : List Played) → played ≡ [] → w ≡ v → Plays w played v
unfolding Plays
plays_none w v played none same = subst (λ (ps : List Played). Plays w ps v) (sym none) same

pub played_more : (ps qs : List Played) → played_text (ps ++ qs) ≡ played_text ps ++ played_text qs
played_more ps qs = flat_map-append (λ (q : Played). report_text q.reports) ps qs

-- a run from where it begins continues from the world that it leads to
pub runs_append : (o : Option World) (u v : World) (ps qs : List Played) → RunsTo o ps (Some u) → Plays u qs v → RunsTo o (ps ++ qs) (Some v)
runs_append None u v ps qs (none, is) more = absurd (let e : Some u ≡ None = is in cc)
runs_append (Some w) u v ps qs (z, is, plays) more = (v, refl, plays_append w u v ps qs (subst (λ (x : World). Plays w ps x) (sym (some_is u z is)) plays) more)

pub runs_from_none : (o : Option World) (played : List Played) → RunsTo o played None → (o ≡ None) × (played ≡ [])
runs_from_none None played r = (refl, r.0)
runs_from_none (Some w) played (v, is, plays) = absurd (let e : None ≡ Some v = is in cc)

-- ---- the world in which a script begins

abbrev events_or : Option World → ℕ
events_or None = 0
events_or (Some w) = w.events

NoEvents : Option World → Type 0
NoEvents o = (w : World) → o ≡ Some w → w.events ≡ 0

-- no event is applied in a world that is set so
no_events_set : (f : World → World) → ((w : World) → (f w).events ≡ w.events) → (o : Option World) → NoEvents o → NoEvents (option_map f o)
unfolding NoEvents
no_events_set f same None h = λ w is. absurd (let e : None ≡ Some w = is in cc)
no_events_set f same (Some u) h = λ w is. ap (λ (z : World). z.events) (sym (some_is (f u) w is)) ∙ same u ∙ h u refl

no_events_by : (g : StartState) (b : Beginning) (line : Line) → NoEvents b.world → NoEvents (begin_by g b line).world
unfolding NoEvents
no_events_by g b Nothing h = h
no_events_by g b (Motes n) h = h
no_events_by g b (Golden name used content) h = λ w is. let e : 0 ≡ w.events = ap events_or (is) in sym e
no_events_by g b Boards h = λ w is. let e : 0 ≡ w.events = ap events_or (is) in sym e
no_events_by g b (Link x y) h = no_events_set (with_link (x, y)) (λ w. refl) b.world h
no_events_by g b (Narrow m) h = no_events_set (with_narrow m) (λ w. refl) b.world h
no_events_by g b (Image image version name content) h = h
no_events_by g b (Cut c) h = h
no_events_by g b (EventLine event) h = h
no_events_by g b (Round x y) h = h
no_events_by g b (Sweeps n) h = h

no_events_behind : (g : StartState) (b : Beginning) (lines : List Line) → NoEvents b.world → NoEvents (begin_behind g b lines).world
unfolding begin_behind
no_events_behind g b [] h = h
no_events_behind g b (line ∷ lines) h = no_events_behind g (begin_by g b line) lines (no_events_by g b line h)

-- no event was applied in it
begins_with_none : (g : StartState) (lines : List Line) (w : World) → (beginning_of g lines).world ≡ Some w → w.events ≡ 0
unfolding NoEvents
begins_with_none g lines = no_events_behind g no_beginning lines (λ w is. absurd (let e : None ≡ Some w = is in cc))

-- the events of a world to which a run leads from there are those that were played
pub run_counts : (g : StartState) (lines : List Line) (played : List Played) (v : World) → RunsTo (beginning_of g lines).world played (Some v) → v.events ≡ events_among (map item_played played)
run_counts g lines played v run = by_beginning (beginning_of g lines).world (begins_with_none g lines) run
  where
    by_beginning : (o : Option World) → ((w : World) → o ≡ Some w → w.events ≡ 0) → RunsTo o played (Some v) → v.events ≡ events_among (map item_played played)
    by_beginning None none run = absurd (let e : Some v ≡ None = run.1 in cc)
    by_beginning (Some w) none (z, is, plays) =
        let c = plays_counts w z played plays in
        let same : v.events ≡ z.events = ap (λ (x : World). x.events) (some_is v z is) in
        omega (arith, none w refl, c.events, same)

-- ---- items that were played

pub no_plays : (w : World) → Plays w [] w
unfolding Plays
no_plays w = refl

abbrev pub items_run_none : (w : World) → w.events ≤ most_events → ItemsRun w [] w []
items_run_none w few = record { played = []; are = refl; run = no_plays w; reported = refl; few = few }

-- an item that was played
abbrev pub played_one : (w v : World) (item : Item) (reports : List Report) → Played
played_one w v item reports = record { item = item; before = w; after = v; reports = reports }

pub one_plays : (w v : World) (item : Item) (reports : List Report) → ItemStep w item v reports → Plays w (played_one w v item reports ∷ []) v
unfolding Plays
one_plays w v item reports step = (refl, step, refl)

abbrev pub items_run_one : (w v : World) (item : Item) (reports : List Report) → ItemStep w item v reports → v.events ≤ most_events → ItemsRun w (item ∷ []) v (report_text reports)
items_run_one w v item reports step few =
    record {
      played = played_one w v item reports ∷ [];
      are = refl;
      run = one_plays w v item reports step;
      reported = sym (append-nil (report_text reports));
      few = few;
    }

abbrev pub items_run_join : (w u v : World) (xs ys : List Item) (before text : List ℕ) → ItemsRun w xs u before → ItemsRun u ys v text → ItemsRun w (xs ++ ys) v (before ++ text)
items_run_join w u v xs ys before text a b =
    record {
      played = a.played ++ b.played;
      are = map-append item_played a.played b.played ∙ ap (λ (zs : List Item). zs ++ map item_played b.played) a.are ∙ ap (λ (zs : List Item). xs ++ zs) b.are;
      run = plays_append w u v a.played b.played a.run b.run;
      reported = ap (λ (s : List ℕ). s ++ text) a.reported ∙ ap (λ (s : List ℕ). played_text a.played ++ s) b.reported ∙ sym (played_more a.played b.played);
      few = b.few;
    }

pub items_run_counts : (w v : World) (items : List Item) (text : List ℕ) → ItemsRun w items v text → Counts w v (events_among items)
items_run_counts w v items text r = subst (λ (xs : List Item). Counts w v (events_among xs)) r.are (plays_counts w v r.played r.run)

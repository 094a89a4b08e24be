-- The next line of a script: what was played with it, and how far a replay came.
use Rattle.std.proofs.Common.{◌≡◌, ◌≢◌, ◌⊎◌, inl, inr, ℕ, ◌+◌, ◌≤◌, Bool, true, false, List, [], ◌∷◌, ◌++◌, length, map, take, drop, length-append, refl, append-nil, append_assoc, ap, sym, ◌∙◌, subst, arith}
use Rattle.std.specs.Prelude.{Option, Some, None, Result, Ok, Err, IfSome, nat_lt, if◌then◌else◌}
use Rattle.std.proofs.lemmas.List.{take-append-drop, take_at, take_all, length-map, map-append}
use Rattle.dg_base.proofs.OutsideLemmas.{Puts-join, PutsPrefix-nil}
use Rattle.dg_base.specs.Outside.{Puts, PutsPrefix}
use Rattle.dg_nor.specs.Device.{Device}
use Rattle.dg_object.specs.Object.{Row}
use Rattle.dg_script.specs.Lines.{line_of}
use Rattle.dg_script.specs.Places.{first_place, place_after}
use Rattle.dg_script.specs.Script.{Script, script_from, with_line}
use Rattle.dg_script.specs.declared.fault.LineFault.{LineFault}
use Rattle.dg_script.specs.declared.place.Place.{Place}
use Rattle.dg_script.specs.declared.line.Line.{Line}
use Rattle.dg_script.specs.declared.line.Line.TheVariants.{Nothing, Motes, Golden, Boards, Link, Narrow, Image, Cut, Happens as EventLine, Round, Sweeps}
use Rattle.dg_rules.specs.Sizes.{most_events}
use Rattle.dg_rules.specs.World.{World}
use Rattle.dg_rules.specs.Runs.{Played, Plays}
use Rattle.dg_script.specs.Items.{Item, item_by, place_behind, items_of}
use Rattle.dg_replay.specs.Items.{StartState, no_start_state, UsesBoards, is_boards, Beginning, begin_by, beginning_of, motes_in, lacking, lacking_by, next_items, events_among}
use Rattle.dg_replay.specs.Boards.{EventNext, InSome, LacksImage}
use Rattle.dg_replay.specs.Ending.{events_in, InBounds}
use Rattle.dg_replay.specs.Replayed.{Progress, AtTooMany, RunsTo, item_played, played_text}
use Rattle.dg_replay.specs.Playing.{InWorld, RunsOn, RunsFrom, LineBegun, IsOneTooMany}
use Rattle.dg_replay.specs.Replaying.{TextPlayed, TextReported, Reached, PlayedPrefix}
use Rattle.dg_replay.specs.Shown.{Saw, GoesOnSeen, stores_in, events_played}
use Rattle.dg_replay.specs.Stages.{based_on, done_so_far, line_told, replay_state, span}
use Rattle.dg_replay.specs.declared.player.Player.{Player}
use Rattle.dg_replay.specs.Untouched.{TextKeepsBytes}
use Rattle.dg_replay.proofs.BytesLemmas.{keeps_next}
use Rattle.dg_replay.proofs.ItemLemmas.{some_is, items_next, begin_next, plays_append, played_more, runs_from_none, run_counts}
use Rattle.dg_world.specs.Mounted.{StandFor}
use Rattle.dg_replay.proofs.ShownLemmas.{IsFirst, begins_first, shows_from, unplaced_shown}
use Rattle.dg_replay.proofs.StandLemmas.{few_in, grounded_next}

-- two results that differ
pub ok_differs : {A E : Type 0} (r : Result A E) (x : A) (e : E) → r ≡ Ok x → r ≡ Err e → ⊥
ok_differs r x e is other = absurd (let f : Ok x ≡ Err e = sym is ∙ other in cc)

pub err_differs : {A E : Type 0} (r : Result A E) (x e : E) → r ≡ Err x → (x ≡ e → ⊥) → r ≡ Err e → ⊥
err_differs r x e is differs other = differs (let f : Err x ≡ Err e = sym is ∙ other in cc)

-- ---- the script

-- the script after a line that is read
pub script_line : (ends : Bool) (place : Place) (n : ℕ) (text : List ℕ) (texts : List (List ℕ)) (line : Line) → line_of place text ≡ Ok line
    → script_from ends place n (text ∷ texts)
    ≡ record { lines = line ∷ (script_from ends (place_after place line) (n + 1) texts).lines; fault = (script_from ends (place_after place line) (n + 1) texts).fault }
unfolding script_from
script_line ends place n text texts line spelled = ap (λ (o : Result Line LineFault). with_line o (λ l. script_from ends (place_after place l) (n + 1) texts) n) spelled

-- the script that ends at a line that is not read
pub script_fault : (ends : Bool) (place : Place) (n : ℕ) (text : List ℕ) (texts : List (List ℕ)) (fault : LineFault) → line_of place text ≡ Err fault → script_from ends place n (text ∷ texts) ≡ record { lines = []; fault = Some (n, fault) }
unfolding script_from
script_fault ends place n text texts fault spelled = ap (λ (o : Result Line LineFault). with_line o (λ l. script_from ends (place_after place l) (n + 1) texts) n) spelled

pub lines_one : (done : List Line) (line : Line) (rest : List Line) → (done ++ line ∷ []) ++ rest ≡ done ++ line ∷ rest
lines_one done line rest = append_assoc done (line ∷ []) rest

pub lacking_append : (boards : ℕ) (done more : List Line) → lacking boards done ≡ None → lacking boards more ≡ None → lacking boards (done ++ more) ≡ None
unfolding lacking
lacking_append boards [] more none one = one
lacking_append boards (l ∷ done) more none one = through l (lacking boards done) (lacking boards (done ++ more)) none (λ rest. lacking_append boards done more rest one)
  where
    by_test : (b : Bool) (n : ℕ) (rest more : Option ℕ) → (if b then Some n else rest) ≡ None → (rest ≡ None → more ≡ None) → (if b then Some n else more) ≡ None
    by_test true n rest more e f = cc
    by_test false n rest more e f = f e

    through : (l : Line) (rest more : Option ℕ) → lacking_by boards l rest ≡ None → (rest ≡ None → more ≡ None) → lacking_by boards l more ≡ None
    through Nothing rest more e f = f e
    through (Motes n) rest more e f = by_test (nat_lt boards n) n rest more e f
    through (Golden name used content) rest more e f = f e
    through Boards rest more e f = f e
    through (Link a b) rest more e f = f e
    through (Narrow m) rest more e f = f e
    through (Image image version name content) rest more e f = f e
    through (Cut cut) rest more e f = f e
    through (EventLine event) rest more e f = f e
    through (Round a b) rest more e f = f e
    through (Sweeps n) rest more e f = f e

pub lacking_next : (boards : ℕ) (done : List Line) (line : Line) → lacking boards done ≡ None → lacking_by boards line None ≡ None → lacking boards (done ++ line ∷ []) ≡ None
unfolding lacking
lacking_next boards done line none one = lacking_append boards done (line ∷ []) none one

-- ---- events are counted

-- a run to a world with no more than a million events has no more
few_played : (ground : StartState) (done : List Line) (v : Option World) (ps : List Played) → RunsTo (beginning_of ground done).world ps v → IfSome v (λ u. u.events ≤ most_events) → events_among (map item_played ps) ≤ most_events
few_played ground done None ps run few = subst (λ (xs : List Played). events_among (map item_played xs) ≤ most_events) (sym (runs_from_none (beginning_of ground done).world ps run).1) (omega arith)
few_played ground done (Some v) ps run few = subst (λ (k : ℕ). k ≤ most_events) (run_counts ground done ps v run) few

-- a million were played, and the next item is an event
pub too_many_played : (ground : StartState) (done : List Line) (v : Option World) (ps : List Played) (left : List Item) → RunsTo (beginning_of ground done).world ps v → InSome v (λ u. IsOneTooMany u left) → AtTooMany left ps
too_many_played ground done None ps left run full = absurd full
too_many_played ground done (Some v) ps left run full = record { events = sym (run_counts ground done ps v run) ∙ full.full; next = full.next }

-- ---- a run continues

-- a run to a world, and items that run from there
pub record Over (o : Option World) (ps : List Played) (items : List Item) (v : Option World) (t : List ℕ) (before after : Saw) : Type 0 where
  pub now : List Played
  pub are : map item_played now ≡ items
  pub run : RunsTo o (ps ++ now) v
  pub reported : t ≡ played_text now
  pub few : IfSome v (λ u. u.events ≤ most_events)
  pub shown : GoesOnSeen before after o ps o (ps ++ now)

over : {G H : Saw} (o w : Option World) (ps : List Played) (items : List Item) (v : Option World) (t : List ℕ) → IfSome o IsFirst → RunsTo o ps w → RunsFrom w items v (line_told t G H) → Over o ps items v t G H
over {G = G} {H = H} o None ps items v t first run (none, is, told, stays) =
    record {
      now = [];
      are = sym none;
      run = subst (λ (x : Option World). RunsTo o (ps ++ []) x) (sym is) (subst (λ (xs : List Played). RunsTo o xs None) (sym (append-nil ps)) run);
      reported = told;
      few = subst (λ (x : Option World). IfSome x (λ u. u.events ≤ most_events)) (sym is) tt;
      shown = λ f. subst (λ (xs : List Played). H.events (stores_in o) (events_played xs)) (sym (append-nil ps)) (unplaced_shown G H o ps run stays f);
    }
over None (Some w) ps items v t first run from = absurd (let e : Some w ≡ None = run.1 in cc)
over {G = G} {H = H} (Some w0) (Some w) ps items v t begins (u, is, plays) (z, at, runs, shown) =
    let first : Plays w0 ps w = subst (λ (x : World). Plays w0 ps x) (sym (some_is w u is)) plays in
    record {
      now = runs.played;
      are = runs.are;
      run = subst (λ (x : Option World). RunsTo (Some w0) (ps ++ runs.played) x) (sym at) (z, refl, plays_append w0 w z ps runs.played first runs.run);
      reported = runs.reported;
      few = subst (λ (x : Option World). IfSome x (λ u. u.events ≤ most_events)) (sym at) runs.few;
      shown = shows_from G H (Some w0) ps runs.played w begins (u, is, plays) shown;
    }

-- if nothing is played, nothing is reported
none_told : (ps : List Played) → map item_played ps ≡ [] → played_text ps ≡ []
none_told [] e = refl
none_told (p ∷ ps) e = cc

-- if something is reported of items, there are some
pub begun_some : {G H : Saw} (o v : Option World) (ps : List Played) (begun : List Item) (t : List ℕ) → Over o ps begun v t G H → t ≢ [] → begun ≢ []
begun_some o v ps begun t x some none = some (x.reported ∙ none_told x.now (x.are ∙ none))

-- ---- the next line

-- the lines after one more line
pub next_lines : (ends : Bool) (script : Script) (texts : List (List ℕ)) (text : List ℕ) (n : ℕ) (place : Place) (done : List Line) (line : Line) → line_of place text ≡ Ok line → done ++ (script_from ends place n (text ∷ texts)).lines ≡ script.lines
    → done ++ line ∷ (script_from ends (place_after place line) (n + 1) texts).lines ≡ script.lines
next_lines ends script texts text n place done line spelled lines = ap (λ (x : Script). done ++ x.lines) (sym (script_line ends place n text texts line spelled)) ∙ lines

-- the same from the place where they are played
pub lines_behind : (ends : Bool) (script : Script) (texts : List (List ℕ)) (text : List ℕ) (n : ℕ) (p q : Player) (done : List Line) (line : Line) → line_of p.place text ≡ Ok line → q.place ≡ place_after p.place line
    → done ++ (script_from ends p.place n (text ∷ texts)).lines ≡ script.lines → (done ++ line ∷ []) ++ (script_from ends q.place (n + 1) texts).lines ≡ script.lines
lines_behind ends script texts text n p q done line spelled behind lines =
    lines_one done line (script_from ends q.place (n + 1) texts).lines
    ∙ ap (λ (x : Place). done ++ line ∷ (script_from ends x (n + 1) texts).lines) behind
    ∙ next_lines ends script texts text n p.place done line spelled lines

pub few_next : (ground : StartState) (done : List Line) (v : Option World) (ps : List Played) (q : Player) (now : List Device) → RunsTo (beginning_of ground done).world ps v → InWorld q v now → events_among (map item_played ps) ≤ most_events
few_next ground done v ps q now run kept = few_played ground done v ps run (few_in v q now kept)

few_lines : (done : List Line) (ps : List Played) → map item_played ps ≡ items_of done → events_among (map item_played ps) ≤ most_events → events_in done ≤ most_events
few_lines done ps items few = subst (λ (xs : List Item). events_among xs ≤ most_events) items few

pub few_items : (done : List Line) (ps : List Played) → map item_played ps ≡ items_of done → events_in done ≤ most_events → events_among (map item_played ps) ≤ most_events
few_items done ps items few = subst (λ (xs : List Item). events_among xs ≤ most_events) (sym items) few

-- the next line was played, and what is reported of it was written
pub reached_next : {table : List Row} {S G H : Saw} (ends : Bool) (script : Script) (texts : List (List ℕ)) (text : List ℕ) (n : ℕ) (p q : Player) (initial old now : List Device) (before mid after : Option (List ℕ))
    → (r : Reached table ends script (text ∷ texts) n p (span initial old before mid S G)) → TextKeepsBytes p.place text old now → TextReported (based_on table initial) text (done_so_far r.done r.last) (replay_state p old mid G) (replay_state q now after H) → Reached table ends script texts (n + 1) q (span initial now before after S H)
reached_next ends script texts text n p q initial old now before mid after r kept t =
    let line = t.played.line in
    let to = t.played.to in
    let goes = to.runs r.ground r.played r.grounded r.items r.run in
    let on = goes.on in
    record {
      done = r.done ++ line ∷ [];
      played = on.now;
      last = to.world;
      numbered = omega (arith, length-append r.done (line ∷ []), r.numbered);
      lines = lines_behind ends script texts text n p q r.done line t.played.spelled t.played.behind r.lines;
      fault = ap (λ (x : Place). (script_from ends x (n + 1) texts).fault) t.played.behind ∙ ap (λ (x : Script). x.fault) (sym (script_line ends p.place n text texts line t.played.spelled)) ∙ r.fault;
      items = on.items;
      ground = on.ground;
      grounded = on.grounded;
      run = on.run;
      reported = subst (λ (xs : List ℕ). Puts before after xs) (ap (λ (xs : List ℕ). played_text r.played ++ xs) to.report_now ∙ sym on.reported) (Puts-join before mid after _ _ r.reported t.written);
      seen = λ f. goes.shown (r.seen f);
      stood = to.stood;
      few = few_lines (r.done ++ line ∷ []) on.now on.items (few_next on.ground (r.done ++ line ∷ []) to.world on.now q now on.run to.stood.world);
      untouched = keeps_next p.place r.done line initial old now r.stood.place r.untouched (kept line t.played.spelled);
      boards_enough = lacking_next (length initial) r.done line r.boards_enough to.boards_enough;
    }

-- ---- what was written

-- more is reported, and a prefix of it was written
pub front_put : {table : List Row} (script : Script) {P : Progress table script → List ℕ → Type 0} (initial : List Device) (before mid after : Option (List ℕ)) (ps : List Played) (t : List ℕ) (came : Progress table script) → Puts before mid (played_text ps) → played_text came.played ≡ played_text ps ++ t
    → PutsPrefix mid after t → InBounds (length initial) came.done (map item_played came.played) → (UsesBoards came.done → StandFor (motes_in came.done) came.ground.stores initial) → ((k : ℕ) → P came (played_text ps ++ take k t)) → PlayedPrefix table script initial before after P
front_put script initial before mid after ps t came told tells put limits stood there =
    let k = put.0 in
    record {
      came = came;
      text = played_text ps ++ take k t;
      more = drop k t;
      reported = Puts-join before mid after _ _ told put.2;
      whole = append_assoc (played_text ps) (take k t) (drop k t) ∙ ap (λ (xs : List ℕ). played_text ps ++ xs) (take-append-drop k t) ∙ sym tells;
      limits = limits;
      stood = stood;
      there = there k;
    }

-- what is reported of the lines that were done before is what was reported before
pub told_front : (done all : List Line) (ps behind : List Played) → take (length done) all ≡ done → map item_played ps ≡ items_of done → played_text (take (length (items_of (take (length done) all))) (ps ++ behind)) ≡ played_text ps
told_front done all ps behind front items =
    let count : length ps ≡ length (items_of done) = sym (length-map ps item_played) ∙ ap length items in
    ap (λ (ls : List Line). played_text (take (length (items_of ls)) (ps ++ behind))) front ∙ ap played_text (take_at ps behind (length (items_of done)) count)

pub told_all : (done : List Line) (ps : List Played) → map item_played ps ≡ items_of done → played_text (take (length (items_of (take (length done) done))) ps) ≡ played_text ps
told_all done ps items =
    let count : length ps ≡ length (items_of done) = sym (length-map ps item_played) ∙ ap length items in
    ap (λ (ls : List Line). played_text (take (length (items_of ls)) ps)) (take_all (length done) done (omega arith)) ∙ ap played_text (take_all (length (items_of done)) ps (omega (arith, count)))

-- nothing more was written
pub front_kept : (before after : Option (List ℕ)) (t : List ℕ) → after ≡ before → PutsPrefix before after t
front_kept before after t none = subst (λ (o : Option (List ℕ)). PutsPrefix before o t) (sym none) (PutsPrefix-nil before t)

-- all of it was written
pub all_put : (before mid after : Option (List ℕ)) (ps qs : List Played) (t : List ℕ) → Puts before mid (played_text ps) → played_text qs ≡ played_text ps ++ t → Puts mid after t → Puts before after (played_text qs)
all_put before mid after ps qs t told tells put = subst (λ (xs : List ℕ). Puts before after xs) (sym tells) (Puts-join before mid after _ _ told put)

-- ---- how far a replay came

-- It began no line after those that were done.
abbrev pub at_line : {table : List Row} {S G : Saw} (ends : Bool) (script : Script) (texts : List (List ℕ)) (n : ℕ) (p : Player) (initial now : List Device) (before mid : Option (List ℕ)) → Reached table ends script texts n p (span initial now before mid S G) → Progress table script
at_line ends script texts n p initial now before mid r =
    record {
      done = r.done;
      rest = (script_from ends p.place n texts).lines;
      begun = [];
      left = next_items r.done (script_from ends p.place n texts).lines;
      played = r.played;
      last = r.last;
      lines = r.lines;
      parts = refl;
      within = λ e. refl;
      items = r.items ∙ sym (append-nil (items_of r.done));
      ground = r.ground;
      grounded = λ uses. (r.grounded uses).0;
      run = r.run;
    }

-- It played one more line.
abbrev pub behind_line : {table : List Row} {S G H : Saw} (ends : Bool) (script : Script) (texts : List (List ℕ)) (text : List ℕ) (n : ℕ) (p q : Player) (initial old now : List Device) (before mid after : Option (List ℕ))
    → (r : Reached table ends script (text ∷ texts) n p (span initial old before mid S G)) → (t : TextPlayed (based_on table initial) text (done_so_far r.done r.last) (replay_state p old mid G) (replay_state q now after H)) → RunsOn table initial r.done t.line t.to.world t.to.text r.played → Progress table script
behind_line ends script texts text n p q initial old now before mid after r t on =
    record {
      done = r.done ++ t.line ∷ [];
      rest = (script_from ends q.place (n + 1) texts).lines;
      begun = [];
      left = next_items (r.done ++ t.line ∷ []) (script_from ends q.place (n + 1) texts).lines;
      played = on.now;
      last = t.to.world;
      lines = lines_behind ends script texts text n p q r.done t.line t.spelled t.behind r.lines;
      parts = refl;
      within = λ e. refl;
      items = on.items ∙ sym (append-nil (items_of (r.done ++ t.line ∷ [])));
      ground = on.ground;
      grounded = λ uses. (on.grounded uses).0;
      run = on.run;
    }

pub items_over : (done : List Line) (ps now : List Played) (items : List Item) → map item_played ps ≡ items_of done → map item_played now ≡ items → map item_played (ps ++ now) ≡ items_of done ++ items
items_over done ps now items first next = map-append item_played ps now ∙ ap (λ (xs : List Item). xs ++ map item_played now) first ∙ ap (λ (xs : List Item). items_of done ++ xs) next

-- It began the next line.
abbrev pub in_line : {table : List Row} {S G : Saw} {H : Option World → List Item → Saw} {P : Option World → List Item → List ℕ → Type 0} (ends : Bool) (script : Script) (texts : List (List ℕ)) (text : List ℕ) (n : ℕ) (p : Player) (initial old : List Device) (before mid : Option (List ℕ)) (line : Line)
    → (r : Reached table ends script (text ∷ texts) n p (span initial old before mid S G)) → line_of p.place text ≡ Ok line → (b : LineBegun r.done line r.last G H P) → Over (beginning_of r.ground r.done).world r.played b.begun b.world b.text G (H b.world b.left) → (b.left ≡ [] → b.begun ≡ []) → Progress table script
in_line ends script texts text n p initial old before mid line r spelled b o within =
    record {
      done = r.done;
      rest = line ∷ (script_from ends (place_after p.place line) (n + 1) texts).lines;
      begun = b.begun;
      left = b.left;
      played = r.played ++ o.now;
      last = b.world;
      lines = next_lines ends script texts text n p.place r.done line spelled r.lines;
      parts = b.parts;
      within = within;
      items = items_over r.done r.played o.now b.begun r.items o.are;
      ground = r.ground;
      grounded = λ uses. (r.grounded uses).0;
      run = o.run;
    }

pub run_of : {table : List Row} {S G : Saw} {H : Option World → List Item → Saw} {P : Option World → List Item → List ℕ → Type 0} (ends : Bool) (script : Script) (texts : List (List ℕ)) (text : List ℕ) (n : ℕ) (p : Player) (initial old : List Device) (before mid : Option (List ℕ)) (line : Line)
    → (r : Reached table ends script (text ∷ texts) n p (span initial old before mid S G)) → (b : LineBegun r.done line r.last G H P) → Over (beginning_of r.ground r.done).world r.played b.begun b.world b.text G (H b.world b.left)
run_of ends script texts text n p initial old before mid line r b = over (beginning_of r.ground r.done).world r.last r.played b.begun b.world b.text (begins_first r.ground r.done) r.run b.runs

pub over_tells : {G H : Saw} (o v : Option World) (ps : List Played) (items : List Item) (t : List ℕ) → (x : Over o ps items v t G H) → played_text (ps ++ x.now) ≡ played_text ps ++ t
over_tells o v ps items t x = played_more ps x.now ∙ ap (λ (xs : List ℕ). played_text ps ++ xs) (sym x.reported)

pub over_bounds : {G H : Saw} (boards : ℕ) (ground : StartState) (done : List Line) (v : Option World) (ps : List Played) (items : List Item) (t : List ℕ) → lacking boards done ≡ None → (x : Over (beginning_of ground done).world ps items v t G H) → InBounds boards done (map item_played (ps ++ x.now))
over_bounds boards ground done v ps items t none x =
    record { boards_enough = none; few_events = few_played ground done v (ps ++ x.now) x.run x.few }

-- ---- a line of which all items were played

abbrev pub Choice : (begun left : List Item) → Type 0
Choice begun left = (left ≡ [] → begun ≡ []) ⊎ ((left ≡ []) × ((item : Item) × (items : List Item) × (begun ≡ item ∷ items)))

pub choose : (begun left : List Item) → Choice begun left
choose [] left = inl (λ e. refl)
choose (x ∷ xs) [] = inr (refl, (x, xs, refl))
choose (x ∷ xs) (y ∷ ys) = inl (λ e. cc)

-- a line that has items changes nothing of where the run begins, and needs no boards
pub record IsBusy (line : Line) : Type 0 where
  pub begins : (g : StartState) (b : Beginning) → (begin_by g b line).world ≡ b.world
  pub plain : is_boards line ≡ false
  pub counts : (b : Beginning) → (begin_by no_start_state b line).motes ≡ b.motes
  pub enough : (boards : ℕ) → lacking_by boards line None ≡ None

no_items : {A : Type 0} (item : Item) (items : List Item) → [] ≡ item ∷ items → A
no_items item items e = absurd (cc)

pub busy : (place : Place) (line : Line) (item : Item) (items : List Item) → item_by place line ≡ item ∷ items → IsBusy line
busy place Nothing item items e = no_items item items e
busy place (Motes n) item items e = no_items item items e
busy place (Golden name used content) item items e = no_items item items e
busy place Boards item items e = no_items item items e
busy place (Link a b) item items e = no_items item items e
busy place (Narrow m) item items e = no_items item items e
busy place (Image image version name content) item items e = record { begins = λ g b. refl; plain = refl; counts = λ b. refl; enough = λ boards. refl }
busy place (Cut c) item items e = no_items item items e
busy place (EventLine event) item items e = record { begins = λ g b. refl; plain = refl; counts = λ b. refl; enough = λ boards. refl }
busy place (Round a b) item items e = record { begins = λ g b. refl; plain = refl; counts = λ b. refl; enough = λ boards. refl }
busy place (Sweeps n) item items e = record { begins = λ g b. refl; plain = refl; counts = λ b. refl; enough = λ boards. refl }

-- the items of one more line
pub items_with : (done : List Line) (line : Line) (begun : List Item) → item_by (place_behind first_place done) line ≡ begun → items_of (done ++ line ∷ []) ≡ items_of done ++ begun
items_with done line begun parts = items_next done line ∙ ap (λ (xs : List Item). items_of done ++ xs) parts

pub run_with : (ground : StartState) (done : List Line) (line : Line) (ps : List Played) (v : Option World) → IsBusy line → RunsTo (beginning_of ground done).world ps v → RunsTo (beginning_of ground (done ++ line ∷ [])).world ps v
run_with ground done line ps v busy run =
    subst (λ (o : Option World). RunsTo o ps v) (sym (ap (λ (b : Beginning). b.world) (begin_next ground _ done line) ∙ busy.begins ground (beginning_of ground done))) run

pub busy_seen : (H : Saw) (ground : StartState) (done : List Line) (line : Line) (ps : List Played) → IsBusy line → H.events (stores_in (beginning_of ground done).world) (events_played ps) → H.events (stores_in (beginning_of ground (done ++ line ∷ [])).world) (events_played ps)
busy_seen H ground done line ps busy seen =
    subst (λ (o : Option World). H.events (stores_in o) (events_played ps)) (sym (ap (λ (b : Beginning). b.world) (begin_next ground _ done line) ∙ busy.begins ground (beginning_of ground done))) seen

abbrev pub all_of_line : {table : List Row} {S G H : Saw} (ends : Bool) (script : Script) (texts : List (List ℕ)) (text : List ℕ) (n : ℕ) (p : Player) (initial old : List Device) (before mid : Option (List ℕ)) (line : Line) (begun : List Item) (v : Option World) (t : List ℕ)
    → (r : Reached table ends script (text ∷ texts) n p (span initial old before mid S G)) → line_of p.place text ≡ Ok line → item_by (place_behind first_place r.done) line ≡ begun → IsBusy line → Over (beginning_of r.ground r.done).world r.played begun v t G H → Progress table script
all_of_line ends script texts text n p initial old before mid line begun v t r spelled parts busy o =
    record {
      done = r.done ++ line ∷ [];
      rest = (script_from ends (place_after p.place line) (n + 1) texts).lines;
      begun = [];
      left = next_items (r.done ++ line ∷ []) (script_from ends (place_after p.place line) (n + 1) texts).lines;
      played = r.played ++ o.now;
      last = v;
      lines = lines_one r.done line _ ∙ next_lines ends script texts text n p.place r.done line spelled r.lines;
      parts = refl;
      within = λ e. refl;
      items = items_over r.done r.played o.now begun r.items o.are ∙ sym (items_with r.done line begun parts) ∙ sym (append-nil (items_of (r.done ++ line ∷ [])));
      ground = r.ground;
      grounded = λ uses. (grounded_next r.ground r.done line busy.plain busy.counts r.grounded uses).0;
      run = run_with r.ground r.done line (r.played ++ o.now) v busy o.run;
    }

-- ---- stops

cons_not : {A : Type 0} (xs ys : List A) (x : A) → xs ≡ x ∷ ys → xs ≡ [] → ⊥
cons_not xs ys x is none = absurd (let e : [] ≡ x ∷ ys = sym none ∙ is in cc)

-- the item at which there were too many
next_in : (v : Option World) (left : List Item) → InSome v (λ u. IsOneTooMany u left) → EventNext left
next_in None left full = absurd full
next_in (Some u) left full = full.next

pub some_left : (v : Option World) (left : List Item) → InSome v (λ u. IsOneTooMany u left) → left ≡ [] → ⊥
some_left v left full none = let next = next_in v left full in cons_not left next.more _ next.is none

-- an event that found no image is left
lacks_next : (v : Option World) (left : List Item) (old new : List Device) → InSome v (λ u. LacksImage u left old new) → EventNext left
lacks_next None left old new lacks = absurd lacks
lacks_next (Some u) left old new lacks = lacks.next

pub lacks_left : (v : Option World) (left : List Item) (old new : List Device) → InSome v (λ u. LacksImage u left old new) → left ≡ [] → ⊥
lacks_left v left old new lacks none = let next = lacks_next v left old new lacks in cons_not left next.more _ next.is none

-- the boards are used as they are, or not
pub uses_or : (b : Bool) → (b ≡ true) ⊎ (b ≡ true → ⊥)
uses_or true = inl refl
uses_or false = inr (λ e. cc)

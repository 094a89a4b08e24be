-- How one more line changes where a replay stands, and its run.
use Rattle.std.proofs.Common.{◌≡◌, ℕ, ◌≤◌, Bool, true, false, ◌||◌, List, [], ◌∷◌, ◌++◌, length, map, refl, append-nil, ap, sym, ◌∙◌, subst, arith, eqb-true, inl, inr}
use Rattle.std.specs.Prelude.{Option, Some, None, option_map, IfSome, replicate}
use Rattle.std.specs.List.{AllByRecursion}
use Rattle.std.proofs.lemmas.List.{map-append}
use Rattle.dg_nor.specs.Device.{Device}
use Rattle.dg_object.specs.Object.{Row}
use Rattle.dg_volume.specs.Table.{row_at}
use Rattle.dg_script.specs.Fitting.{FitsCut, FitsLine, StandsAt}
use Rattle.dg_script.specs.Items.{Item, Declares, Applies, item_by, place_behind, items_of}
use Rattle.dg_script.specs.Places.{first_place, place_after, none_narrow}
use Rattle.dg_script.specs.Report.{report_text}
use Rattle.dg_script.specs.declared.place.Place.{Place}
use Rattle.dg_script.specs.declared.line.Line.{Line}
use Rattle.dg_script.specs.declared.line.Line.TheVariants.{Nothing, Motes, Golden, Boards, Link, Narrow, Image, Cut, Happens as EventLine, Round, Sweeps}
use Rattle.dg_script.specs.declared.report.Report.{Report}
use Rattle.dg_rules.specs.Sizes.{most_events}
use Rattle.dg_rules.specs.Premises.{LinkFits}
use Rattle.dg_rules.specs.Runs.{Played, Plays, ItemStep}
use Rattle.dg_rules.specs.Changes.{declared_lines}
use Rattle.dg_rules.specs.Steps.{declared_as}
use Rattle.dg_volume.specs.Store.{Store, fresh, golden_row}
use Rattle.dg_rules.specs.World.{World, Site, first_world}
use Rattle.dg_rules.specs.Begins.{AreShaped}
use Rattle.dg_world.specs.Mounted.{StandFor}
use Rattle.dg_replay.specs.Boards.{BoardsStand}
use Rattle.dg_replay.specs.Items.{StartState, no_start_state, Beginning, begin_by, beginning_of, motes_in, is_boards, UsesBoards, begin_behind}
use Rattle.dg_replay.specs.inner.Words.{no_beginning, golden_world, with_link, with_narrow}
use Rattle.dg_replay.specs.Replayed.{IsGround, RunsTo, item_played, played_text}
use Rattle.dg_replay.specs.Playing.{IsDeclaration, Seated, InWorld, Joined, Stood, ItemsRun, ItemsBegun, LineRuns, LineBegun, Grounded}
use Rattle.dg_replay.specs.Shown.{Saw, events_played, stores_in, StaysSeen, StaysUnshown, Shows, going_on}
use Rattle.dg_replay.specs.Stages.{line_told}
use Rattle.dg_replay.specs.declared.player.Player.{Player}
use Rattle.dg_replay.proofs.ItemLemmas.{some_is, items_next, place_next, begin_next, motes_same, runs_append, runs_from_none, plays_none, played_more, items_run_none}
use Rattle.dg_replay.proofs.ShownLemmas.{declared_none, first_stores, begins_first, shows_none, shows_nothing, shows_from}

-- ---- where a replay stands

-- how many motes there are after a line
motes_next : (g : StartState) (place : Place) (b : Beginning) (line : Line) → place.motes ≡ b.motes → (place_after place line).motes ≡ (begin_by g b line).motes
motes_next g place b Nothing e = e
motes_next g place b (Motes n) e = refl
motes_next g place b (Golden name used content) e = e
motes_next g place b Boards e = e
motes_next g place b (Link x y) e = e
motes_next g place b (Narrow m) e = e
motes_next g place b (Image image version name content) e = e
motes_next g place b (Cut cut) e = e
motes_next g place b (EventLine event) e = e
motes_next g place b (Round x y) e = e
motes_next g place b (Sweeps n) e = e

all_more : {A : Type 0} (P : A → Type 0) (xs ys : List A) → AllByRecursion P xs → AllByRecursion P ys → AllByRecursion P (xs ++ ys)
all_more P [] ys h k = k
all_more P (x ∷ xs) ys h k = (h.0, all_more P xs ys h.1 k)

-- before the first event, no line but an image has an item
early_by : (place at : Place) (line : Line) → (place_after place line).events ≡ false → (place.events ≡ false) × AllByRecursion IsDeclaration (item_by at line)
early_by place at Nothing e = (e, tt)
early_by place at (Motes n) e = (e, tt)
early_by place at (Golden name used content) e = (e, tt)
early_by place at Boards e = (e, tt)
early_by place at (Link x y) e = (e, tt)
early_by place at (Narrow m) e = (e, tt)
early_by place at (Image image version name content) e = (e, (tt, tt))
early_by place at (Cut c) e = (e, tt)
early_by place at (EventLine event) e = absurd (let f : true ≡ false = e in cc)
early_by place at (Round x y) e = absurd (let f : true ≡ false = e in cc)
early_by place at (Sweeps n) e = absurd (let f : true ≡ false = e in cc)

early_next : (place : Place) (done : List Line) (line : Line) → (place.events ≡ false → AllByRecursion IsDeclaration (items_of done)) → (place_after place line).events ≡ false → AllByRecursion IsDeclaration (items_of (done ++ line ∷ []))
early_next place done line early e =
    let one = early_by place (place_behind first_place done) line e in
    subst (λ (xs : List Item). AllByRecursion IsDeclaration xs) (sym (items_next done line)) (all_more IsDeclaration (items_of done) _ (early one.0) one.1)

-- where there are no motes, there is no link
none_joined : (motes : ℕ) (links : List (ℕ × ℕ)) → AllByRecursion (LinkFits 0) links → AllByRecursion (LinkFits motes) links
none_joined motes [] all = tt
none_joined motes (l ∷ ls) all = absurd (omega (arith, all.0.first))

pub joined_next : (place : Place) (line : Line) → StandsAt place line → FitsLine place.motes line → Joined place → Joined (place_after place line)
joined_next place Nothing stands fits all = all
joined_next place (Motes n) stands fits all = none_joined n place.links (subst (λ (m : ℕ). AllByRecursion (LinkFits m) place.links) (eqb-true place.motes 0 stands.fits) all)
joined_next place (Golden name used content) stands fits all = all
joined_next place Boards stands fits all = all
joined_next place (Link a b) stands fits all = all_more (LinkFits place.motes) place.links ((a, b) ∷ []) all (fits, tt)
joined_next place (Narrow m) stands fits all = all
joined_next place (Image image version name content) stands fits all = all
joined_next place (Cut cut) stands fits all = all
joined_next place (EventLine event) stands fits all = all
joined_next place (Round a b) stands fits all = all
joined_next place (Sweeps n) stands fits all = all

-- the player and the boards after one more line
pub stood_next : (p q : Player) (done : List Line) (line : Line) (w v : Option World) (initial old now : List Device) → Joined (place_after p.place line) → Stood p done w initial old
    → q.place ≡ place_after p.place line → Seated q.place (length now) → IfSome (place_after p.place line).cut FitsCut → InWorld q v now → BoardsStand v initial now → Stood q (done ++ line ∷ []) v initial now
stood_next p q done line w v initial old now links s place seats cut_fits world boards =
    record {
      seats = seats;
      place = place ∙ ap (λ (at : Place). place_after at line) s.place ∙ sym (place_next first_place done line);
      links = subst (λ (at : Place). Joined at) (sym place) links;
      cut_fits = subst (λ (at : Place). IfSome at.cut FitsCut) (sym place) cut_fits;
      motes = ap (λ (at : Place). at.motes) place ∙ motes_next no_start_state p.place (beginning_of no_start_state done) line s.motes ∙ ap (λ (b : Beginning). b.motes) (sym (begin_next no_start_state no_beginning done line));
      early = λ e. early_next p.place done line s.early (sym (ap (λ (at : Place). at.events) place) ∙ e);
      world = world;
      boards = boards;
    }

-- ---- runs

-- the run from where the lines begin with one more line, which changes nothing of it
same_run : (g : StartState) (done : List Line) (line : Line) (played : List Played) (v : Option World) → (begin_by g (beginning_of g done) line).world ≡ (beginning_of g done).world → RunsTo (beginning_of g done).world played v → RunsTo (beginning_of g (done ++ line ∷ [])).world played v
same_run g done line played v same r =
    subst (λ (b : Beginning). RunsTo b.world played v) (sym (begin_next g no_beginning done line)) (subst (λ (o : Option World). RunsTo o played v) (sym same) r)

same_world : (g : StartState) (done : List Line) (line : Line) → (begin_by g (beginning_of g done) line).world ≡ (beginning_of g done).world → (beginning_of g (done ++ line ∷ [])).world ≡ (beginning_of g done).world
same_world g done line same = ap (λ (b : Beginning). b.world) (begin_next g no_beginning done line) ∙ same

-- the items with a line that has none
same_items : (done : List Line) (line : Line) → item_by (place_behind first_place done) line ≡ [] → items_of done ≡ items_of (done ++ line ∷ [])
same_items done line none = sym (items_next done line ∙ ap (λ (xs : List Item). items_of done ++ xs) none ∙ append-nil (items_of done))

-- where boards are used as they are, they were before
uses_next : (done : List Line) (line : Line) → is_boards line ≡ false → UsesBoards (done ++ line ∷ []) → UsesBoards done
uses_next [] line plain uses = absurd (let e : true ≡ false = sym uses ∙ ap (λ (b : Bool). b || false) plain in cc)
uses_next (l ∷ done) line plain uses = by_first (is_boards l) uses (uses_next done line plain)
  where
    by_first : (b : Bool) {x y : Bool} → (b || x) ≡ true → (x ≡ true → y ≡ true) → (b || y) ≡ true
    by_first true e f = refl
    by_first false e f = f e

-- the start state after a line that neither says how many motes there are nor uses boards as they are
pub grounded_next : {table : List Row} {initial : List Device} (g : StartState) (done : List Line) (line : Line) → is_boards line ≡ false → ((b : Beginning) → (begin_by no_start_state b line).motes ≡ b.motes) → Grounded table initial g done → Grounded table initial g (done ++ line ∷ [])
grounded_next {table} {initial} g done line plain same h = λ uses.
    let e : motes_in (done ++ line ∷ []) ≡ motes_in done = ap (λ (b : Beginning). b.motes) (begin_next no_start_state no_beginning done line) ∙ same (beginning_of no_start_state done) in
    subst (λ (n : ℕ). IsGround g table n × StandFor n g.stores initial) (sym e) (h (uses_next done line plain uses))

stays_by : (g : StartState) (b : Beginning) (line : Line) (w : World) → b.world ≡ Some w → (u : World) × ((begin_by g b line).world ≡ Some u)
stays_by g b Nothing w e = (w, e)
stays_by g b (Motes n) w e = (w, e)
stays_by g b (Golden name used content) w e = (_, refl)
stays_by g b Boards w e = (_, refl)
stays_by g b (Link x y) w e = (with_link (x, y) w, ap (λ (o : Option World). option_map (with_link (x, y)) o) e)
stays_by g b (Narrow m) w e = (with_narrow m w, ap (λ (o : Option World). option_map (with_narrow m) o) e)
stays_by g b (Image image version name content) w e = (w, e)
stays_by g b (Cut c) w e = (w, e)
stays_by g b (EventLine event) w e = (w, e)
stays_by g b (Round x y) w e = (w, e)
stays_by g b (Sweeps n) w e = (w, e)

stays : (g : StartState) (b : Beginning) (lines : List Line) (w : World) → b.world ≡ Some w → (u : World) × ((begin_behind g b lines).world ≡ Some u)
unfolding begin_behind
stays g b [] w e = (w, e)
stays g b (line ∷ lines) w e = let s = stays_by g b line w e in stays g (begin_by g b line) lines s.0 s.1

uses_some : (g : StartState) (b : Beginning) (lines : List Line) → UsesBoards lines → (u : World) × ((begin_behind g b lines).world ≡ Some u)
unfolding begin_behind
uses_some g b [] uses = absurd (cc)
uses_some g b (Nothing ∷ lines) uses = uses_some g b lines uses
uses_some g b (Motes n ∷ lines) uses = uses_some g (begin_by g b (Motes n)) lines uses
uses_some g b (Golden name used content ∷ lines) uses = uses_some g (begin_by g b (Golden name used content)) lines uses
uses_some g b (Boards ∷ lines) uses = stays g (begin_by g b Boards) lines (first_world g.table [] none_narrow g.stores) refl
uses_some g b (Link x y ∷ lines) uses = uses_some g (begin_by g b (Link x y)) lines uses
uses_some g b (Narrow m ∷ lines) uses = uses_some g (begin_by g b (Narrow m)) lines uses
uses_some g b (Image image version name content ∷ lines) uses = uses_some g b lines uses
uses_some g b (Cut c ∷ lines) uses = uses_some g b lines uses
uses_some g b (EventLine event ∷ lines) uses = uses_some g b lines uses
uses_some g b (Round x y ∷ lines) uses = uses_some g b lines uses
uses_some g b (Sweeps n ∷ lines) uses = uses_some g b lines uses

run_none : (o : Option World) (played : List Played) (u : World) → o ≡ Some u → RunsTo o played None → ⊥
run_none None played u e r = cc
run_none (Some w) played u e r = let f : None ≡ Some r.0 = r.1 in cc

-- before there is a world, no boards are used as they are
pub grounded_motes : {table : List Row} {initial : List Device} (g : StartState) (done : List Line) (n : ℕ) (played : List Played) → RunsTo (beginning_of g done).world played None → Grounded table initial g (done ++ Motes n ∷ [])
grounded_motes g done n played r = λ uses.
    let some = uses_some g no_beginning done (uses_next done (Motes n) refl uses) in absurd (run_none (beginning_of g done).world played some.0 some.1 r)

-- a line without items
pub silent_runs : {table : List Row} {initial : List Device} {F G : Saw} (done : List Line) (line : Line) (w : Option World) → item_by (place_behind first_place done) line ≡ [] → ((g : StartState) → (begin_by g (beginning_of g done) line).world ≡ (beginning_of g done).world)
    → ((g : StartState) (played : List Played) → RunsTo (beginning_of g done).world played w → Grounded table initial g done → Grounded table initial g (done ++ line ∷ []))
    → ((g : StartState) (played : List Played) → RunsTo (beginning_of g done).world played w → F.events (stores_in (beginning_of g done).world) (events_played played) → G.events (stores_in (beginning_of g done).world) (events_played played)) → LineRuns table initial done line w w (line_told [] F G)
silent_runs {F = F} {G = G} done line w none same ground shown = λ g played before items r. record {
  on = record {
    ground = g;
    grounded = ground g played r before;
    now = played;
    items = items ∙ same_items done line none;
    run = same_run g done line played w (same g) r;
    reported = sym (append-nil (played_text played));
    on = inl refl;
  };
  shown = λ f. subst (λ (o : Option World). G.events (stores_in o) (events_played played)) (sym (same_world g done line (same g))) (shown g played r f);
}

-- a line with items
pub busy_runs : {table : List Row} {initial : List Device} {F G : Saw} (done : List Line) (line : Line) (u z : World) (items : List Item) (text : List ℕ) → item_by (place_behind first_place done) line ≡ items → ((g : StartState) → (begin_by g (beginning_of g done) line).world ≡ (beginning_of g done).world)
    → is_boards line ≡ false → ((b : Beginning) → (begin_by no_start_state b line).motes ≡ b.motes) → (x : ItemsRun u items z text) → Shows F G u x.played → LineRuns table initial done line (Some u) (Some z) (line_told text F G)
busy_runs {F = F} {G = G} done line u z items text are same plain counts x shown = λ g played first before r. record {
  on = record {
    ground = g;
    grounded = grounded_next g done line plain counts first;
    now = played ++ x.played;
    items = map-append item_played played x.played ∙ ap (λ (xs : List Item). xs ++ map item_played x.played) before ∙ ap (λ (xs : List Item). items_of done ++ xs) (x.are ∙ sym are) ∙ sym (items_next done line);
    run = same_run g done line (played ++ x.played) (Some z) (same g) (runs_append (beginning_of g done).world u z played x.played r x.run);
    reported = played_more played x.played ∙ ap (λ (xs : List ℕ). played_text played ++ xs) (sym x.reported);
    on = inr (x.played, refl);
  };
  shown = λ f. subst (λ (o : Option World). G.events (stores_in o) (events_played (played ++ x.played))) (sym (same_world g done line (same g))) (shows_from F G (beginning_of g done).world played x.played u (begins_first g done) r shown f);
}

-- the boards are used from now on
placed_from : (F G : Saw) (o v : Option World) (w : World) (stores : List Store) (played : List Played) → RunsTo o played None → v ≡ Some w → stores_in (Some w) ≡ stores → (F.events [] [] → G.events stores []) → F.events (stores_in o) (events_played played) → G.events (stores_in v) (events_played played)
placed_from F G o v w stores played r is are placed f =
    let none : played ≡ [] = (runs_from_none o played r).1 in
    subst (λ (x : Option World). G.events (stores_in x) (events_played played)) (sym is)
    (subst (λ (ss : List Store). G.events ss (events_played played)) (sym are)
    (subst (λ (es : List Played). G.events stores es) (sym (ap events_played none)) (shows_nothing F (record G { events = λ ss es. G.events stores [] }) o played r placed f)))

pub golden_runs : {table : List Row} {initial : List Device} {F G : Saw} (done : List Line) (name : List ℕ) (used : ℕ) (content : List ℕ) (motes : ℕ) → motes ≡ motes_in done → (F.events [] [] → G.events (replicate motes (fresh name content used)) []) → LineRuns table initial done (Golden name used content) None (Some (golden_world motes name used content)) (line_told [] F G)
golden_runs {F = F} {G = G} done name used content motes is placed = λ g played before items r.
    let many : (beginning_of g done).motes ≡ motes = motes_same g no_start_state no_beginning no_beginning done refl ∙ sym is in
    record {
      on = record {
        ground = g;
        grounded = grounded_next g done (Golden name used content) refl (λ b. refl) before;
        now = played;
        items = items ∙ same_items done (Golden name used content) refl;
        run = subst (λ (b : Beginning). RunsTo b.world played (Some (golden_world motes name used content))) (sym (begin_next g no_beginning done (Golden name used content))) (
          golden_world motes name used content,
          refl,
          plays_none (golden_world (beginning_of g done).motes name used content) (golden_world motes name used content) played (runs_from_none (beginning_of g done).world played r).1
              (ap (λ (n : ℕ). golden_world n name used content) many),
        );
        reported = sym (append-nil (played_text played));
        on = inl refl;
      };
      shown = λ f. placed_from F G (beginning_of g done).world (beginning_of g (done ++ Golden name used content ∷ [])).world (golden_world motes name used content) (replicate motes (fresh name content used)) played r
          (ap (λ (b : Beginning). b.world) (begin_next g no_beginning done (Golden name used content)) ∙ ap (λ (n : ℕ). Some (golden_world n name used content)) many)
          (first_stores (golden_row name content ∷ []) [] none_narrow (replicate motes (fresh name content used))) placed f;
    }

-- the boards are used as they are, and checked against any table
pub boards_runs : {initial : List Device} {F G : Saw} (done : List Line) (table : List Row) (stores : List Store) → StandFor (motes_in done) stores initial → AreShaped stores → (F.events [] [] → G.events stores []) → LineRuns table initial done Boards None (Some (first_world table [] none_narrow stores)) (line_told [] F G)
boards_runs {initial} {F} {G} done table stores stand shaped placed = λ g played before items r.
    let ground : StartState = record { stores = stores; table = table } in
    let count : motes_in (done ++ Boards ∷ []) ≡ motes_in done = ap (λ (b : Beginning). b.motes) (begin_next no_start_state no_beginning done Boards) in
    record {
      on = record {
        ground = ground;
        grounded = λ uses. subst (λ (n : ℕ). IsGround ground table n × StandFor n stores initial) (sym count) (record { held = refl; count = stand.count; shaped = shaped }, stand);
        now = played;
        items = items ∙ same_items done Boards refl;
        run = subst (λ (b : Beginning). RunsTo b.world played (Some (first_world table [] none_narrow stores))) (sym (begin_next ground no_beginning done Boards)) (
          first_world table [] none_narrow stores,
          refl,
          plays_none (first_world table [] none_narrow stores) (first_world table [] none_narrow stores) played (runs_from_none (beginning_of g done).world played r).1 refl,
        );
        reported = sym (append-nil (played_text played));
        on = inl refl;
      };
      shown = λ f. placed_from F G (beginning_of g done).world (beginning_of ground (done ++ Boards ∷ [])).world (first_world table [] none_narrow stores) stores played r
          (ap (λ (b : Beginning). b.world) (begin_next ground no_beginning done Boards)) (first_stores table [] none_narrow stores) placed f;
    }

-- ---- links and narrow motes

-- What a line may set in a world before its first event: declarations do not depend on it, and it does not depend on them.
record Sets (f : World → World) : Type 0 where
  declared : (w : World) → (f w).declared ≡ w.declared
  sites : (w : World) → (f w).sites ≡ w.sites
  rows : (o : Option Row) (w : World) (row : Row) → f (declared_as o w row) ≡ declared_as o (f w) row

link_sets : (link : ℕ × ℕ) → Sets (with_link link)
link_sets link = record { declared = λ w. refl; sites = λ w. refl; rows = by_row }
  where
    by_row : (o : Option Row) (w : World) (row : Row) → with_link link (declared_as o w row) ≡ declared_as o (with_link link w) row
    by_row None w row = refl
    by_row (Some k) w row = refl

narrow_sets : (m : ℕ) → Sets (with_narrow m)
narrow_sets m = record { declared = λ w. refl; sites = λ w. refl; rows = by_row }
  where
    by_row : (o : Option Row) (w : World) (row : Row) → with_narrow m (declared_as o w row) ≡ declared_as o (with_narrow m w) row
    by_row None w row = refl
    by_row (Some k) w row = refl

-- what was played, in worlds in which that is set too
abbrev set_in : (World → World) → Played → Played
set_in f p = record p { before = f p.before; after = f p.after }

item_set : (f : World → World) → Sets f → (item : Item) (w v : World) (reports : List Report) → IsDeclaration item → ItemStep w item v reports → ItemStep (f w) item (f v) reports
item_set f s (Declares row) w v reports is step =
    let same : row_at (f w).declared row.image row.version ≡ row_at w.declared row.image row.version = ap (λ (rows : List Row). row_at rows row.image row.version) (s.declared w) in
    record {
      world = ap f step.world ∙ s.rows (row_at w.declared row.image row.version) w row ∙ ap (λ (o : Option Row). declared_as o (f w) row) (sym same);
      told = step.told ∙ ap (λ (o : Option Row). declared_lines o row) (sym same);
    }
item_set f s (Applies x reported) w v reports is step = absurd is

plays_set : (f : World → World) → Sets f → (w v : World) (ps : List Played) → AllByRecursion IsDeclaration (map item_played ps) → Plays w ps v → Plays (f w) (map (set_in f) ps) (f v)
unfolding Plays
plays_set f s w v [] all run = ap f run
plays_set f s w v (p ∷ ps) all run =
    (ap f run.0, item_set f s p.item p.before p.after p.reports all.0 run.1, plays_set f s p.after v ps all.1 run.2)

items_set : (f : World → World) (ps : List Played) → map item_played (map (set_in f) ps) ≡ map item_played ps
items_set f [] = refl
items_set f (p ∷ ps) = ap (λ (xs : List Item). p.item ∷ xs) (items_set f ps)

text_set : (f : World → World) (ps : List Played) → played_text (map (set_in f) ps) ≡ played_text ps
text_set f [] = refl
text_set f (p ∷ ps) = ap (λ (xs : List ℕ). report_text p.reports ++ xs) (text_set f ps)

run_set : (f : World → World) → Sets f → (o : Option World) (ps : List Played) (w : World) → AllByRecursion IsDeclaration (map item_played ps) → RunsTo o ps (Some w) → RunsTo (option_map f o) (map (set_in f) ps) (Some (f w))
run_set f s None ps w all (none, is) = absurd (let e : Some w ≡ None = is in cc)
run_set f s (Some u) ps w all (v, is, plays) = (f w, refl, subst (λ (z : World). Plays (f u) (map (set_in f) ps) (f z)) (sym (some_is w v is)) (plays_set f s u v ps all plays))

-- the stores are the same, and no event is among what was played
stores_set : (f : World → World) → Sets f → (o : Option World) → stores_in (option_map f o) ≡ stores_in o
stores_set f s None = refl
stores_set f s (Some w) = ap (λ (xs : List Site). map (λ (x : Site). x.store) xs) (s.sites w)

events_set : (f : World → World) (ps : List Played) → AllByRecursion IsDeclaration (map item_played ps) → events_played (map (set_in f) ps) ≡ events_played ps
events_set f ps all = declared_none (map (set_in f) ps) (subst (λ (xs : List Item). AllByRecursion IsDeclaration xs) (sym (items_set f ps)) all) ∙ sym (declared_none ps all)

seen_set : (f : World → World) → Sets f → (F G : Saw) (o v : Option World) (ps : List Played) → AllByRecursion IsDeclaration (map item_played ps) → v ≡ option_map f o → StaysSeen F G → F.events (stores_in o) (events_played ps) → G.events (stores_in v) (events_played (map (set_in f) ps))
seen_set f s F G o v ps all is stays seen =
    subst (λ (x : Option World). G.events (stores_in x) (events_played (map (set_in f) ps))) (sym is)
    (subst (λ (ss : List Store). G.events ss (events_played (map (set_in f) ps))) (sym (stores_set f s o))
    (subst (λ (es : List Played). G.events (stores_in o) es) (sym (events_set f ps all)) (stays (stores_in o) (events_played ps) seen)))

-- after such a line, the same was played from a world in which it is set
set_runs : {table : List Row} {initial : List Device} {F G : Saw} (f : World → World) → Sets f → (done : List Line) (line : Line) (w : World) → AllByRecursion IsDeclaration (items_of done) → item_by (place_behind first_place done) line ≡ []
    → ((g : StartState) (b : Beginning) → (begin_by g b line).world ≡ option_map f b.world) → is_boards line ≡ false → ((b : Beginning) → (begin_by no_start_state b line).motes ≡ b.motes) → StaysSeen F G → LineRuns table initial done line (Some w) (Some (f w)) (line_told [] F G)
set_runs {F = F} {G = G} f s done line w all none begins plain counts stays = λ g played before items r.
    let declared : AllByRecursion IsDeclaration (map item_played played) = subst (λ (xs : List Item). AllByRecursion IsDeclaration xs) (sym items) all in
    record {
      on = record {
        ground = g;
        grounded = grounded_next g done line plain counts before;
        now = map (set_in f) played;
        items = items_set f played ∙ items ∙ same_items done line none;
        run = subst (λ (x : Beginning). RunsTo x.world (map (set_in f) played) (Some (f w))) (sym (begin_next g no_beginning done line))
            (subst (λ (o : Option World). RunsTo o (map (set_in f) played) (Some (f w))) (sym (begins g (beginning_of g done)))
            (run_set f s (beginning_of g done).world played w declared r));
        reported = text_set f played ∙ sym (append-nil (played_text played));
        on = inl refl;
      };
      shown = λ seen. seen_set f s F G (beginning_of g done).world (beginning_of g (done ++ line ∷ [])).world played declared
          (ap (λ (x : Beginning). x.world) (begin_next g no_beginning done line) ∙ begins g (beginning_of g done)) stays seen;
    }

pub link_runs : {table : List Row} {initial : List Device} {F G : Saw} (done : List Line) (a b : ℕ) (w : World) → AllByRecursion IsDeclaration (items_of done) → StaysSeen F G → LineRuns table initial done (Link a b) (Some w) (Some (with_link (a, b) w)) (line_told [] F G)
link_runs done a b w all stays = set_runs (with_link (a, b)) (link_sets (a, b)) done (Link a b) w all refl (λ g x. refl) refl (λ x. refl) stays

pub narrow_runs : {table : List Row} {initial : List Device} {F G : Saw} (done : List Line) (m : ℕ) (w : World) → AllByRecursion IsDeclaration (items_of done) → StaysSeen F G → LineRuns table initial done (Narrow m) (Some w) (Some (with_narrow m w)) (line_told [] F G)
narrow_runs done m w all stays = set_runs (with_narrow m) (narrow_sets m) done (Narrow m) w all refl (λ g x. refl) refl (λ x. refl) stays

-- ---- a line that was begun

-- the world of a player has no more than a million events
pub few_in : (w : Option World) (p : Player) (now : List Device) → InWorld p w now → IfSome w (λ u. u.events ≤ most_events)
few_in None p now kept = tt
few_in (Some w) p now kept = kept.0.few_events

-- nothing of it was played
pub none_begun : {F G : Saw} {Q : Option World → List Item → List ℕ → Type 0} (p : Player) (done : List Line) (line : Line) (w : Option World) (now : List Device) → InWorld p w now → StaysSeen F G → Q w (item_by (place_behind first_place done) line) [] → LineBegun done line w F (going_on G) Q
none_begun {F} {G} {Q} p done line w now kept stays there = from w (few_in w p now kept) there
  where
    from : (v : Option World) → IfSome v (λ u. u.events ≤ most_events) → Q v (item_by (place_behind first_place done) line) [] → LineBegun done line v F (going_on G) Q
    from None few at = record { begun = []; left = _; parts = refl; world = None; text = []; runs = (refl, refl, refl, stays [] []); there = at }
    from (Some u) few at = record { begun = []; left = _; parts = refl; world = Some u; text = []; runs = (u, refl, items_run_none u few, shows_none F G u stays); there = at }

-- nothing of it was played, and the boards are not used yet
pub unplaced_begun : {F G : Saw} {Q : Option World → List Item → List ℕ → Type 0} (done : List Line) (line : Line) → StaysUnshown F G → Q None (item_by (place_behind first_place done) line) [] → LineBegun done line None F (going_on G) Q
unplaced_begun done line stays there = record { begun = []; left = _; parts = refl; world = None; text = []; runs = (refl, refl, refl, stays); there = there }

-- its items were
pub line_begun : {F : Saw} {G : Option World → List Item → Saw} {P : World → List Item → List ℕ → Type 0} {Q : Option World → List Item → List ℕ → Type 0} (done : List Line) (line : Line) (w : World) (items : List Item) → item_by (place_behind first_place done) line ≡ items → (b : ItemsBegun w items F G P)
    → (P b.world b.left b.text → Q (Some b.world) b.left b.text) → LineBegun done line (Some w) F G Q
line_begun done line w items are b then_there =
    record { begun = b.begun; left = b.left; parts = are ∙ b.parts; world = Some b.world; text = b.text; runs = (b.world, refl, b.runs, b.shown); there = then_there b.there }

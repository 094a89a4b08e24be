-- A script with golden: where its run begins, and what was played of it.
use Rattle.std.proofs.Common.{◌≡◌, ℕ, ◌<◌, ◌≤◌, Bool, true, false, ◌⊎◌, inl, inr, List, [], ◌∷◌, ◌++◌, length, map, replicate, refl, ap, sym, ◌∙◌, subst, arith}
use Rattle.std.specs.Prelude.{Option, Some, None, option_map, slice_set, IfSome}
use Rattle.std.specs.List.{AllByRecursion}
use Rattle.dg_object.specs.Object.{Row, IsRow}
use Rattle.dg_volume.specs.Store.{Store, golden_row, fresh}
use Rattle.dg_base.specs.declared.events.Cut.{Cut as CutOfPower}
use Rattle.dg_script.specs.Fitting.{FitsCut, IsGoldenImage}
use Rattle.dg_script.specs.Places.{first_place, place_after, none_narrow}
use Rattle.dg_script.specs.declared.place.Place.{Place}
use Rattle.dg_script.specs.declared.line.Line.{Line}
use Rattle.dg_script.specs.declared.line.Line.TheVariants.{Nothing, Motes, Golden, Boards, Link, Narrow, Image, Cut, Happens as EventLine, Round, Sweeps}
use Rattle.dg_rules.specs.Sizes.{most_motes}
use Rattle.dg_rules.specs.World.{World, first_world}
use Rattle.dg_rules.specs.Premises.{ItemInRange, PlayedInRange, LinkFits}
use Rattle.dg_rules.specs.Runs.{Played, Plays}
use Rattle.dg_rules.specs.Golden.{GoldenNetwork, PlaysGolden}
use Rattle.dg_rules.specs.Begins.{AreShaped, PlaysBoards}
use Rattle.dg_script.specs.Items.{Item, place_behind, items_behind, items_of}
use Rattle.dg_replay.specs.Items.{StartState, UsesBoards, Beginning, begin_by, begin_behind, beginning_of, lacking, next_items}
use Rattle.dg_replay.specs.inner.Words.{with_link, with_narrow, no_beginning}
use Rattle.dg_completion.proofs.GrowLemmas.{all_append}
use Rattle.dg_replay.specs.Replayed.{RunsTo, item_played}
use Rattle.dg_replay.proofs.ItemLemmas.{some_is}
use Rattle.dg_replay.proofs.PlayLemmas.{false_not, later_at, second_at, link_at, narrow_at, event_at}
use Rattle.dg_replay.proofs.LineRanges.{LinesFit, first_fits, IsBehind, not_first, not_second, not_boards, one_more, IsKept, kept_behind, line_in_range, in_range}

-- the image with which the boards are formatted
pub record Formatted : Type 0 where
  pub name : List ℕ
  pub used : ℕ
  pub content : List ℕ

-- the boards of this many motes are formatted with golden, or they are used as they are
pub record ByGolden (motes : ℕ) (table : List Row) (stores : List Store) : Type 0 where
  pub golden : Formatted
  pub is_golden : IsGoldenImage golden.name golden.used golden.content
  pub table_is : table ≡ golden_row golden.name golden.content ∷ []
  pub stores_are : stores ≡ replicate motes (fresh golden.name golden.content golden.used)

pub record ByBoards (g : StartState) (lines : List Line) (table : List Row) (stores : List Store) : Type 0 where
  pub uses : UsesBoards lines
  pub table_is : table ≡ g.table
  pub stores_are : stores ≡ g.stores

abbrev OpensBy : StartState → List Line → ℕ → List Row → List Store → Type 0
OpensBy g lines motes table stores = ByGolden motes table stores ⊎ ByBoards g lines table stores

pub record Carries (motes : ℕ) (table : List Row) (stores : List Store) (b : Beginning) : Type 0 where
  pub links : List (ℕ × ℕ)
  pub fit : AllByRecursion (LinkFits motes) links
  pub narrow : List Bool
  pub world : b.world ≡ Some (first_world table links narrow stores)
  pub count : b.motes ≡ motes

-- after `golden` or `boards` the lines add only links and narrow motes
module _ (motes : ℕ) (table : List Row) (stores : List Store) (g : StartState) where
  carries : (b : Beginning) (place : Place) (lines : List Line) → IsBehind place → place.motes ≡ motes → LinesFit place lines → Carries motes table stores b → Carries motes table stores (begin_behind g b lines)
  unfolding LinesFit begin_behind
  carries b place [] behind count h k = k
  carries b place (Nothing ∷ lines) behind count h k = carries b place lines behind count h.3 k
  carries b place (Motes n ∷ lines) behind count h k = not_first place n behind.some h.0
  carries b place (Golden name used content ∷ lines) behind count h k = not_second place name used content behind.ready h.0
  carries b place (Boards ∷ lines) behind count h k = not_boards place behind.ready h.0
  carries b place (Link x y ∷ lines) behind count h k =
      carries (begin_by g b (Link x y)) (place_after place (Link x y)) lines (record { ready = behind.ready; some = behind.some }) count h.3 (record {
        links = k.links ++ (x, y) ∷ [];
        fit = one_more (LinkFits motes) k.links (x, y) k.fit (subst (λ (n : ℕ). LinkFits n (x, y)) count h.1);
        narrow = k.narrow;
        world = ap (option_map (with_link (x, y))) k.world;
        count = k.count;
      })
  carries b place (Narrow m ∷ lines) behind count h k =
      carries (begin_by g b (Narrow m)) (place_after place (Narrow m)) lines (record { ready = behind.ready; some = behind.some }) count h.3 (record {
        links = k.links;
        fit = k.fit;
        narrow = slice_set k.narrow m true;
        world = ap (option_map (with_narrow m)) k.world;
        count = k.count;
      })
  carries b place (Image image version name content ∷ lines) behind count h k = carries b place lines behind count h.3 k
  carries b place (Cut c ∷ lines) behind count h k = carries b (place_after place (Cut c)) lines (record { ready = behind.ready; some = behind.some }) count h.3 k
  carries b place (EventLine event ∷ lines) behind count h k = carries b (place_after place (EventLine event)) lines (record { ready = behind.ready; some = behind.some }) count h.3 k
  carries b place (Round x y ∷ lines) behind count h k = carries b (place_after place (Round x y)) lines (record { ready = behind.ready; some = behind.some }) count h.3 k
  carries b place (Sweeps n ∷ lines) behind count h k = carries b (place_after place (Sweeps n)) lines (record { ready = behind.ready; some = behind.some }) count h.3 k

-- after golden no line says how many motes there are
pub lacking_none : (boards : ℕ) (place : Place) (lines : List Line) → IsBehind place → LinesFit place lines → lacking boards lines ≡ None
unfolding LinesFit lacking
lacking_none boards place [] behind h = refl
lacking_none boards place (Nothing ∷ lines) behind h = lacking_none boards place lines behind h.3
lacking_none boards place (Motes n ∷ lines) behind h = not_first place n behind.some h.0
lacking_none boards place (Golden name used content ∷ lines) behind h = not_second place name used content behind.ready h.0
lacking_none boards place (Boards ∷ lines) behind h = not_boards place behind.ready h.0
lacking_none boards place (Link x y ∷ lines) behind h = lacking_none boards (place_after place (Link x y)) lines (record { ready = behind.ready; some = behind.some }) h.3
lacking_none boards place (Narrow m ∷ lines) behind h = lacking_none boards (place_after place (Narrow m)) lines (record { ready = behind.ready; some = behind.some }) h.3
lacking_none boards place (Image image version name content ∷ lines) behind h = lacking_none boards place lines behind h.3
lacking_none boards place (Cut c ∷ lines) behind h = lacking_none boards (place_after place (Cut c)) lines (record { ready = behind.ready; some = behind.some }) h.3
lacking_none boards place (EventLine event ∷ lines) behind h = lacking_none boards (place_after place (EventLine event)) lines (record { ready = behind.ready; some = behind.some }) h.3
lacking_none boards place (Round x y ∷ lines) behind h = lacking_none boards (place_after place (Round x y)) lines (record { ready = behind.ready; some = behind.some }) h.3
lacking_none boards place (Sweeps n ∷ lines) behind h = lacking_none boards (place_after place (Sweeps n)) lines (record { ready = behind.ready; some = behind.some }) h.3

-- ---- where a run begins

-- it begins with golden or on the boards as they are, all its items are in their ranges, and the place after them is too
pub record Begun (g : StartState) (lines : List Line) (b : Beginning) (w : World) (items : List Item) (place : Place) : Type 0 where
  pub table : List Row
  pub stores : List Store
  pub opens : OpensBy g lines b.motes table stores
  pub links : List (ℕ × ℕ)
  pub links_fit : AllByRecursion (LinkFits b.motes) links
  pub narrow : List Bool
  pub world : w ≡ first_world table links narrow stores
  pub few : b.motes ≤ most_motes
  pub ranges : AllByRecursion (ItemInRange b.motes) items
  pub kept : IsKept b.motes place

-- the line that opens the boards was read
opened : (g : StartState) (all : List Line) (b : Beginning) (place : Place) (line : Line) (lines : List Line) (w : World) (table : List Row) (stores : List Store) → (begin_by g b line).motes ≡ b.motes → (begin_by g b line).world ≡ Some (first_world table [] none_narrow stores)
    → (place_after place line).motes ≡ place.motes → (place_after place line).ready ≡ true → (place_after place line).links ≡ place.links → (place_after place line).cut ≡ None → b.motes ≡ place.motes → b.motes ≤ most_motes → place.links ≡ [] → 0 < place.motes → OpensBy g all b.motes table stores
    → LinesFit (place_after place line) lines → (begin_behind g (begin_by g b line) lines).world ≡ Some w
    → Begun g all (begin_behind g (begin_by g b line) lines) w (items_behind (place_after place line) lines) (place_behind (place_after place line) lines)
opened g all b place line lines w table stores same begins_so many ready alike uncut count few alone some opens h is =
    let c : Beginning = begin_by g b line in
    let there : Place = place_after place line in
    let at : there.motes ≡ b.motes = many ∙ sym count in
    let behind : IsBehind there = record { ready = ready; some = subst (λ (n : ℕ). 0 < n) (sym many) some } in
    let k : Carries b.motes table stores (begin_behind g c lines) = carries b.motes table stores g c there lines behind at h (record { links = []; fit = tt; narrow = none_narrow; world = begins_so; count = same }) in
    let kept : IsKept b.motes there = record { behind = behind; count = at; waits = subst (λ (o : Option CutOfPower). IfSome o FitsCut) (sym uncut) tt; links = subst (AllByRecursion (LinkFits b.motes)) (sym (alike ∙ alone)) tt } in
    record {
      table = table;
      stores = stores;
      opens = subst (λ (n : ℕ). OpensBy g all n table stores) (sym k.count) opens;
      links = k.links;
      links_fit = subst (λ (n : ℕ). AllByRecursion (LinkFits n) k.links) (sym k.count) k.fit;
      narrow = k.narrow;
      world = some_is w (first_world table k.links k.narrow stores) (sym is ∙ k.world);
      few = subst (λ (n : ℕ). n ≤ most_motes) (sym k.count) few;
      ranges = subst (λ (n : ℕ). AllByRecursion (ItemInRange n) (items_behind there lines)) (sym k.count) (in_range b.motes there lines kept h);
      kept = subst (λ (n : ℕ). IsKept n (place_behind there lines)) (sym k.count) (kept_behind b.motes there lines kept h);
    }

-- before that line, where no more than the number of motes is known
begins : (g : StartState) (all : List Line) (b : Beginning) (place : Place) (lines : List Line) (w : World) → (UsesBoards lines → UsesBoards all) → b.motes ≡ place.motes → b.motes ≤ most_motes → b.world ≡ None → place.ready ≡ false → place.links ≡ [] → place.cut ≡ None → LinesFit place lines
    → (begin_behind g b lines).world ≡ Some w → Begun g all (begin_behind g b lines) w (items_behind place lines) (place_behind place lines)
unfolding LinesFit begin_behind items_behind place_behind
begins g all b place [] w among count few none before alone uncut h is = absurd (let e : None ≡ Some w = sym none ∙ is in cc)
begins g all b place (Nothing ∷ lines) w among count few none before alone uncut h is = begins g all b place lines w among count few none before alone uncut h.3 is
begins g all b place (Motes n ∷ lines) w among count few none before alone uncut h is = begins g all (begin_by g b (Motes n)) (place_after place (Motes n)) lines w among refl h.1.1 none before alone uncut h.3 is
begins g all b place (Golden name used content ∷ lines) w among count few none before alone uncut h is =
    opened g all b place (Golden name used content) lines w (golden_row name content ∷ []) (replicate b.motes (fresh name content used)) refl refl refl refl refl uncut count few alone (second_at place h.0.fits).1
    (inl (record { golden = record { name = name; used = used; content = content }; is_golden = h.1; table_is = refl; stores_are = refl })) h.3 is
begins g all b place (Boards ∷ lines) w among count few none before alone uncut h is =
    opened g all b place Boards lines w g.table g.stores refl refl refl refl refl uncut count few alone (second_at place h.0.fits).1 (inr (record { uses = among refl; table_is = refl; stores_are = refl })) h.3 is
begins g all b place (Link x y ∷ lines) w among count few none before alone uncut h is = false_not place.ready (link_at place x y h.0).0.0 before
begins g all b place (Narrow m ∷ lines) w among count few none before alone uncut h is = false_not place.ready (narrow_at place m h.0).0.0 before
begins g all b place (Image image version name content ∷ lines) w among count few none before alone uncut h is = false_not place.ready (later_at place h.0.fits).0 before
begins g all b place (Cut c ∷ lines) w among count few none before alone uncut h is = false_not place.ready (later_at place h.0.fits).0 before
begins g all b place (EventLine event ∷ lines) w among count few none before alone uncut h is = false_not place.ready (event_at place event h.0).0 before
begins g all b place (Round x y ∷ lines) w among count few none before alone uncut h is = false_not place.ready (later_at place h.0.fits).0 before
begins g all b place (Sweeps n ∷ lines) w among count few none before alone uncut h is = false_not place.ready (later_at place h.0.fits).0 before

played_ranges : (motes : ℕ) (played : List Played) → AllByRecursion (ItemInRange motes) (map item_played played) → AllByRecursion (PlayedInRange motes) played
played_ranges motes [] h = tt
played_ranges motes (p ∷ ps) h = (h.0, played_ranges motes ps h.1)

pub all_front : {A : Type 0} (P : A → Type 0) (xs ys : List A) → AllByRecursion P (xs ++ ys) → AllByRecursion P xs
all_front P [] ys h = tt
all_front P (x ∷ xs) ys h = (h.0, all_front P xs ys h.1)

pub all_rest : {A : Type 0} (P : A → Type 0) (xs ys : List A) → AllByRecursion P (xs ++ ys) → AllByRecursion P ys
all_rest P [] ys h = h
all_rest P (x ∷ xs) ys h = all_rest P xs ys h.1

-- What was played of a script begins with chips that are formatted or as they are, and what is left of the line that was begun is in its ranges.
pub record ScriptRun (g : StartState) (lines : List Line) (b : Beginning) (left : List Item) (played : List Played) (v : World) : Type 0 where
  pub table : List Row
  pub stores : List Store
  pub opens : OpensBy g lines b.motes table stores
  pub links : List (ℕ × ℕ)
  pub narrow : List Bool
  pub begins : b.world ≡ Some (first_world table links narrow stores)
  pub plays : Plays (first_world table links narrow stores) played v
  pub few : b.motes ≤ most_motes
  pub links_fit : AllByRecursion (LinkFits b.motes) links
  pub ranges : AllByRecursion (PlayedInRange b.motes) played
  pub left_fits : AllByRecursion (ItemInRange b.motes) left

-- one that plays golden
pub record GoldenRun (b : Beginning) (left : List Item) (played : List Played) (v : World) : Type 0 where
  pub name : List ℕ
  pub bytes : List ℕ
  pub used : ℕ
  pub links : List (ℕ × ℕ)
  pub narrow : List Bool
  pub begins : b.world ≡ Some (first_world (golden_row name bytes ∷ []) links narrow (replicate b.motes (fresh name bytes used)))
  pub plays : PlaysGolden (record { name = name; bytes = bytes; used = used; motes = b.motes; links = links; narrow = narrow }) played v
  pub left_fits : AllByRecursion (ItemInRange b.motes) left

abbrev pub ran_network : {b : Beginning} {left : List Item} {played : List Played} {v : World} → GoldenRun b left played v → GoldenNetwork
ran_network {b = b} g = record { name = g.name; bytes = g.bytes; used = g.used; motes = b.motes; links = g.links; narrow = g.narrow }

-- and one over the boards as they are
pub record BoardsRun (g : StartState) (b : Beginning) (left : List Item) (played : List Played) (v : World) : Type 0 where
  pub links : List (ℕ × ℕ)
  pub narrow : List Bool
  pub plays : PlaysBoards g.table g.stores links narrow played v
  pub left_fits : AllByRecursion (ItemInRange b.motes) left

golden_is_row : (golden : Formatted) → IsGoldenImage golden.name golden.used golden.content → IsRow (golden_row golden.name golden.content)
golden_is_row golden h =
    record { image = omega arith; version = omega arith; version_fits = omega arith; name = h.name; some = h.some; fits = omega (arith, h.fits); bytes = h.bytes }

next_in_range : (motes : ℕ) (done rest : List Line) → IsKept motes (place_behind first_place done) → LinesFit (place_behind first_place done) rest → AllByRecursion (ItemInRange motes) (next_items done rest)
next_in_range motes done [] k h = tt
next_in_range motes done (line ∷ rest) k h = line_in_range motes (place_behind first_place done) line k (first_fits _ line rest h)

abbrev BegunBehind : StartState → Beginning → World → List Line → Type 0
BegunBehind g b w done = Begun g done b w (items_of done) (place_behind first_place done)

run_by : (g : StartState) (b : Beginning) (o : Option World) (done rest : List Line) (begun left : List Item) (played : List Played) (v : World) → b.world ≡ o → ((w : World) → b.world ≡ Some w → BegunBehind g b w done) → LinesFit (place_behind first_place done) rest
    → next_items done rest ≡ begun ++ left → map item_played played ≡ items_of done ++ begun → RunsTo o played (Some v) → ScriptRun g done b left played v
run_by g b None done rest begun left played v is begins_so next parts items (none, last) = absurd (let e : Some v ≡ None = last in cc)
run_by g b (Some w) done rest begun left played v is begins_so next parts items (u, last, plays) =
    let x = begins_so w is in
    let here : Plays (first_world x.table x.links x.narrow x.stores) played v =
    subst (λ (z : World). Plays (first_world x.table x.links x.narrow x.stores) played z) (sym (some_is v u last)) (subst (λ (z : World). Plays z played u) x.world plays) in
    let line : AllByRecursion (ItemInRange b.motes) (begun ++ left) = subst (AllByRecursion (ItemInRange b.motes)) parts (next_in_range b.motes done rest x.kept next) in
    let all : AllByRecursion (ItemInRange b.motes) (items_of done ++ begun) = all_append (ItemInRange b.motes) (items_of done) begun x.ranges (all_front (ItemInRange b.motes) begun left line) in
    record {
      table = x.table;
      stores = x.stores;
      opens = x.opens;
      links = x.links;
      narrow = x.narrow;
      begins = is ∙ ap Some x.world;
      plays = here;
      few = x.few;
      links_fit = x.links_fit;
      ranges = played_ranges b.motes played (subst (AllByRecursion (ItemInRange b.motes)) (sym items) all);
      left_fits = all_rest (ItemInRange b.motes) begun left line;
    }

-- These lines were done, and the first items of the next one were played.
pub script_run : (g : StartState) (done rest : List Line) (begun left : List Item) (played : List Played) (v : World) → LinesFit first_place done → LinesFit (place_behind first_place done) rest → next_items done rest ≡ begun ++ left
    → map item_played played ≡ items_of done ++ begun → RunsTo (beginning_of g done).world played (Some v) → ScriptRun g done (beginning_of g done) left played v
script_run g done rest begun left played v fit next parts items run =
    run_by g (beginning_of g done) (beginning_of g done).world done rest begun left played v refl (λ w is. begins g done no_beginning first_place done w (λ h. h) refl (omega arith) refl refl refl refl fit is) next parts items run

pub golden_of : (g : StartState) (lines : List Line) (b : Beginning) (left : List Item) (played : List Played) (v : World) (r : ScriptRun g lines b left played v) → ByGolden b.motes r.table r.stores → GoldenRun b left played v
golden_of g lines b left played v r by =
    let same : first_world r.table r.links r.narrow r.stores ≡ first_world (golden_row by.golden.name by.golden.content ∷ []) r.links r.narrow (replicate b.motes (fresh by.golden.name by.golden.content by.golden.used)) =
    ap (λ (t : List Row). first_world t r.links r.narrow r.stores) by.table_is ∙ ap (first_world (golden_row by.golden.name by.golden.content ∷ []) r.links r.narrow) by.stores_are in
    record {
      name = by.golden.name;
      bytes = by.golden.content;
      used = by.golden.used;
      links = r.links;
      narrow = r.narrow;
      begins = r.begins ∙ ap Some same;
      plays = record {
        is_row = golden_is_row by.golden by.is_golden;
        plays = subst (λ (z : World). Plays z played v) same r.plays;
        few = r.few;
        links_fit = r.links_fit;
        ranges = r.ranges;
      };
      left_fits = r.left_fits;
    }

pub boards_of : (g : StartState) (lines : List Line) (b : Beginning) (left : List Item) (played : List Played) (v : World) (r : ScriptRun g lines b left played v) → ByBoards g lines r.table r.stores → length g.stores ≡ b.motes → AreShaped g.stores → BoardsRun g b left played v
boards_of g lines b left played v r by count shaped =
    let same : first_world r.table r.links r.narrow r.stores ≡ first_world g.table r.links r.narrow g.stores = ap (λ (t : List Row). first_world t r.links r.narrow r.stores) by.table_is ∙ ap (first_world g.table r.links r.narrow) by.stores_are in
    record {
      links = r.links;
      narrow = r.narrow;
      plays = record {
        shaped = shaped;
        plays = subst (λ (z : World). Plays z played v) same r.plays;
        few = subst (λ (n : ℕ). n ≤ most_motes) (sym count) r.few;
        links_fit = subst (λ (n : ℕ). AllByRecursion (LinkFits n) r.links) (sym count) r.links_fit;
        ranges = subst (λ (n : ℕ). AllByRecursion (PlayedInRange n) played) (sym count) r.ranges;
      };
      left_fits = r.left_fits;
    }

-- without a `boards` line it plays golden
pub golden_run : (g : StartState) (done rest : List Line) (begun left : List Item) (played : List Played) (v : World) → (UsesBoards done → ⊥) → LinesFit first_place done → LinesFit (place_behind first_place done) rest → next_items done rest ≡ begun ++ left
    → map item_played played ≡ items_of done ++ begun → RunsTo (beginning_of g done).world played (Some v) → GoldenRun (beginning_of g done) left played v
golden_run g done rest begun left played v alone fit next parts items run =
    let r = script_run g done rest begun left played v fit next parts items run in
    elim r.opens [ inl by ↦ golden_of g done (beginning_of g done) left played v r by | inr by ↦ absurd (alone by.uses) ]

-- ---- what holds of every run of a script

-- What holds of a service whatever bytes its frames carry, and that a replay of its trace leads to the same world.
use Rattle.std.proofs.Common.{◌≡◌, ℕ, ◌<◌, Bool, true, List, [], ◌∷◌, ◌++◌, length, map, append-nil, append_assoc, refl, sym, ap, subst, ◌∙◌, inl, inr}
use Rattle.std.specs.Prelude.{Option, Some, None}
use Rattle.std.specs.List.{AllByRecursion}
use Rattle.std.proofs.Math.ListN.{get_or-map}
use Rattle.std.proofs.lemmas.List.{length-map}
use Rattle.dg_base.specs.declared.answers.Status.{Status}
use Rattle.dg_base.specs.declared.answers.Status.TheVariants as status
use Rattle.dg_base.specs.declared.events.Event.{Event}
use Rattle.dg_base.specs.declared.events.Event.TheVariants.{Tick, Reset}
use Rattle.dg_base.specs.declared.events.Cut.{Cut as CutOfPower}
use Rattle.dg_base.specs.declared.events.Step.{Step}
use Rattle.dg_netcfg.specs.declared.profile.NetProfile.{NetProfile}
use Rattle.dg_nor.specs.Device.{Device}
use Rattle.dg_object.specs.Object.{Row}
use Rattle.dg_volume.specs.Store.{Store, fresh}
use Rattle.dg_volume.specs.Table.{row_at}
use Rattle.dg_rules.specs.World.{World, Running, site, off_site, first_world}
use Rattle.dg_rules.specs.Events.{Does, Refuses, Goes, does, mote_of, dt_of}
use Rattle.dg_rules.specs.Steps.{WorldStep, StepDoes, DeclareStep, EndsRun, done_world}
use Rattle.dg_rules.specs.Runs.{Played, ItemStep, Plays}
use Rattle.dg_script.specs.Ranges.{IsDeclared, EventInRange, StepInRange}
use Rattle.dg_rules.specs.Begins.{store_of}
use Rattle.dg_rules.specs.Premises.{ItemInRange, PlayedInRange}
use Rattle.dg_rules.specs.Consistency.{SiteConsistent, WorldConsistent, LeavesConsistent, StartsSoundDoes, StartsSoundItem, StartsSound, StopsConsistent}
use Rattle.dg_rules.specs.Golden.{SiteKeepsGolden, WorldKeepsGolden, FindsImage}
use Rattle.dg_rules.proofs.PlayLemmas.{plays, all_then}
use Rattle.dg_rules.proofs.SoundLemmas.{At, declared_sites}
use Rattle.dg_rules.proofs.StepLemmas.{step_count}
use Rattle.dg_script.specs.Items.{Item, Declares, Applies, items_of, items_behind, place_behind}
use Rattle.dg_script.specs.Places.{first_place, none_narrow}
use Rattle.dg_script.specs.declared.line.Line.{Line}
use Rattle.dg_script.specs.declared.line.Line.TheVariants.{Link, Happens as EventLine}
use Rattle.dg_script.specs.declared.place.Place.{Place}
use Rattle.dg_script.specs.declared.report.Report.{Report}
use Rattle.dg_world.specs.Alone.{uncut}
use Rattle.dg_serve.specs.Promised.{RunOf, StoresKeepGolden, ServiceStaysConsistent, ServiceKeepsGolden, world_by, ReplaysTo}
use Rattle.dg_serve.specs.inner.Runs.{event_item, served_item, StoresConsistent, LeavesGolden}
use Rattle.dg_serve.specs.Traces.{IsScript, trace, trace_lines}
use Rattle.dg_serve.specs.Services.{Part, Begins, Looks, Ticks, Moment, Course}
use Rattle.dg_serve.specs.inner.Stretches.{course}
use Rattle.dg_serve.specs.Endings.{StoresOf, FindsNoImage, Remains, EndsInNext, event_of}
use Rattle.dg_serve.specs.inner.Stretches.{remains}
use Rattle.dg_outside.specs.Outside.{Outside, OutputState}
use Rattle.dg_end.specs.Writes.{WritesEnd}
use Rattle.dg_serve.specs.Served.{service_end, Began}
use Rattle.dg_serve.specs.inner.Stretches.{BoardsAfter}
use Rattle.dg_serve.specs.declared.stop.Stop.{Stop}
use Rattle.dg_serve.specs.declared.stop.Stop.TheVariants as stop
use Rattle.dg_serve.proofs.EventLemmas.{same_of}
use Rattle.dg_serve.proofs.RunLemmas.{PartFits, left_fits}
use Rattle.dg_serve.proofs.PartLemmas.{frame_runs}

-- ---- the first world

module _ (table : List Row) (stores : List Store) (links : List (ℕ × ℕ)) where
  abbrev First : World
  First = first_world table links none_narrow stores

  pub first_count : length First.sites ≡ length stores
  first_count = length-map stores off_site

  first_site : (m : ℕ) → site First m ≡ off_site (store_of stores m)
  first_site m = get_or-map off_site stores m (fresh [] [] 0)

  first_consistent : (golden : Row) → StoresConsistent golden stores → WorldConsistent golden First
  first_consistent golden h = record {
    rows = tt;
    sites = λ m here. subst (SiteConsistent golden) (sym (first_site m)) (record { store = h m (subst (λ (n : ℕ). m < n) first_count here); asks = tt });
  }

  first_golden : StoresKeepGolden stores → WorldKeepsGolden First
  first_golden h m here = subst SiteKeepsGolden (sym (first_site m)) (record { kept = h m (subst (λ (n : ℕ). m < n) first_count here); asks = tt })

-- the number of motes is the same after each item
item_count : (motes : ℕ) (item : Item) (w v : World) (reports : List Report) → length w.sites ≡ motes → ItemInRange motes item → ItemStep w item v reports → length v.sites ≡ motes
item_count motes (Declares row) w v reports count range did = ap length (ap (λ (u : World). u.sites) did.world ∙ declared_sites (row_at w.declared row.image row.version) w row) ∙ count
item_count motes (Applies x reported) w v reports count range did = step_count w x v did.0 (subst (λ (n : ℕ). StepInRange n x) (sym count) range) did.1 ∙ count

-- ---- stores stay consistent

-- what is known of steps
pub record AnyLaws : Type 0 where
  pub stepped : (golden : Row) (w v : World) (x : Step) (reports : List Report) → WorldConsistent golden w → StepInRange (length w.sites) x → WorldStep w x v reports → WorldConsistent golden v
  pub stopped : (golden : Row) (w : World) (e : Event) → WorldConsistent golden w → EventInRange (length w.sites) e → StopsConsistent golden w e
  pub declared : (golden : Row) (w v : World) (row : Row) (reports : List Report) → WorldConsistent golden w → IsDeclared row → DeclareStep w row v reports → WorldConsistent golden v
  pub starts : (golden : Row) (w : World) (e : Event) → WorldConsistent golden w → EventInRange (length w.sites) e → StartsSoundDoes golden (does w e)

record Holds (golden : Row) (motes : ℕ) (w : World) : Type 0 where
  world : WorldConsistent golden w
  count : length w.sites ≡ motes

record Has (golden : Row) (p : Played) : Type 0 where
  leaves : LeavesConsistent golden p
  starts : StartsSound golden p

module _ (laws : AnyLaws) (golden : Row) (motes : ℕ) where
  item_consistent : (item : Item) (w v : World) (reports : List Report) → Holds golden motes w → ItemInRange motes item → ItemStep w item v reports → WorldConsistent golden v
  item_consistent (Declares row) w v reports h range did = laws.declared golden w v row reports h.world range did
  item_consistent (Applies x reported) w v reports h range did = laws.stepped golden w v x did.0 h.world (subst (λ (n : ℕ). StepInRange n x) (sym h.count) range) did.1

  item_starts : (item : Item) (w : World) → Holds golden motes w → ItemInRange motes item → StartsSoundItem golden item w
  item_starts (Declares row) w h range = tt
  item_starts (Applies x reported) w h range = laws.starts golden w x.event h.world (subst (λ (n : ℕ). StepInRange n x) (sym h.count) range).event

  played_holds : (past : List Played) (p : Played) → Holds golden motes p.before → PlayedInRange motes p → ItemStep p.before p.item p.after p.reports → Holds golden motes p.after × Has golden p
  played_holds past p h range did =
      let world = item_consistent p.item p.before p.after p.reports h range did in
      (record { world = world; count = item_count motes p.item p.before p.after p.reports h.count range did }, record { leaves = world; starts = item_starts p.item p.before h range })

pub stays_consistent : AnyLaws → (golden : Row) (motes : ℕ) (table : List Row) (stores : List Store) (links : List (ℕ × ℕ)) (played : List Played) (v : World) → length stores ≡ motes → StoresConsistent golden stores → Plays (first_world table links none_narrow stores) played v
    → AllByRecursion (PlayedInRange motes) played → ServiceStaysConsistent golden motes played v
stays_consistent laws golden motes table stores links played v count h run ranges =
    let first : Holds golden motes (first_world table links none_narrow stores) = record { world = first_consistent table stores links golden h; count = first_count table stores links ∙ count } in
    let all = plays (λ past w. Holds golden motes w) (PlayedInRange motes) (λ past p. Has golden p) (played_holds laws golden motes) [] played (first_world table links none_narrow stores) v run ranges first in
    record {
      stores = all_then (λ past p. Has golden p) (LeavesConsistent golden) (λ past p has. has.leaves) [] played all.1;
      ends = all.0.holds.world;
      starts = all_then (λ past p. Has golden p) (StartsSound golden) (λ past p has. has.starts) [] played all.1;
      halves = λ e fits. laws.stopped golden v e all.0.holds.world (subst (λ (n : ℕ). EventInRange n e) (sym all.0.holds.count) fits);
    }

-- ---- golden is kept

pub record GoldenLaws : Type 0 where
  pub stepped : (w v : World) (x : Step) (reports : List Report) → WorldKeepsGolden w → StepInRange (length w.sites) x → WorldStep w x v reports → WorldKeepsGolden v
  pub found : (w : World) (e : Event) → WorldKeepsGolden w → EventInRange (length w.sites) e → FindsImage (does w e)
  pub goes_on : (w v : World) (x : Step) → WorldKeepsGolden w → StepInRange (length w.sites) x → EndsRun w x v → ⊥

pub record Keeps (motes : ℕ) (w : World) : Type 0 where
  pub golden : WorldKeepsGolden w
  pub count : length w.sites ≡ motes

module _ (laws : GoldenLaws) (motes : ℕ) where
  item_golden : (item : Item) (w v : World) (reports : List Report) → Keeps motes w → ItemInRange motes item → ItemStep w item v reports → WorldKeepsGolden v
  item_golden (Declares row) w v reports k range did =
      subst (At (λ m y. SiteKeepsGolden y)) (sym (ap (λ (u : World). u.sites) did.world ∙ declared_sites (row_at w.declared row.image row.version) w row)) k.golden
  item_golden (Applies x reported) w v reports k range did = laws.stepped w v x did.0 k.golden (subst (λ (n : ℕ). StepInRange n x) (sym k.count) range) did.1

  played_keeps : (past : List Played) (p : Played) → Keeps motes p.before → PlayedInRange motes p → ItemStep p.before p.item p.after p.reports → Keeps motes p.after × LeavesGolden p
  played_keeps past p k range did =
      let golden = item_golden p.item p.before p.after p.reports k range did in
      (record { golden = golden; count = item_count motes p.item p.before p.after p.reports k.count range did }, golden)

pub stays_golden : GoldenLaws → (motes : ℕ) (table : List Row) (stores : List Store) (links : List (ℕ × ℕ)) (played : List Played) (v : World) → length stores ≡ motes → StoresKeepGolden stores → Plays (first_world table links none_narrow stores) played v
    → AllByRecursion (PlayedInRange motes) played → ServiceKeepsGolden motes played v
stays_golden laws motes table stores links played v count h run ranges =
    let first : Keeps motes (first_world table links none_narrow stores) = record { golden = first_golden table stores links h; count = first_count table stores links ∙ count } in
    let all = plays (λ past w. Keeps motes w) (PlayedInRange motes) (λ past p. LeavesGolden p) (played_keeps laws motes) [] played (first_world table links none_narrow stores) v run ranges first in
    record {
      kept = all_then (λ past p. LeavesGolden p) LeavesGolden (λ past p has. has) [] played all.1;
      ends = all.0.holds.golden;
      found = λ e fits. laws.found v e all.0.holds.golden (subst (λ (n : ℕ). EventInRange n e) (sym all.0.holds.count) fits);
    }

-- the world after it
pub keeps_behind : GoldenLaws → (motes : ℕ) (table : List Row) (stores : List Store) (links : List (ℕ × ℕ)) (played : List Played) (v : World) → length stores ≡ motes → StoresKeepGolden stores → Plays (first_world table links none_narrow stores) played v
    → AllByRecursion (PlayedInRange motes) played → Keeps motes v
keeps_behind laws motes table stores links played v count h run ranges =
    let first : Keeps motes (first_world table links none_narrow stores) = record { golden = first_golden table stores links h; count = first_count table stores links ∙ count } in
    (plays (λ past w. Keeps motes w) (PlayedInRange motes) (λ past p. LeavesGolden p) (played_keeps laws motes) [] played (first_world table links none_narrow stores) v run ranges first).0.holds

-- no part of a plan lacks an image to start
part_finds : GoldenLaws → (motes : ℕ) (w : World) (part : Part) (dt word : ℕ) (bytes : List ℕ) (old new : List Device) → Keeps motes w → PartFits motes part → FindsNoImage w (event_of part dt word bytes) old new → ⊥
part_finds laws motes w (Begins m) dt word bytes old new k fits none =
    laws.goes_on w none.world (uncut (Reset m dt word)) k.golden (record { event = subst (λ (n : ℕ). m < n) (sym k.count) fits; cut = tt }) none.ends
part_finds laws motes w (Looks m) dt word bytes old new k fits none = frame_runs w m dt word bytes none.ends.effect none.ends.goes none.ends.none
part_finds laws motes w (Ticks m) dt word bytes old new k fits none =
    laws.goes_on w none.world (uncut (Tick m dt word)) k.golden (record { event = subst (λ (n : ℕ). m < n) (sym k.count) fits; cut = tt }) none.ends

pub next_finds : GoldenLaws → (motes : ℕ) (s : Moment) (left : List Part) (old : List Device) (new : Remains) → Keeps motes s.world → AllByRecursion (PartFits motes) left → EndsInNext stop.NoImage s left old new → ⊥
next_finds laws motes s left old new k fits n =
    part_finds laws motes s.world n.part n.dt n.word n.bytes old new.boards k (subst (AllByRecursion (PartFits motes)) n.is fits).0 n.ends

-- a service ends so only where its last part did
pub ends_found : (why : Option Stop) (answer : Status) (motes : ℕ) (s : Moment) (c : Course) (last : Moment) (first : List Device) (b : Outside) (x y : OutputState)
    → WritesEnd answer (service_end why) x y → BoardsAfter why motes s c last first b → (EndsInNext stop.NoImage last c.left first (remains b.boards b.link.inboxes b.clock) → ⊥) → answer ≡ status.NoImage → ⊥
ends_found None answer motes s c last first b x y ended ends never is = let e = ended.0 in absurd cc
ends_found (Some stop.Memory) answer motes s c last first b x y ended ends never is = let e = ended.0 in absurd cc
ends_found (Some stop.Write) answer motes s c last first b x y ended ends never is = let e = ended.0 in absurd cc
ends_found (Some stop.Link) answer motes s c last first b x y ended ends never is = let e = ended.0 in absurd cc
ends_found (Some stop.Flash) answer motes s c last first b x y ended ends never is = let e = ended.0 in absurd cc
ends_found (Some stop.NotAVolume) answer motes s c last first b x y (inl ended) ends never is = let e = ended.0 in absurd cc
ends_found (Some stop.NotAVolume) answer motes s c last first b x y (inr (inl ended)) ends never is = let e = ended.0 in absurd cc
ends_found (Some stop.NotAVolume) answer motes s c last first b x y (inr (inr ended)) ends never is = let e = ended.0 in absurd cc
ends_found (Some stop.NoImage) answer motes s c last first b x y ended ends never is = never ends.0

pub finds_golden : GoldenLaws → (answer : Status) (profile : NetProfile) (seed turns : ℕ) (a b : Outside) (x : Began answer profile seed turns a b) (table : List Row) (stores : List Store) (fits : StoresOf profile.motes a.boards stores)
    → RunOf profile.motes (first_world table profile.links none_narrow stores) x.ran.events (x.ran.came table stores fits).last.world → StoresKeepGolden stores → answer ≡ status.NoImage → ⊥
finds_golden laws answer profile seed turns a b x table stores fits run h is =
    let came = x.ran.came table stores fits in
    let keeps = keeps_behind laws profile.motes table stores profile.links run.played came.last.world fits.count h run.plays run.ranges in
    ends_found x.why answer profile.motes _ (course x.ran.done x.ran.events x.ran.left) came.last a.boards (record b { output = x.traced }) x.traced b.output x.ended came.ends
    (λ n. next_finds laws profile.motes came.last x.ran.left a.boards (remains b.boards b.link.inboxes b.clock) keeps (left_fits profile.motes turns x.ran.done x.ran.left x.ran.parts) n) is

-- ---- an uncut event leads to one world

one_done : (w v u : World) (event : Event) (D : Does) (r s : List Report) → StepDoes D w (uncut event) v r → StepDoes D w (uncut event) u s → v ≡ u
one_done w v u event (Refuses why) r s a b = a.0 ∙ sym b.0
one_done w v u event (Goes d) r s a b = a.2 ∙ ap (λ (runs : Option Running). done_world w (mote_of event) (dt_of event) d runs) (same_of d.runs a.0 b.0 a.1 b.1) ∙ sym b.2

one_world : (w v u : World) (event : Event) (r s : List Report) → WorldStep w (uncut event) v r → WorldStep w (uncut event) u s → v ≡ u
unfolding WorldStep
one_world w v u event r s a b = one_done w v u event (does w event) r s a b

pub first_is : (x y : Item) (xs ys : List Item) → x ∷ xs ≡ y ∷ ys → x ≡ y
first_is x y xs ys e = cc

pub others_are : (x y : Item) (xs ys : List Item) → x ∷ xs ≡ y ∷ ys → xs ≡ ys
others_are x y xs ys e = cc

pub none_is_some : (x : Item) (xs : List Item) → x ∷ xs ≡ [] → ⊥
none_is_some x xs e = absurd cc

pub stepped_by : (u : World) (p : Played) (event : Event) → p.before ≡ u → p.item ≡ event_item event → ItemStep p.before p.item p.after p.reports → ItemStep u (event_item event) p.after p.reports
stepped_by u p event before item did = subst (λ (i : Item). ItemStep u i p.after p.reports) item (subst (λ (b : World). ItemStep b p.item p.after p.reports) before did)

-- and so do uncut events one after the other
one_end : (events : List Event) (u v w : World) (ps qs : List Played) → map served_item ps ≡ map event_item events → map served_item qs ≡ map event_item events → Plays u ps v → Plays u qs w → w ≡ v
unfolding Plays
one_end [] u v w [] [] e f h k = sym k ∙ h
one_end [] u v w (p ∷ ps) qs e f h k = absurd (none_is_some (served_item p) (map served_item ps) e)
one_end [] u v w [] (q ∷ qs) e f h k = absurd (none_is_some (served_item q) (map served_item qs) f)
one_end (x ∷ xs) u v w [] qs e f h k = absurd (none_is_some (event_item x) (map event_item xs) (sym e))
one_end (x ∷ xs) u v w (p ∷ ps) [] e f h k = absurd (none_is_some (event_item x) (map event_item xs) (sym f))
one_end (x ∷ xs) u v w (p ∷ ps) (q ∷ qs) e f h k =
    let a = stepped_by u p x h.0 (first_is (served_item p) (event_item x) (map served_item ps) (map event_item xs) e) h.1 in
    let b = stepped_by u q x k.0 (first_is (served_item q) (event_item x) (map served_item qs) (map event_item xs) f) k.1 in
    let same : q.after ≡ p.after = one_world u q.after p.after x b.0 a.0 b.1 a.1 in
    one_end xs p.after v w ps qs (others_are (served_item p) (event_item x) (map served_item ps) (map event_item xs) e) (others_are (served_item q) (event_item x) (map served_item qs) (map event_item xs) f) h.2 (subst (λ (z : World). Plays z qs w) same k.2)

-- ---- the items of a trace, and where its run begins

abbrev link_line : ℕ × ℕ → Line
link_line = λ l. Link l.0 l.1

events_items : (place : Place) (events : List Event) → place.cut ≡ None → items_behind place (map EventLine events) ≡ map event_item events
unfolding items_behind
events_items place [] none = refl
events_items place (e ∷ es) none =
    ap (λ (o : Option CutOfPower). Applies (record { event = e; cut = o }) true ∷ items_behind (record place { events = true; cut = None }) (map EventLine es)) none
    ∙ ap (λ (l : List Item). event_item e ∷ l) (events_items (record place { events = true; cut = None }) es refl)

links_items : (place : Place) (links : List (ℕ × ℕ)) (events : List Event) → place.cut ≡ None → items_behind place (map link_line links ++ map EventLine events) ≡ map event_item events
unfolding items_behind
links_items place [] events none = events_items place events none
links_items place (l ∷ ls) events none = links_items (record place { links = place.links ++ (l.0, l.1) ∷ [] }) ls events none

trace_items : (profile : NetProfile) (events : List Event) → items_of (trace_lines profile events) ≡ map event_item events
unfolding items_behind
trace_items profile events = links_items _ profile.links events refl

-- the links of a place, and its narrow motes
record IsAt (links : List (ℕ × ℕ)) (place : Place) : Type 0 where
  are : place.links ≡ links
  wide : place.narrow ≡ none_narrow

events_at : (links : List (ℕ × ℕ)) (place : Place) (events : List Event) → IsAt links place → IsAt links (place_behind place (map EventLine events))
unfolding place_behind
events_at links place [] at = at
events_at links place (e ∷ es) at = events_at links (record place { events = true; cut = None }) es (record { are = at.are; wide = at.wide })

links_at : (before links : List (ℕ × ℕ)) (place : Place) (events : List Event) → IsAt before place → IsAt (before ++ links) (place_behind place (map link_line links ++ map EventLine events))
unfolding place_behind
links_at before [] place events at = events_at (before ++ []) place events (record { are = at.are ∙ sym (append-nil before); wide = at.wide })
links_at before (l ∷ ls) place events at =
    subst (λ (xs : List (ℕ × ℕ)). IsAt xs (place_behind (record place { links = place.links ++ (l.0, l.1) ∷ [] }) (map link_line ls ++ map EventLine events))) (append_assoc before (l ∷ []) ls)
    (links_at (before ++ l ∷ []) ls (record place { links = place.links ++ (l.0, l.1) ∷ [] }) events (record { are = ap (λ (xs : List (ℕ × ℕ)). xs ++ l ∷ []) at.are; wide = at.wide }))

trace_at : (profile : NetProfile) (events : List Event) → IsAt profile.links (place_behind first_place (trace_lines profile events))
unfolding place_behind
trace_at profile events = links_at [] profile.links _ events (record { are = refl; wide = refl })

trace_world : (profile : NetProfile) (events : List Event) (table : List Row) (stores : List Store) → world_by (trace_lines profile events) table stores ≡ first_world table profile.links none_narrow stores
trace_world profile events table stores =
    let at = trace_at profile events in
    ap (λ (ls : List (ℕ × ℕ)). first_world table ls (place_behind first_place (trace_lines profile events)).narrow stores) at.are ∙ ap (λ (narrow : List Bool). first_world table profile.links narrow stores) at.wide

-- ---- a replay

pub replays_to : (profile : NetProfile) (events : List Event) (table : List Row) (stores : List Store) (v : World) → IsScript (trace profile events) (trace_lines profile events) → RunOf profile.motes (first_world table profile.links none_narrow stores) events v
    → ReplaysTo (trace profile events) (trace_lines profile events) profile.motes table stores v
replays_to profile events table stores v script run =
    let begins = trace_world profile events table stores in
    let items = trace_items profile events in
    record {
      script = script;
      rest = map link_line profile.links ++ map EventLine events;
      over_boards = refl;
      played = run.played;
      items = run.items ∙ sym items;
      plays = subst (λ (u : World). Plays u run.played v) (sym begins) run.plays;
      only = λ others w same plays. one_end events (first_world table profile.links none_narrow stores) v w run.played others run.items (same ∙ items) run.plays (subst (λ (u : World). Plays u others w) begins plays);
    }

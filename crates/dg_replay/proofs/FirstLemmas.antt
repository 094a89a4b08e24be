-- What was played first of a script is of a run of it too.
use Rattle.std.proofs.Common.{◌≡◌, ℕ, List, [], ◌∷◌, ◌++◌, map, refl, sym, subst}
use Rattle.std.specs.Prelude.{Option, Some, None}
use Rattle.std.specs.List.{AllByRecursion}
use Rattle.dg_object.specs.Object.{Row}
use Rattle.dg_rules.specs.World.{World, first_world}
use Rattle.dg_rules.specs.Premises.{ItemInRange, PlayedInRange}
use Rattle.dg_rules.specs.Runs.{Played, Plays}
use Rattle.dg_completion.proofs.GrowLemmas.{all_append}
use Rattle.dg_replay.specs.Items.{beginning_of}
use Rattle.dg_replay.specs.Ending.{script_of}
use Rattle.dg_replay.specs.Replayed.{Progress, RunsTo, item_played}
use Rattle.dg_replay.specs.Promised.{PlayedFirst}
use Rattle.dg_replay.proofs.ItemLemmas.{some_is, runs_from_none}
use Rattle.dg_replay.proofs.GoldenRuns.{all_front, all_rest, ScriptRun}

-- nothing was played, or it leads to a world
pub run_or : (o last : Option World) (played : List Played) → RunsTo o played last → (P : List Played → Option World → Type 0) → P [] None → ((v : World) → last ≡ Some v → P played (Some v)) → P played last
run_or o None played run P none some = subst (λ (ps : List Played). P ps None) (sym (runs_from_none o played run).1) none
run_or o (Some v) played run P none some = some v refl

items_range : (motes : ℕ) (played : List Played) → AllByRecursion (PlayedInRange motes) played → AllByRecursion (ItemInRange motes) (map item_played played)
items_range motes [] h = tt
items_range motes (p ∷ ps) h = (h.0, items_range motes ps h.1)

-- if one run leads to no world, no run from the same beginning leads to one
no_world : (o : Option World) (ps qs : List Played) (u : World) → RunsTo o ps None → RunsTo o qs (Some u) → ⊥
no_world None ps qs u a b = absurd (let e : Some u ≡ None = b.1 in cc)
no_world (Some w) ps qs u (v, is, plays) b = absurd (let e : None ≡ Some v = is in cc)

plays_to : (first u : World) (ps : List Played) → RunsTo (Some first) ps (Some u) → Plays first ps u
plays_to first u ps (v, is, plays) = subst (λ (x : World). Plays first ps x) (sym (some_is u v is)) plays

module _ {table : List Row} (input : List ℕ) (c : Progress table (script_of input)) (f : PlayedFirst c) where
  abbrev Begun : Option World
  Begun = (beginning_of c.ground c.done).world

  shortened : (u v : World) → f.last ≡ Some u → ScriptRun c.ground c.done (beginning_of c.ground c.done) c.left c.played v → ScriptRun c.ground c.done (beginning_of c.ground c.done) (map item_played f.rest ++ c.left) f.played u
  shortened u v is r =
      let motes = (beginning_of c.ground c.done).motes in
      let first : World = first_world r.table r.links r.narrow r.stores in
      let run : RunsTo (Some first) f.played (Some u) = subst (λ (o : Option World). RunsTo o f.played (Some u)) r.begins (subst (λ (o : Option World). RunsTo Begun f.played o) is f.run) in
      let ranges : AllByRecursion (PlayedInRange motes) (f.played ++ f.rest) = subst (AllByRecursion (PlayedInRange motes)) f.parts r.ranges in
      record {
        table = r.table;
        stores = r.stores;
        opens = r.opens;
        links = r.links;
        narrow = r.narrow;
        begins = r.begins;
        plays = plays_to first u f.played run;
        few = r.few;
        links_fit = r.links_fit;
        ranges = all_front (PlayedInRange motes) f.played f.rest ranges;
        left_fits = all_append (ItemInRange motes) (map item_played f.rest) c.left (items_range motes f.rest (all_rest (PlayedInRange motes) f.played f.rest ranges)) r.left_fits;
      }

  -- what was played first is such a run, if all of it is
  pub first_run : ((v : World) → c.last ≡ Some v → ScriptRun c.ground c.done (beginning_of c.ground c.done) c.left c.played v) → (u : World) → f.last ≡ Some u
      → ScriptRun c.ground c.done (beginning_of c.ground c.done) (map item_played f.rest ++ c.left) f.played u
  first_run all u is = by_last c.last refl
    where
      by_last : (o : Option World) → c.last ≡ o → ScriptRun c.ground c.done (beginning_of c.ground c.done) (map item_played f.rest ++ c.left) f.played u
      by_last None none = absurd (no_world Begun c.played f.played u (subst (λ (o : Option World). RunsTo Begun c.played o) none c.run) (subst (λ (o : Option World). RunsTo Begun f.played o) is f.run))
      by_last (Some v) some = shortened u v is (all v some)

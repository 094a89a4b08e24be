-- Stores stay consistent in what was played of a script, whatever frames it brings.
use Rattle.std.proofs.Common.{◌≡◌, ℕ, List, [], ◌∷◌, get_or, sym, ap, ◌∙◌, subst}
use Rattle.std.specs.Prelude.{Some, None}
use Rattle.std.specs.List.{AllByRecursion}
use Rattle.dg_object.specs.Object.{Row}
use Rattle.dg_volume.specs.Store.{golden_row}
use Rattle.dg_base.specs.declared.events.Event.{Event}
use Rattle.dg_script.specs.Items.{Item, Applies}
use Rattle.dg_rules.specs.World.{World}
use Rattle.dg_script.specs.Ranges.{EventInRange}
use Rattle.dg_rules.specs.Premises.{ItemInRange}
use Rattle.dg_rules.specs.Runs.{Played}
use Rattle.dg_rules.specs.Golden.{GoldenNetwork, network_row, PlaysGolden}
use Rattle.dg_rules.specs.Consistency.{WorldConsistent, LeavesConsistent, StartsSound, StopsConsistent}
use Rattle.dg_replay.specs.Items.{UsesBoards, Beginning, beginning_of}
use Rattle.dg_replay.specs.Ending.{script_of}
use Rattle.dg_replay.specs.Replayed.{Progress}
use Rattle.dg_replay.specs.Promised.{StaysConsistent}
use Rattle.dg_replay.proofs.ItemLemmas.{some_is}
use Rattle.dg_replay.proofs.FirstLemmas.{run_or}
use Rattle.dg_replay.proofs.GoldenLemmas.{golden_at_end}
use Rattle.dg_replay.proofs.GoldenRuns.{GoldenRun, ran_network}

-- what is known of all that plays golden
pub record ConsistentLaws : Type 0 where
  pub kept : (g : GoldenNetwork) (played : List Played) (v : World) → PlaysGolden g played v
      → AllByRecursion (LeavesConsistent (network_row g)) played × WorldConsistent (network_row g) v
  pub starts : (g : GoldenNetwork) (played : List Played) (v : World) → PlaysGolden g played v → AllByRecursion (StartsSound (network_row g)) played
  pub halves : (g : GoldenNetwork) (played : List Played) (v : World) (e : Event) → PlaysGolden g played v → EventInRange g.motes e → StopsConsistent (network_row g) v e

one_row : (a b : Row) → a ∷ [] ≡ b ∷ [] → a ≡ b
one_row a b e = ap (λ (rows : List Row). get_or rows 0 a) e

-- before the boards are formatted nothing is played
nothing_played : (golden : Row) (left : List Item) → StaysConsistent golden [] None left
nothing_played golden left = record { stores = tt; ends = tt; starts = tt; halves = λ w step reported more is next. absurd (let f : None ≡ Some w = is in cc) }

module _ (laws : ConsistentLaws) where
  golden_consistent : (b : Beginning) (left : List Item) (played : List Played) (v : World) → (g : GoldenRun b left played v) → StaysConsistent (golden_row g.name g.bytes) played (Some v) left
  golden_consistent b left played v g =
      let kept = laws.kept (ran_network g) played v g.plays in
      record {
        stores = kept.0;
        ends = kept.1;
        starts = laws.starts (ran_network g) played v g.plays;
        halves = λ w step reported more is next.
            let fits : AllByRecursion (ItemInRange b.motes) (Applies step reported ∷ more) = subst (AllByRecursion (ItemInRange b.motes)) next g.left_fits in
            subst (λ (u : World). StopsConsistent (golden_row g.name g.bytes) u step.event) (some_is v w is) (laws.halves (ran_network g) played v step.event g.plays fits.0.event);
      }

  pub progress_consistent : {table : List Row} (input : List ℕ) (c : Progress table (script_of input)) → (UsesBoards c.done → ⊥) → (golden : Row) (w : World) → (beginning_of c.ground c.done).world ≡ Some w → w.table ≡ golden ∷ []
      → StaysConsistent golden c.played c.last c.left
  progress_consistent input c alone golden w is table =
      run_or (beginning_of c.ground c.done).world c.last c.played c.run (λ ps last. StaysConsistent golden ps last c.left) (nothing_played golden c.left)
      (λ v last.
      let g = golden_at_end input c alone v last in
      let same : golden_row g.name g.bytes ≡ golden = one_row (golden_row g.name g.bytes) golden (sym (ap (λ (u : World). u.table) (some_is w _ (sym is ∙ g.begins))) ∙ table) in
      subst (λ (row : Row). StaysConsistent row c.played (Some v) c.left) same (golden_consistent (beginning_of c.ground c.done) c.left c.played v g))

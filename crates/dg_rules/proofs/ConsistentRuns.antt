-- Every store stays consistent through all that is played of a script.
use Rattle.std.proofs.Common.{◌≡◌, ℕ, List, [], length, refl, sym, ap, subst, ◌∙◌}
use Rattle.std.specs.List.{AllByRecursion}
use Rattle.dg_object.specs.Object.{Row, IsRow}
use Rattle.dg_volume.specs.Store.{golden_row, fresh}
use Rattle.dg_volume.specs.Consistent.{Consistent}
use Rattle.dg_volume.specs.Table.{row_at}
use Rattle.dg_rules.specs.World.{World}
use Rattle.dg_rules.specs.Events.{does}
use Rattle.dg_rules.specs.Steps.{WorldStep, DeclareStep}
use Rattle.dg_script.specs.Ranges.{IsDeclared, EventInRange, StepInRange}
use Rattle.dg_rules.specs.Premises.{ItemInRange, PlayedInRange}
use Rattle.dg_rules.specs.Golden.{GoldenNetwork, network_row, network_world, PlaysGolden}
use Rattle.dg_rules.specs.Consistency.{SiteConsistent, WorldConsistent, LeavesConsistent, StartsSoundDoes, StartsSoundItem, StartsSound, StopsConsistent}
use Rattle.dg_script.specs.Items.{Item, Declares, Applies}
use Rattle.dg_rules.specs.Runs.{Played, ItemStep, EachAfter}
use Rattle.dg_base.specs.declared.events.Event.{Event}
use Rattle.dg_base.specs.declared.events.Step.{Step}
use Rattle.dg_script.specs.declared.report.Report.{Report}
use Rattle.dg_rules.proofs.StepLemmas.{step_count}
use Rattle.dg_rules.proofs.SoundLemmas.{declared_sites}
use Rattle.dg_rules.proofs.PlayLemmas.{Ended, plays, all_then}
use Rattle.dg_rules.proofs.ScriptLemmas.{first_count, first_site}

-- what is known of steps and of chips that were formatted
pub record RunLaws : Type 0 where
  pub fresh : (name bytes : List ℕ) (used : ℕ) → IsRow (golden_row name bytes) → Consistent (golden_row name bytes) (fresh name bytes used)
  pub stepped : (golden : Row) (w v : World) (x : Step) (reports : List Report) → WorldConsistent golden w → StepInRange (length w.sites) x → WorldStep w x v reports → WorldConsistent golden v
  pub stopped : (golden : Row) (w : World) (e : Event) → WorldConsistent golden w → EventInRange (length w.sites) e → StopsConsistent golden w e
  pub declared : (golden : Row) (w v : World) (row : Row) (reports : List Report) → WorldConsistent golden w → IsDeclared row → DeclareStep w row v reports → WorldConsistent golden v
  pub starts : (golden : Row) (w : World) (e : Event) → WorldConsistent golden w → EventInRange (length w.sites) e → StartsSoundDoes golden (does w e)

-- every store is consistent, and there are this many motes
record Holds (golden : Row) (motes : ℕ) (w : World) : Type 0 where
  world : WorldConsistent golden w
  count : length w.sites ≡ motes

record Has (golden : Row) (p : Played) : Type 0 where
  leaves : LeavesConsistent golden p
  starts : StartsSound golden p

module _ (laws : RunLaws) (golden : Row) (motes : ℕ) where
  item_holds : (item : Item) (w v : World) (reports : List Report) → Holds golden motes w → ItemInRange motes item → ItemStep w item v reports → Holds golden motes v
  item_holds (Declares row) w v reports h range did = record {
    world = laws.declared golden w v row reports h.world range did;
    count = ap length (ap (λ (u : World). u.sites) did.world ∙ declared_sites (row_at w.declared row.image row.version) w row) ∙ h.count;
  }
  item_holds (Applies x reported) w v reports h range did =
      let fits : StepInRange (length w.sites) x = subst (λ (n : ℕ). StepInRange n x) (sym h.count) range in
      record { world = laws.stepped golden w v x did.0 h.world fits did.1; count = step_count w x v did.0 fits did.1 ∙ h.count }

  item_starts : (item : Item) (w : World) → Holds golden motes w → ItemInRange motes item → StartsSoundItem golden item w
  item_starts (Declares row) w h range = tt
  item_starts (Applies x reported) w h range = laws.starts golden w x.event h.world (subst (λ (n : ℕ). StepInRange n x) (sym h.count) range).event

  played_holds : (past : List Played) (p : Played) → Holds golden motes p.before → PlayedInRange motes p → ItemStep p.before p.item p.after p.reports → Holds golden motes p.after × Has golden p
  played_holds past p h range did =
      let after = item_holds p.item p.before p.after p.reports h range did in
      (after, record { leaves = after.world; starts = item_starts p.item p.before h range })

-- ---- what is played of a script

module _ (laws : RunLaws) (g : GoldenNetwork) (played : List Played) (v : World) (script : PlaysGolden g played v) where
  abbrev Golden : Row
  Golden = network_row g

  abbrev Begins : World
  Begins = network_world g

  begins : Holds Golden g.motes Begins
  begins = record {
    world = record {
      rows = tt;
      sites = λ m here. subst (SiteConsistent Golden) (sym (first_site g.name g.bytes g.used g.motes g.links g.narrow script.is_row m here)) (record { store = record { count = refl; consistent = laws.fresh g.name g.bytes g.used script.is_row }; asks = tt });
    };
    count = first_count g.name g.bytes g.used g.motes g.links g.narrow script.is_row;
  }

  run : Ended (λ past w. Holds Golden g.motes w) v × EachAfter (λ past p. Has Golden p) [] played
  run = plays (λ past w. Holds Golden g.motes w) (PlayedInRange g.motes) (λ past p. Has Golden p) (played_holds laws Golden g.motes) [] played Begins v script.plays script.ranges begins

  pub run_kept : AllByRecursion (LeavesConsistent Golden) played × WorldConsistent Golden v
  run_kept = (all_then (λ past p. Has Golden p) (LeavesConsistent Golden) (λ past p h. h.leaves) [] played run.1, run.0.holds.world)

  pub run_starts : AllByRecursion (StartsSound Golden) played
  run_starts = all_then (λ past p. Has Golden p) (StartsSound Golden) (λ past p h. h.starts) [] played run.1

  pub run_halves : (e : Event) → EventInRange g.motes e → StopsConsistent Golden v e
  run_halves e fits = laws.stopped Golden v e run.0.holds.world (subst (λ (n : ℕ). EventInRange n e) (sym run.0.holds.count) fits)

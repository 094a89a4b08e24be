-- A world of one mote over a volume, and its steps: it has one mote after each.
use Rattle.std.proofs.Common.{◌≡◌, ℕ, ◌<◌, ◌≤◌, Bool, List, [], length, Some, sym, subst, ◌∙◌, arith}
use Rattle.std.specs.Prelude.{slice_get, slice_index_or}
use Rattle.std.proofs.lemmas.List.{length-map}
use Rattle.dg_nor.specs.Device.{Device}
use Rattle.dg_object.specs.Object.{Row}
use Rattle.dg_volume.specs.Store.{Store}
use Rattle.dg_volume.specs.Stands.{Stands}
use Rattle.dg_script.specs.Places.{none_narrow}
use Rattle.dg_rules.specs.World.{World as RuleWorld, first_world, no_site, off_site}
use Rattle.dg_base.specs.declared.events.Step.{Step}
use Rattle.dg_script.specs.Ranges.{StepInRange}
use Rattle.dg_script.specs.declared.report.Report.{Report}
use Rattle.dg_rules.proofs.StepLemmas.{step_count}
use Rattle.dg_world.specs.Worlds.{IsWorld}
use Rattle.dg_world.specs.Applied.{Applied}
use Rattle.dg_world.specs.Deployments.{deployed}
use Rattle.dg_world.specs.declared.world.World.{World}
use Rattle.dg_trials.specs.OneMote.{IsOneVolume, IsOneMote}

-- ---- how it begins

abbrev Begins : World → Type 0
Begins v = (boards : List Device) (stores : List Store) (table : List Row) → length stores ≡ 1 → 1 ≤ length boards
    → ((m : ℕ) (d : Device) → m < 1 → slice_get boards m ≡ Some d → Stands d.image (slice_index_or stores m no_site.store))
    → IsWorld v boards (first_world table [] none_narrow stores)

pub one_begins : (v : World) (boards : List Device) → IsOneVolume boards → Begins v → IsOneMote v boards
one_begins v boards o begins =
    record {
      world = first_world [] [] none_narrow o.stores;
      is = begins boards o.stores [] o.stands.count o.enough o.stands.each;
      one = length-map o.stores off_site ∙ o.stands.count;
    }

-- ---- its steps

fits : (v : World) (boards : List Device) (x : Step) (o : IsOneMote v boards) → StepInRange 1 x → StepInRange (length o.world.sites) x
fits v boards x o range = subst (λ (n : ℕ). StepInRange n x) (sym o.one) range

-- a step in its range may be applied
pub may_apply : (v : World) (boards : List Device) (x : Step) → IsOneMote v boards → StepInRange 1 x → (w : RuleWorld) × IsWorld v boards w × StepInRange (length w.sites) x
may_apply v boards x o range = (o.world, o.is, fits v boards x o range)

-- and what it leaves is a world of one mote
pub one_then : (v v2 : World) (old new : List Device) (before after : List Report) (x : Step) (reported : Bool) → IsOneMote v old → StepInRange 1 x
    → ((w : RuleWorld) → IsWorld v old w → Applied w x reported (deployed v old before) (deployed v2 new after)) → IsOneMote v2 new
one_then v v2 old new before after x reported o range applied =
    let a = applied o.world o.is in
    record { world = a.world; is = a.stood; one = step_count o.world x a.world a.reports (fits v old x o range) a.step ∙ o.one }

-- the mote may be asked after
pub may_ask : (v : World) (boards : List Device) → IsOneMote v boards → (bs : List Device) × (w : RuleWorld) × IsWorld v bs w × (0 < length w.sites)
may_ask v boards o = (boards, o.world, o.is, omega (arith, o.one))

-- Steps over boards whose stores are consistent.
use Rattle.std.proofs.Common.{◌≡◌, ℕ, Bool, List, length, subst, sym, ◌∙◌}
use Rattle.std.specs.Prelude.{slice_get, IfSome}
use Rattle.dg_nor.specs.Device.{Device}
use Rattle.dg_object.specs.Object.{Row}
use Rattle.dg_rules.specs.World.{World as RuleWorld}
use Rattle.dg_rules.specs.Steps.{WorldStep}
use Rattle.dg_script.specs.Ranges.{StepInRange, EventInRange}
use Rattle.dg_rules.specs.Consistency.{WorldConsistent, StopsConsistent}
use Rattle.dg_base.specs.declared.events.Step.{Step}
use Rattle.dg_script.specs.declared.report.Report.{Report}
use Rattle.dg_world.specs.Worlds.{IsWorld}
use Rattle.dg_world.specs.Applied.{Applied, FlashAt, BoardsAreConsistent, BoardIsConsistent}
use Rattle.dg_world.specs.Deployments.{Deployment}
use Rattle.dg_world.specs.declared.world.World.{World}

-- a world has as many motes as the code's
pub same_count : (v : World) (boards : List Device) (w x : RuleWorld) → IsWorld v boards w → IsWorld v boards x → length w.sites ≡ length x.sites
same_count v boards w x a b = a.motes ∙ sym b.motes

pub applied_consistent : (golden : Row) (a b : Deployment) (w : RuleWorld) (x : Step) (reported : Bool) → IsWorld a.world a.boards w → StepInRange (length w.sites) x → (here : BoardsAreConsistent golden a.world a.boards)
    → ((y z : RuleWorld) (reports : List Report) → WorldConsistent golden y → StepInRange (length y.sites) x → WorldStep y x z reports → WorldConsistent golden z)
    → Applied here.world x reported a b → BoardsAreConsistent golden b.world b.boards
applied_consistent golden a b w x reported is fits here keep applied =
    record {
      world = applied.world;
      stands = applied.stood;
      consistent = keep here.world applied.world applied.reports here.consistent (subst (λ (n : ℕ). StepInRange n x) (same_count a.world a.boards w here.world is here.stands) fits) applied.step;
    }

pub flash_consistent : (golden : Row) (v : World) (old new : List Device) (w : RuleWorld) (x : Step) (board : ℕ) → IsWorld v old w → StepInRange (length w.sites) x → (here : BoardsAreConsistent golden v old)
    → ((y : RuleWorld) → WorldConsistent golden y → EventInRange (length y.sites) x.event → StopsConsistent golden y x.event)
    → FlashAt here.world x board old new → IfSome (slice_get new board) (BoardIsConsistent golden)
flash_consistent golden v old new w x board is fits here keep flash =
    let stops = keep here.world here.consistent (subst (λ (n : ℕ). EventInRange n x.event) (same_count v old w here.world is here.stands) fits.event) in
    subst (λ o. IfSome o (BoardIsConsistent golden)) (sym flash.is)
    (record { store = flash.leaves.store; stands = flash.leaves.stands_for; consistent = stops flash.done flash.leaves.store flash.leaves.allowed })

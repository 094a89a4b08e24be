-- Which injection an event is.
use Rattle.std.proofs.Common.{◌≡◌, ℕ, Bool, false, subst, sym}
use Rattle.std.specs.Prelude.{◌==◌, if◌then◌else◌, Option, Some, Result}
use Rattle.dg_nor.specs.Device.{Device}
use Rattle.dg_object.specs.Object.{Row}
use Rattle.dg_node.specs.declared.node.Node.{Node}
use Rattle.dg_node.specs.Hosts.{host}
use Rattle.dg_rules.specs.World.{World as RuleWorld}
use Rattle.dg_rules.specs.Events.{Refuses, inject_row}
use Rattle.dg_script.specs.declared.report.Cause.TheVariants as cause
use Rattle.dg_world.specs.inner.EventOutcomes.{EventOutcome, Halt}
use Rattle.dg_world.specs.inner.OutcomeEndings.{OutcomeEnds}

-- which injection an event is
pub known_image : (r : Result EventOutcome Halt) (w : RuleWorld) (m now word : ℕ) (image : ℕ) (known : Option Row) (row : Row) (v u : Option Node) (a b : Device) → (image == 0) ≡ false → known ≡ Some row
    → OutcomeEnds r w m (inject_row w m (Some row) now word) (host a v) (host b u) → OutcomeEnds r w m (if image == 0 then Refuses cause.Reserved else inject_row w m known now word) (host a v) (host b u)
known_image r w m now word image known row v u a b other some ends =
    let P : Bool → Option Row → Type 0 = λ x o. OutcomeEnds r w m (if x then Refuses cause.Reserved else inject_row w m o now word) (host a v) (host b u) in
    subst (λ (x : Bool). P x known) (sym other) (subst (P false) (sym some) ends)

-- A start over a plan.
use Rattle.std.specs.Prelude.{Result, Ok, Err, IfOk}
use Rattle.dg_volume.specs.Store.{Store}
use Rattle.dg_volume.specs.Stands.{Stands}
use Rattle.dg_volume.specs.Start.{boot}
use Rattle.dg_volume.specs.declared.volume.StartCause.{StartCause}
use Rattle.dg_boot.specs.Started.{Starts}
use Rattle.dg_boot.specs.declared.Started.{Started}
use Rattle.dg_boot.specs.declared.BootFault.{BootFault}
use Rattle.dg_plan.specs.declared.plan.Plan.{Plan}
use Rattle.dg_plan.specs.Plans.{planned, plan_device}
use Rattle.dg_plan.specs.Acts.{IsPlanOf}
use Rattle.dg_plan.proofs.PlanLemmas.{plan_by}

pub with_plan : (r : Result Started BootFault) (kind : StartCause) (old new : Plan) → IfOk r (λ told. (s : Store) → Stands (planned old) s → Starts (boot kind s) (plan_device old) (plan_device new) told)
    → IfOk r (λ told. (s : Store) → Stands (planned old) s → Starts (boot kind s) (plan_device old) (plan_device new) told × IsPlanOf (boot kind s).trail old new)
with_plan (Ok told) kind old new f = λ s stands. let x = f s stands in (x, plan_by (boot kind s).trail old new x.acted.mounted.stands x.acted.ran)
with_plan (Err e) kind old new f = tt

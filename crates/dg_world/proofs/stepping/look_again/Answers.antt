use Rattle.dg_world.specs.inner.Faults.{fault_of_mount}
use Rattle.dg_world.proofs.StepLemmas.{read_told, reading_stopped, mount_stopped}
use Rattle.dg_world.proofs.stepping.look_again.Goals as goal

pub returns-in_err-volume-clause-reported : goal.returns-in_err-volume-clause-reported
returns-in_err-volume-clause-reported g c = λ s stands.
    reading_stopped c.from_residual.result (fault_of_mount c.in_err-volume.field-0.0) _ _ s _ _ _ c.from_residual.ensures.1 (mount_stopped c.in_err-volume.field-0.0 s _ _ stands c.in_err-volume.ensures.done)

pub returns-clause-reported : goal.returns-clause-reported
returns-clause-reported g c = λ s stands.
    read_told c.orderly.result c.args.mote c.args.before.now s _ _ c.args.out.now.items _ (c.report_changes.ensures.reported s (c.in_ok-volume.ensures.done.mounted s stands).tells) c.in_ok-volume.ensures.done.looked

pub returns-clause-sees : goal.returns-clause-sees
returns-clause-sees g c = let v = c.in_ok-volume.ensures.done.volume in c.orderly.ensures (g.N.Nor.device c.mount_known.new.board).image v.1.control

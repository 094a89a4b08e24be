use Rattle.std.proofs.Common.{ap, Err}
use Rattle.std.specs.Prelude.{None}
use Rattle.dg_meter.specs.Meters.{metered_device}
use Rattle.dg_world.proofs.CountLemmas.{worked_ran, worked_halts}
use Rattle.dg_cost.proofs.LookingLemmas.{reads_no_volume}
use Rattle.dg_cost.proofs.looking.look_at.Goals as goal

pub returns-in-Err-NotAVolume-clause-given : goal.returns-in-Err-NotAVolume-clause-given
returns-in-Err-NotAVolume-clause-given g c =
    reads_no_volume None (metered_device g.N.Nor.device c.args.board.now) (metered_device g.N.Nor.device c.mount.new.nor)
    (c.in-Err-NotAVolume.ensures.not_a_volume (ap (λ e. Err e) c.in-Err-NotAVolume.field-0-is)) c.mount.ensures.same_image

pub returns-in-Err-NotAVolume-clause-read : goal.returns-in-Err-NotAVolume-clause-read
returns-in-Err-NotAVolume-clause-read g c =
    worked_ran (c.in-Err-NotAVolume.ensures.refused (ap (λ e. Err e) c.in-Err-NotAVolume.field-0-is)).ran

pub returns-in-Err-Stopped-clause-read : goal.returns-in-Err-Stopped-clause-read
returns-in-Err-Stopped-clause-read g c =
    worked_halts 0 (c.in-Err-Stopped.ensures.stopped (ap (λ e. Err e) c.in-Err-Stopped.field-0-is)).halts

pub returns-in-Ok-clause-read : goal.returns-in-Ok-clause-read
returns-in-Ok-clause-read g c = worked_ran c.in-Ok.ensures.looked.ran

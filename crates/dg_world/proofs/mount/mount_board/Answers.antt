use Rattle.std.proofs.Common.{ap}
use Rattle.std.specs.Prelude.{Err}
use Rattle.dg_world.proofs.mount.mount_board.Goals as goal

pub returns-in-Err-NotAVolume-clause-no_volume : goal.returns-in-Err-NotAVolume-clause-no_volume
returns-in-Err-NotAVolume-clause-no_volume g c = λ is. c.in-Err-NotAVolume.ensures.not_a_volume (ap (λ e. Err e) c.in-Err-NotAVolume.field-0-is)

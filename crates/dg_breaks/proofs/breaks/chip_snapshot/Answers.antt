use Rattle.std.proofs.Common.{rules}
use Rattle.dg_breaks.proofs.breaks.chip_snapshot.Goals as goal

pub returns-in-Err-NotAVolume-clause-none : goal.returns-in-Err-NotAVolume-clause-none
returns-in-Err-NotAVolume-clause-none g c = λ none p room controls. c.mount.ensures.not_a_volume (search rules) p room controls

use Rattle.std.proofs.Common.{arith}
use Rattle.std.proofs.lemmas.Grind.{common_steps}
use Rattle.dg_serial.specs.Line.{stuffed}
use Rattle.deluge_c.proofs.lines.stuffed.Goals as goal

pub returns : goal.returns
unfolding stuffed
returns c = grind (arith, common_steps)

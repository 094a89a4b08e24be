use Rattle.std.proofs.Common.{arith}
use Rattle.std.proofs.lemmas.Grind.{common_steps}
use Rattle.dg_nor.specs.Chip.{blank}
use Rattle.dg_nor.proofs.cells.append_blank.Goals as goal

pub returns-clause-cells : goal.returns-clause-cells
unfolding blank
returns-clause-cells c = grind (arith, common_steps)

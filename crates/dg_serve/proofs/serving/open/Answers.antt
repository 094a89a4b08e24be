use Rattle.std.proofs.Common.{arith}
use Rattle.dg_serve.proofs.serving.open.Goals as goal

pub open-requires-clause-some : goal.open-requires-clause-some
open-requires-clause-some g c = omega (arith, c.from.ensures, c.requires.motes.0)

pub open-requires-clause-most : goal.open-requires-clause-most
open-requires-clause-most g c = omega (arith, c.from.ensures, c.requires.motes.1)

pub open-requires-clause-ports : goal.open-requires-clause-ports
open-requires-clause-ports g c = c.requires.port.1

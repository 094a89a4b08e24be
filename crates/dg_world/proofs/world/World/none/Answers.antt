use Rattle.std.proofs.Common.{[], refl, arith}
use Rattle.dg_world.proofs.world.World.none.Goals as goal

pub returns : goal.returns
returns c = λ boards table. c.at_rest.ensures.begins 0 boards [] table c.new.ensures.items (omega arith) refl (omega arith) (λ m d below here. absurd (omega (arith, below)))

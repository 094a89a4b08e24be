use Rattle.std.proofs.Common.{arith}
use Rattle.dg_world.proofs.world.World.known.Goals as goal

pub has-requires : goal.has-requires
has-requires c = let x = c.requires in omega (arith, x.3, x.2.few_motes)

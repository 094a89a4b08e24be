use Rattle.std.proofs.Common.{arith}
use Rattle.dg_picture.proofs.drawing.drawn.Goals as goal

pub push_picture-requires-clause-grid : goal.push_picture-requires-clause-grid
push_picture-requires-clause-grid c = λ k h. let a = c.grid_for.ensures.fits k h in omega (arith, a, c.ranges.last)

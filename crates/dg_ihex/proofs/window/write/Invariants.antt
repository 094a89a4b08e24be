-- the rest of the block, written into the cells so far
use Rattle.std.proofs.Common.{◌≡◌, ◌+◌, drop}
use Rattle.dg_ihex.specs.Cells.{cells_written}
use Rattle.dg_ihex.proofs.window.write.Given as goal

abbrev pub invariant-loop-at : goal.invariant-loop-at
invariant-loop-at l = cells_written l.cells (l.from + l.at) (drop l.at l.bytes) ≡ cells_written l.fn.cells l.from l.bytes

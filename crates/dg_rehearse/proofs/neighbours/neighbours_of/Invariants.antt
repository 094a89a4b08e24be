use Rattle.std.proofs.Common.{take}
use Rattle.dg_rehearse.specs.Along.{AreNeighbours}
use Rattle.dg_rehearse.proofs.neighbours.neighbours_of.Given as goal

-- the other ends of the links so far are marked
abbrev pub invariant-loop-link : goal.invariant-loop-link
invariant-loop-link l = AreNeighbours l.marks (take l.link-index l.links) l.mote

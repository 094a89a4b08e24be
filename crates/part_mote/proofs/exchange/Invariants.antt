use Rattle.std.proofs.Common.{◌*◌}
use Rattle.dg_nor.specs.Board.{board_device}
use Rattle.dg_node.specs.Nodes.{IsTimelyNode}
use Rattle.part_mote.proofs.exchange.Given as goal

abbrev pub invariant-loop-number : goal.invariant-loop-number
invariant-loop-number l = record {
  first : IsTimelyNode (board_device l.left).image l.first (16 * l.number);
  second : IsTimelyNode (board_device l.right).image l.second (16 * l.number);
}

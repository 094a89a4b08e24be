use Rattle.std.proofs.Common.{◌≡◌, ◌≤◌, length, take}
use Rattle.dg_xmss.specs.Joining.{waiting_nodes, nodes_of}
use Rattle.dg_xmss.proofs.trees.ltree.Given as goal

abbrev pub invariant-loop-i : goal.invariant-loop-i
invariant-loop-i l =
    record {
      older : take l.waiting l.nodes ≡ waiting_nodes (nodes_of l.leaf) 7 0 l.i;
      room : l.waiting ≤ 7;
      long : length l.nodes ≡ 7;
    }

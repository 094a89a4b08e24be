use Rattle.std.proofs.Common.{◌≡◌, ◌-◌, ◌≤◌, length}
use Rattle.dg_xmss.specs.Joining.{nodes_of}
use Rattle.dg_xmss.proofs.WaitLemmas.{Joins}
use Rattle.dg_xmss.proofs.trees.join.Given as goal

abbrev pub invariant-loop-count : goal.invariant-loop-count
invariant-loop-count l =
    record {
      joins : Joins (nodes_of l.leaf) (7 - l.height) l.height l.count l.nodes l.size l.index;
      high : l.height ≤ 7;
      long : length l.nodes ≡ 7;
    }

abbrev pub decreases-loop-count : goal.decreases-loop-count
decreases-loop-count l = l.count

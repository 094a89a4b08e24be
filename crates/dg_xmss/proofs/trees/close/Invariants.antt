use Rattle.std.proofs.Common.{◌≡◌, ◌+◌, ◌-◌, length}
use Rattle.dg_xmss.specs.Joining.{AreWaiting, nodes_of}
use Rattle.dg_xmss.proofs.trees.close.Given as goal

abbrev pub invariant-loop-height : goal.invariant-loop-height
invariant-loop-height l =
    record {
      waits : AreWaiting (nodes_of l.leaf) (7 - l.height) l.height l.index l.nodes l.size;
      last : length (nodes_of l.leaf l.height) ≡ l.index + 1;
    }

use Rattle.std.proofs.Common.{◌≡◌, [], length, drop, get_or}
use Rattle.dg_xmss.specs.Trees.{path_root}
use Rattle.dg_xmss.specs.Signatures.{path_of}
use Rattle.dg_xmss.proofs.trees.climb.Given as goal

abbrev pub invariant-loop-k : goal.invariant-loop-k
invariant-loop-k l =
    record {
      root : path_root l.prf.seed.now l.k l.index (get_or l.nodes 0 []) (drop l.k (path_of l.signature)) ≡ path_root l.prf.seed.now 0 l.leaf (get_or l.initial.nodes 0 []) (path_of l.signature);
      long : length l.nodes ≡ 7;
    }

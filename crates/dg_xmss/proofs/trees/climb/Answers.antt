use Rattle.std.proofs.Common.{◌≡◌, [], get_or, refl, ◌∙◌, arith}
use Rattle.std.proofs.lemmas.List.{length-set}
use Rattle.dg_xmss.specs.Trees.{path_root}
use Rattle.dg_xmss.specs.Signatures.{path_of}
use Rattle.dg_xmss.proofs.TreeLemmas.{climb_more, path_end}
use Rattle.dg_xmss.proofs.trees.climb.Goals as goal

pub loop-k-preserved : goal.loop-k-preserved
loop-k-preserved c =
    let l = c.loop-k in
    let seed = c.args.prf.now.seed.now in
    record {
      root = climb_more seed c.args.signature.now l.k l.index l.nodes _ _ _ c.parent.result (path_root seed 0 c.args.leaf (get_or c.args.nodes.now 0 []) (path_of c.args.signature.now))
          l.invariant.long c.loop-k-test.true c.path_node.ensures refl refl c.parent.ensures l.invariant.root;
      long = length-set _ _ _ ∙ length-set _ _ _ ∙ l.invariant.long;
    }

pub returns : goal.returns
returns c =
    let l = c.loop-k in
    let seed = c.args.prf.now.seed.now in
    let end : l.k ≡ 10 = omega arith in
    path_end seed c.args.signature.now l.k l.index (get_or l.nodes 0 []) (path_root seed 0 c.args.leaf (get_or c.args.nodes.now 0 []) (path_of c.args.signature.now)) end l.invariant.root

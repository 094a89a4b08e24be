use Rattle.std.proofs.Common.{◌≡◌, ◌%◌, ◌∙◌, sym, arith}
use Rattle.dg_xmss.proofs.TreeLemmas.{parent_even, parent_odd}
use Rattle.dg_xmss.proofs.trees.parent.Goals as goal

pub returns-then-index-eq0 : goal.returns-then-index-eq0
returns-then-index-eq0 c =
    c.rand_hash.ensures ∙ sym (parent_even c.args.prf.now.seed.now c.args.height c.args.index c.args.node.now c.args.beside.now c.if-index-eq0.true)

pub returns : goal.returns
returns c =
    let odd : c.args.index % 2 ≡ 1 = omega arith in
    c.rand_hash-2.ensures ∙ sym (parent_odd c.args.prf.now.seed.now c.args.height c.args.index c.args.node.now c.args.beside.now odd)

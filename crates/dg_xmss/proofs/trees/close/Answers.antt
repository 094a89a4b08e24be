use Rattle.std.proofs.Common.{◌≡◌, ◌-◌, ◌+◌, ◌/◌, length, ap, ◌∙◌, subst, arith}
use Rattle.dg_xmss.specs.Joining.{AreWaiting, leaf_key, nodes_of}
use Rattle.dg_xmss.proofs.WaitLemmas.{first_nodes, last_more, root_waits}
use Rattle.dg_xmss.proofs.trees.close.Goals as goal

pub loop-height-init : goal.loop-height-init
loop-height-init c =
    let leaf = c.args.leaf.now in
    record { waits = c.requires.waits; last = ap length (first_nodes leaf.prf.now.seed.now leaf.index (leaf_key leaf)) ∙ c.requires.size }

pub loop-height-preserved : goal.loop-height-preserved
loop-height-preserved c =
    let leaf = c.args.leaf.now in
    let h = c.loop-height.height in
    let n : 6 - h ≡ 7 - (h + 1) = omega arith in
    record {
      waits = subst (λ z. AreWaiting (nodes_of leaf) z (h + 1) (c.loop-height.index / 2) c.close_at-size.new.nodes c.close_at-size.result) n c.close_at-size.ensures;
      last = last_more leaf.prf.now.seed.now leaf.index (leaf_key leaf) h c.loop-height.index c.loop-height.invariant.last;
    }

pub returns : goal.returns
returns c =
    let leaf = c.args.leaf.now in
    let l = c.loop-height in
    let end : l.height ≡ 7 = omega arith in
    let none : 7 - l.height ≡ 0 = omega arith in
    root_waits leaf.prf.now.seed.now leaf.index (leaf_key leaf) (7 - l.height) l.height l.index l.nodes l.size none end c.requires.size l.invariant.last l.invariant.waits

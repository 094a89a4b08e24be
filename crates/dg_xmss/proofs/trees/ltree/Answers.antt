use Rattle.std.proofs.Common.{◌≡◌, ◌<◌, length, refl, sym, ◌∙◌, ap, arith}
use Rattle.dg_xmss.specs.Joining.{waiting_nodes, nodes_of}
use Rattle.dg_xmss.proofs.ChainLemmas.{length-leaf_key, leaf_key_at}
use Rattle.dg_xmss.proofs.WaitLemmas.{none_wait, few_wait, waits_new}
use Rattle.dg_xmss.proofs.trees.ltree.Goals as goal

pub loop-i-init : goal.loop-i-init
loop-i-init c = record { older = sym (none_wait (nodes_of c.args.leaf.now)); room = omega arith; long = c.told-nodes }

pub bounds-nodes-waiting : goal.bounds-nodes-waiting
bounds-nodes-waiting c =
    let l = c.loop-i in
    let low : l.i < 67 = omega arith in
    few_wait (nodes_of c.args.leaf.now) l.nodes l.waiting l.i l.invariant.long l.invariant.room low l.invariant.older

pub join-waiting-requires-clause-few : goal.join-waiting-requires-clause-few
join-waiting-requires-clause-few c = omega (arith, length-leaf_key c.args.leaf.now)

pub join-waiting-requires-clause-waits : goal.join-waiting-requires-clause-waits
join-waiting-requires-clause-waits c =
    let l = c.loop-i in
    let low : l.i < 67 = omega arith in
    let few : l.waiting < 7 = few_wait (nodes_of c.args.leaf.now) l.nodes l.waiting l.i l.invariant.long l.invariant.room low l.invariant.older in
    let room : l.waiting < length l.nodes = omega (arith, few, l.invariant.long) in
    waits_new (nodes_of c.args.leaf.now) l.nodes _ l.waiting l.i _ room refl (c.chain_end.ensures ∙ sym (leaf_key_at c.args.leaf.now l.i low)) l.invariant.older

pub bounds-nodes-waiting-2 : goal.bounds-nodes-waiting-2
bounds-nodes-waiting-2 c =
    let l = c.loop-i in
    let low : l.i < 67 = omega arith in
    few_wait (nodes_of c.args.leaf.now) l.nodes l.waiting l.i l.invariant.long l.invariant.room low l.invariant.older

pub close-requires-clause-size : goal.close-requires-clause-size
close-requires-clause-size c = length-leaf_key c.args.leaf.now

pub close-requires-clause-waits : goal.close-requires-clause-waits
close-requires-clause-waits c =
    let l = c.loop-i in
    let low : l.i < 67 = omega arith in
    let last : l.i ≡ 66 = omega arith in
    let few : l.waiting < 7 = few_wait (nodes_of c.args.leaf.now) l.nodes l.waiting l.i l.invariant.long l.invariant.room low l.invariant.older in
    let room : l.waiting < length l.nodes = omega (arith, few, l.invariant.long) in
    waits_new (nodes_of c.args.leaf.now) l.nodes _ l.waiting 66 _ room refl (c.chain_end-2.ensures ∙ sym (leaf_key_at c.args.leaf.now 66 (omega arith)))
    (l.invariant.older ∙ ap (waiting_nodes (nodes_of c.args.leaf.now) 7 0) last)

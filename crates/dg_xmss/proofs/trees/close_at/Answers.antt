use Rattle.std.proofs.Common.{◌≡◌, suc, ◌-◌, ◌/◌, ◌%◌, ◌<◌, length, refl, arith}
use Rattle.dg_xmss.specs.Joining.{leaf_key, nodes_of}
use Rattle.dg_xmss.proofs.WaitLemmas.{odd_goes_up, some_waits, unite_waits}
use Rattle.dg_xmss.proofs.trees.close_at.Goals as goal

pub returns-then-index-eq0 : goal.returns-then-index-eq0
returns-then-index-eq0 c =
    let leaf = c.args.leaf.now in
    let n : 7 - c.args.height ≡ suc (6 - c.args.height) = omega arith in
    odd_goes_up leaf.prf.now.seed.now leaf.index (leaf_key leaf) (7 - c.args.height) (6 - c.args.height) c.args.height c.args.index c.args.nodes.now c.args.waiting (c.args.index / 2)
    n c.if-index-eq0.true c.requires.last refl c.requires.waits

pub overflow_sub-waiting : goal.overflow_sub-waiting
overflow_sub-waiting c =
    let n : 7 - c.args.height ≡ suc (6 - c.args.height) = omega arith in
    let odd : c.args.index % 2 ≡ 1 = omega arith in
    some_waits (nodes_of c.args.leaf.now) (7 - c.args.height) (6 - c.args.height) c.args.height c.args.index c.args.nodes.now c.args.waiting n odd c.requires.waits

pub overflow_sub-result : goal.overflow_sub-result
overflow_sub-result c =
    let n : 7 - c.args.height ≡ suc (6 - c.args.height) = omega arith in
    let odd : c.args.index % 2 ≡ 1 = omega arith in
    some_waits (nodes_of c.args.leaf.now) (7 - c.args.height) (6 - c.args.height) c.args.height c.args.index c.args.nodes.now c.args.waiting n odd c.requires.waits

pub returns : goal.returns
returns c =
    let leaf = c.args.leaf.now in
    let n : 7 - c.args.height ≡ suc (6 - c.args.height) = omega arith in
    let odd : c.args.index % 2 ≡ 1 = omega arith in
    let low : c.args.index < length (nodes_of leaf c.args.height) = omega (arith, c.requires.last) in
    unite_waits leaf.prf.now.seed.now leaf.index (leaf_key leaf) (7 - c.args.height) (6 - c.args.height) c.args.height c.args.index c.args.nodes.now c.unite.new.nodes c.args.waiting (c.args.waiting - 1) (c.args.index / 2)
    n odd low refl refl c.unite.ensures c.requires.waits

use Rattle.std.proofs.Common.{◌≡◌, ◌-◌, ◌+◌, ◌/◌, ◌%◌, ◌<◌, ◌≤◌, length, refl, ap, ◌∙◌, arith}
use Rattle.std.proofs.lemmas.List.{length-set}
use Rattle.dg_xmss.specs.Joining.{leaf_key, nodes_of}
use Rattle.dg_xmss.proofs.WaitLemmas.{first_nodes, joins_first, joins_some, joins_room, joins_more, joins_end}
use Rattle.dg_xmss.proofs.trees.join.Goals as goal

pub loop-count-init : goal.loop-count-init
loop-count-init c =
    let leaf = c.args.leaf.now in
    let first = ap length (first_nodes leaf.prf.now.seed.now leaf.index (leaf_key leaf)) in
    let few : c.args.index < length (nodes_of leaf 0) = omega (arith, first, c.requires.few) in
    record { joins = joins_first (nodes_of leaf) c.args.index c.args.nodes.now c.args.waiting c.requires.index few c.requires.waits; high = omega arith; long = c.told-nodes }

pub overflow_sub-size : goal.overflow_sub-size
overflow_sub-size c =
    let l = c.loop-count in
    joins_some (nodes_of c.args.leaf.now) (7 - l.height) l.height l.count l.nodes l.size c.args.index c.loop-count-test.true l.invariant.joins

pub unite-requires-clause-room : goal.unite-requires-clause-room
unite-requires-clause-room c =
    let l = c.loop-count in
    let some : 1 ≤ l.size = joins_some (nodes_of c.args.leaf.now) (7 - l.height) l.height l.count l.nodes l.size c.args.index c.loop-count-test.true l.invariant.joins in
    omega (arith, some, l.invariant.joins.waits.room, l.invariant.long)

pub loop-count-preserved : goal.loop-count-preserved
loop-count-preserved c =
    let leaf = c.args.leaf.now in
    let l = c.loop-count in
    let room : 1 ≤ 7 - l.height = joins_room (nodes_of leaf) (7 - l.height) l.height l.count l.nodes l.size c.args.index l.invariant.joins in
    let below : 7 - (l.height + 1) ≡ 7 - l.height - 1 = omega arith in
    record {
      joins = joins_more leaf.prf.now.seed.now leaf.index (leaf_key leaf) (7 - l.height) (7 - (l.height + 1)) l.height l.count l.nodes c.unite.new.nodes l.size (l.size - 1) (l.count / 2) c.args.index
          below c.loop-count-test.true refl refl c.unite.ensures l.invariant.joins;
      high = omega arith;
      long = ap length c.unite.ensures ∙ length-set _ _ _ ∙ l.invariant.long;
    }

pub overflow_add-result : goal.overflow_add-result
overflow_add-result c = omega (arith, c.loop-count.invariant.joins.waits.room, c.loop-count.invariant.long)

pub returns-clause-waits : goal.returns-clause-waits
returns-clause-waits c =
    let l = c.loop-count in
    let even : l.count % 2 ≡ 0 = omega arith in
    joins_end (nodes_of c.args.leaf.now) (7 - l.height) l.height l.count l.nodes l.size c.args.index even l.invariant.joins

pub returns-clause-room : goal.returns-clause-room
returns-clause-room c = omega (arith, c.loop-count.invariant.joins.waits.room, c.loop-count.invariant.long)

use Rattle.std.proofs.Common.{arith}
use Rattle.std.proofs.lemmas.List.{take_more}
use Rattle.dg_trial.proofs.BeginLemmas.{linked_first, links_more, links_all}
use Rattle.dg_trial.proofs.beginning.linked.Goals as goal

pub loop-link-init : goal.loop-link-init
loop-link-init c = linked_first c.args.motes c.in_ok-world.world c.in_ok-world.ensures.begins

pub loop-link-preserved : goal.loop-link-preserved
loop-link-preserved c = λ boards enough stands.
    links_more c.args.motes c.loop-link.link-index c.link.new.self boards c.args.links.now _ (take_more c.args.links.now c.loop-link.link-index _ c.loop-link-test.true)
    (c.link.ensures.linked boards _ (c.loop-link.invariant boards enough stands))

pub returns : goal.returns
returns c = λ boards enough stands. links_all c.args.motes c.loop-link.link-index c.loop-link.world boards c.args.links.now c.loop-link-test.false (omega arith) (c.loop-link.invariant boards enough stands)

use Rattle.std.proofs.Common.{subst}
use Rattle.std.proofs.lemmas.List.{take_more}
use Rattle.dg_world.specs.Worlds.{IsWorld}
use Rattle.dg_rehearse.proofs.BeginLemmas.{with_links, linked_first, links_more, links_all}
use Rattle.dg_rehearse.proofs.beginning.network_of.Goals as goal

pub loop-link-init : goal.loop-link-init
loop-link-init c = linked_first c.args.profile.now c.in_ok-world.world c.in_ok-world.ensures.begins

pub loop-link-preserved : goal.loop-link-preserved
loop-link-preserved c = λ boards enough stands.
    links_more c.args.profile.now c.loop-link.link-index c.link.new.self boards c.as_slice-link-items.result.now _ (take_more c.as_slice-link-items.result.now c.loop-link.link-index _ c.loop-link-test.true)
    (c.link.ensures.linked boards _ (c.loop-link.invariant boards enough stands))

pub returns : goal.returns
returns c = λ boards enough stands.
    subst (λ links. IsWorld c.loop-link.world boards (with_links c.args.profile.now links)) c.as_slice-link-items.ensures
    (links_all c.args.profile.now c.loop-link.link-index c.loop-link.world boards c.as_slice-link-items.result.now c.loop-link-test.false (c.loop-link.invariant boards enough stands))

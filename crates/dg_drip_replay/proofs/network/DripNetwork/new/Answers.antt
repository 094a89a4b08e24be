use Rattle.std.proofs.Common.{ℕ, ◌+◌, List, refl, sym, ap, ◌∙◌, subst, arith}
use Rattle.dg_drip.specs.Nodes.{Node, new_node}
use Rattle.dg_drip_replay.proofs.StartLemmas.{AreNew, new_none, new_more, stands_start}
use Rattle.dg_drip_replay.proofs.network.DripNetwork.new.Goals as goal

pub loop-id-init : goal.loop-id-init
loop-id-init c = subst (λ (xs : List Node). AreNew xs 0) (sym c.new-nodes.ensures.items) new_none

pub loop-id-preserved : goal.loop-id-preserved
loop-id-preserved c =
    subst (λ (xs : List Node). AreNew xs (c.loop-id.id + 1)) (sym c.in_ok-push.ensures.items)
    (new_more c.loop-id.nodes.items c.loop-id.id c.new.result c.loop-id.invariant (c.new.ensures ∙ ap (λ (i : ℕ). new_node i 0 0) c.from.ensures))

pub returns-clause-start : goal.returns-clause-start
returns-clause-start c = stands_start _ c.loop-id.id c.loop-id.invariant refl c.new-2.ensures.items c.new-3.ensures.items

pub returns-clause-nodes : goal.returns-clause-nodes
returns-clause-nodes c = omega (arith, c.loop-id.invariant.many, c.loop-id-test.false, c.loop-id.auto.id-end)

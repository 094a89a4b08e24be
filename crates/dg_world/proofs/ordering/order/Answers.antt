use Rattle.std.proofs.Common.{sym, subst, Ok, Err}
use Rattle.dg_control.specs.declared.snapshot.Order.{Order}
use Rattle.dg_volume.specs.Changes.{order_refusal}
use Rattle.dg_rules.specs.World.{site, store_at}
use Rattle.dg_rules.specs.Events.{order_unless}
use Rattle.dg_node.specs.Hosts.{host}
use Rattle.dg_world.specs.inner.ActOutcomes.{ordered_outcome}
use Rattle.dg_world.specs.inner.OutcomeEndings.{OutcomeEnds}
use Rattle.dg_world.proofs.ActingLemmas.{node_running, stands_in, order_ends}
use Rattle.dg_world.proofs.OutcomeLemmas.{told_as}
use Rattle.dg_world.proofs.ordering.order.Goals as goal

pub returns-in-Ok-clause-ends : goal.returns-in-Ok-clause-ends
returns-in-Ok-clause-ends g c = λ w m stands.
    let o : Order = record { number = c.args.number; image = c.args.image_version.image; version = c.args.image_version.version } in
    let a = g.N.Nor.device c.args.board.now in
    let b = g.N.Nor.device c.order.new.board in
    let s = store_at w m in
    let at = c.args.context.now.moment in
    let v = c.args.runs.now in
    told_as w m (order_unless (order_refusal s o) w m o at c.args.word) v c.order.new.runs a b _ (ordered_outcome c.in-Ok.ordered) c.note_ordered.ensures.outcome
    (order_ends w m at c.args.word v c.order.new.runs a b stands.mote (Ok c.in-Ok.ordered) (order_refusal s o) o (c.in-Ok.ensures.done (node_running (site w m).runs) s stands.stands (stands_in a.image v s (site w m).runs stands.mote)))

pub returns-in-Err-clause-ends : goal.returns-in-Err-clause-ends
returns-in-Err-clause-ends g c = λ w m stands.
    let o : Order = record { number = c.args.number; image = c.args.image_version.image; version = c.args.image_version.version } in
    let a = g.N.Nor.device c.args.board.now in
    let b = g.N.Nor.device c.order.new.board in
    let s = store_at w m in
    let at = c.args.context.now.moment in
    let v = c.args.runs.now in
    subst (λ h. OutcomeEnds (Err h) w m (order_unless (order_refusal s o) w m o at c.args.word) (host a v) (host b c.order.new.runs)) (sym c.act_fault.ensures)
    (order_ends w m at c.args.word v c.order.new.runs a b stands.mote (Err c.in-Err.fault) (order_refusal s o) o (c.in-Err.ensures.done (node_running (site w m).runs) s stands.stands (stands_in a.image v s (site w m).runs stands.mote)))

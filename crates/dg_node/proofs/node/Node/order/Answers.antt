use Rattle.std.proofs.Common.{refl, ap, ◌∙◌, Err, subst, sym}
use Rattle.dg_nor.specs.Device.{Device}
use Rattle.dg_volume.proofs.BeginLemmas.{begins_committing}
use Rattle.dg_volume.specs.Changes.{order_refusal}
use Rattle.dg_volume.specs.Trails.{order_trail}
use Rattle.dg_node.specs.Acts.{NodeOrdered, order_effect, mount_failed, is_orderly_ordered}
use Rattle.dg_node.specs.Known.{SeesOrder}
use Rattle.std.specs.Prelude.{IfOk}
use Rattle.dg_node.specs.Hosts.{host}
use Rattle.dg_node.specs.Nodes.{running_mote}
use Rattle.dg_node.specs.declared.acts.Change.{Change}
use Rattle.dg_node.proofs.ActLemmas.{mount_fails, handed, act_kept, order_fails, order_sees}
use Rattle.dg_node.proofs.KnownLemmas.{order_reads, mount_reads, order_volume, same_order}
use Rattle.dg_node.proofs.node.Node.order.Goals as goal

pub returns-in_err-volume-clause-done : goal.returns-in_err-volume-clause-done
returns-in_err-volume-clause-done g c = λ r s stands node.
    let a = g.N.Nor.device c.args.board.now in
    let b = g.N.Nor.device c.mount_known.new.board in
    let e = order_effect (running_mote r) s c.args.order c.args.now c.args.word in
    let refusal = order_refusal s c.args.order in
    let v = c.args.runs.now in
    handed (λ x. NodeOrdered x refusal e s (host a v) (host b v)) c.from_residual.result (mount_failed c.in_err-volume.field-0.0) c.from_residual.ensures.1
    (mount_fails c.in_err-volume.field-0.0 refusal e s v v a b (begins_committing s _) stands c.in_err-volume.ensures.done)

pub returns-in_err-volume-clause-reads : goal.returns-in_err-volume-clause-reads
returns-in_err-volume-clause-reads g c = mount_reads c.args.known _ _ c.a_volume_bounds_a_remount.ensures.one c.mount_known.ensures.took c.mount_known.ensures.same_image

pub reload-requires-clause-node : goal.reload-requires-clause-node
reload-requires-clause-node g c = ((g.N.Nor.device c.args.board.now).image, c.requires.node)

pub reload-requires-clause-free : goal.reload-requires-clause-free
reload-requires-clause-free g c = λ i. c.order.ensures.lent i ∙ c.in_ok-volume.ensures.done.free i

pub returns-in-Ok-clause-done : goal.returns-in-Ok-clause-done
returns-in-Ok-clause-done g c = λ r s stands node.
    let a = g.N.Nor.device c.args.board.now in
    let m = g.N.Nor.device c.mount_known.new.board in
    let b = g.N.Nor.device c.order.new.nor in
    let to = c.in_ok-volume.ensures.done in
    let mounted = to.mounted s stands in
    let acted = c.in-Ok.ensures.acted s mounted in
    let x : Change = record { before = c.report_chip-before.result; after = c.report_chip.result; orderly = c.orderly.result } in
    act_kept x (order_refusal s c.args.order) (running_mote r) (order_trail s c.args.order) c.args.now c.args.word s c.order.new.self c.args.runs.now c.reload.new.runs a m b (c.in-Ok.ensures.allowed s mounted) to.looked acted
    (c.report_chip-before.ensures s mounted.tells) (c.report_chip.ensures _ acted.mounted.tells) (c.orderly.ensures b.image acted.mounted.control) (c.reload.ensures a.image b.image s _ r node acted.mounted)

pub returns-in-Ok-clause-reads : goal.returns-in-Ok-clause-reads
returns-in-Ok-clause-reads g c = order_reads c.args.known _ (g.N.Nor.device c.mount_known.new.board) _ c.mount_known.ensures.took c.mount_known.ensures.same_image c.order.ensures.same_taken
    (let v = c.in_ok-volume.ensures.done.volume in let x = (c.in-Ok.ensures.acted v.0 v.1).mounted.stands in (_, x))
    c.order.ensures.orderly c.order.ensures.bytes

pub returns-in-Err-clause-done : goal.returns-in-Err-clause-done
returns-in-Err-clause-done g c = λ r s stands node.
    let a = g.N.Nor.device c.args.board.now in
    let m = g.N.Nor.device c.mount_known.new.board in
    let b = g.N.Nor.device c.order.new.nor in
    let to = c.in_ok-volume.ensures.done in
    let mounted = to.mounted s stands in
    let e = c.in-Err.ensures in
    let why = c.in-Err.why in
    let v = c.args.runs.now in
    let effect = order_effect (running_mote r) s c.args.order c.args.now c.args.word in
    let refusal = order_refusal s c.args.order in
    subst (λ x. NodeOrdered x refusal effect s (host a v) (host b v)) (sym c.order_failed.ensures)
    (order_fails c.report_chip-before.result c.orderly-in-Err.result effect s v a m b why refusal (e.allowed s mounted) (λ other. e.refused why refl other s mounted) to.looked (λ other. (e.unchanged why refl other).0)
    (λ is. e.stopped (ap (λ e. Err e) is) s mounted) (c.report_chip-before.ensures s mounted.tells)
    (λ other. let same = e.unchanged why refl other in same_order c.orderly-in-Err.result c.in_ok-volume.volume c.order.new.self m b (ap (λ (d : Device). d.image) same.0, same.1) mounted.control c.orderly-in-Err.ensures))

pub returns-in-Err-clause-reads : goal.returns-in-Err-clause-reads
returns-in-Err-clause-reads g c = order_reads c.args.known _ (g.N.Nor.device c.mount_known.new.board) _ c.mount_known.ensures.took c.mount_known.ensures.same_image c.order.ensures.same_taken
    (let v = c.in_ok-volume.ensures.done.volume in order_volume c.in-Err.why (g.N.Nor.device c.mount_known.new.board) _ (v.0, v.1.stands) (λ is. let x = (c.in-Err.ensures.stopped (ap (λ e. Err e) is) v.0 v.1).leaves in (x.store, x.stands_for)) (λ other. (c.in-Err.ensures.unchanged c.in-Err.why refl other).0))
    c.order.ensures.orderly c.order.ensures.bytes

pub returns-in_err-volume-clause-sees : goal.returns-in_err-volume-clause-sees
returns-in_err-volume-clause-sees g c =
    handed (λ y. IfOk y (λ x. SeesOrder (is_orderly_ordered x) (g.N.Nor.device c.mount_known.new.board).image)) c.from_residual.result (mount_failed c.in_err-volume.field-0.0) c.from_residual.ensures.1 tt

pub returns-in-Ok-clause-sees : goal.returns-in-Ok-clause-sees
returns-in-Ok-clause-sees g c =
    let v = c.in_ok-volume.ensures.done.volume in
    c.orderly.ensures (g.N.Nor.device c.order.new.nor).image (c.in-Ok.ensures.acted v.0 v.1).mounted.control

pub returns-in-Err-clause-sees : goal.returns-in-Err-clause-sees
returns-in-Err-clause-sees g c =
    let v = c.in_ok-volume.ensures.done.volume in
    let m = g.N.Nor.device c.mount_known.new.board in
    let b = g.N.Nor.device c.order.new.nor in
    let why = c.in-Err.why in
    subst (λ y. IfOk y (λ x. SeesOrder (is_orderly_ordered x) b.image)) (sym c.order_failed.ensures)
    (order_sees c.report_chip-before.result c.orderly-in-Err.result b.image why
    (λ other. let same = c.in-Err.ensures.unchanged why refl other in same_order c.orderly-in-Err.result c.in_ok-volume.volume c.order.new.self m b (ap (λ (d : Device). d.image) same.0, same.1) v.1.control c.orderly-in-Err.ensures))

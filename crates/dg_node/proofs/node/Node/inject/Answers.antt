use Rattle.std.proofs.Common.{refl, ap, Err, subst, sym}
use Rattle.dg_object.specs.Object.{Row, row_of}
use Rattle.dg_volume.proofs.BeginLemmas.{inject_begins}
use Rattle.dg_volume.specs.Changes.{inject_refusal}
use Rattle.dg_volume.specs.Trails.{inject_trail}
use Rattle.dg_volume.specs.declared.volume.InjectFault.TheVariants as inject
use Rattle.dg_node.specs.Acts.{NodeInjected, InjectTook, inject_effect, mount_failed, is_orderly_injected}
use Rattle.dg_node.specs.Known.{SeesOrder}
use Rattle.std.specs.Prelude.{IfOk}
use Rattle.dg_node.specs.Hosts.{host}
use Rattle.dg_node.specs.Nodes.{running_mote}
use Rattle.dg_node.specs.declared.acts.Change.{Change}
use Rattle.dg_node.proofs.ActLemmas.{mount_fails, handed, act_kept, inject_fails, inject_took, inject_sees, refused_trail, inject_same}
use Rattle.dg_node.proofs.KnownLemmas.{same_order}
use Rattle.dg_node.proofs.node.Node.inject.Goals as goal

pub returns-in_err-volume-clause-done : goal.returns-in_err-volume-clause-done
returns-in_err-volume-clause-done g c = λ r s stands node.
    let a = g.N.Nor.device c.args.board.now in
    let b = g.N.Nor.device c.mount_known.new.board in
    let x = c.args.image.now in
    let row : Row = row_of x.image_version.image x.image_version.version x.name.now x.bytes.now in
    let e = inject_effect (running_mote r) s row c.args.now c.args.word in
    let refusal = inject_refusal s row in
    let v = c.args.runs.now in
    handed (λ y. NodeInjected y refusal e s (host a v) (host b v)) c.from_residual.result (mount_failed c.in_err-volume.field-0.0) c.from_residual.ensures.1
    (mount_fails c.in_err-volume.field-0.0 refusal e s v v a b (inject_begins s row) stands c.in_err-volume.ensures.done)

pub returns-in_err-volume-clause-reads : goal.returns-in_err-volume-clause-reads
returns-in_err-volume-clause-reads g c = λ is n remount.
    handed (λ y. InjectTook y n (g.N.Nor.device c.args.board.now) (g.N.Nor.device c.mount_known.new.board)) c.from_residual.result (mount_failed c.in_err-volume.field-0.0) c.from_residual.ensures.1 tt

pub reload-requires-clause-node : goal.reload-requires-clause-node
reload-requires-clause-node g c = ((g.N.Nor.device c.args.board.now).image, c.requires.node)

pub reload-requires-clause-free : goal.reload-requires-clause-free
reload-requires-clause-free g c = c.in-Ok.ensures.free

pub returns-in-Ok-clause-done : goal.returns-in-Ok-clause-done
returns-in-Ok-clause-done g c = λ r s stands node.
    let a = g.N.Nor.device c.args.board.now in
    let m = g.N.Nor.device c.mount_known.new.board in
    let b = g.N.Nor.device c.inject.new.nor in
    let x = c.args.image.now in
    let row : Row = row_of x.image_version.image x.image_version.version x.name.now x.bytes.now in
    let to = c.in_ok-volume.ensures.done in
    let mounted = to.mounted s stands in
    let ends = c.in-Ok.ensures.ends s mounted in
    let change : Change = record { before = c.report_chip-before.result; after = c.report_chip.result; orderly = c.orderly.result } in
    act_kept change (inject_refusal s row) (running_mote r) (inject_trail s row) c.args.now c.args.word s c.inject.new.self c.args.runs.now c.reload.new.runs a m b ends.allowed to.looked ends.acted
    (c.report_chip-before.ensures s mounted.tells) (c.report_chip.ensures _ ends.acted.mounted.tells) (c.orderly.ensures b.image ends.acted.mounted.control) (c.reload.ensures a.image b.image s _ r node ends.acted.mounted)

pub returns-in-Err-clause-done : goal.returns-in-Err-clause-done
returns-in-Err-clause-done g c = λ r s stands node.
    let a = g.N.Nor.device c.args.board.now in
    let m = g.N.Nor.device c.mount_known.new.board in
    let b = g.N.Nor.device c.inject.new.nor in
    let x = c.args.image.now in
    let row : Row = row_of x.image_version.image x.image_version.version x.name.now x.bytes.now in
    let to = c.in_ok-volume.ensures.done in
    let mounted = to.mounted s stands in
    let e = c.in-Err.ensures in
    let ends = e.ends s mounted in
    let why = c.in-Err.why in
    let v = c.args.runs.now in
    let effect = inject_effect (running_mote r) s row c.args.now c.args.word in
    let refusal = inject_refusal s row in
    subst (λ y. NodeInjected y refusal effect s (host a v) (host b v)) (sym c.inject_failed.ensures)
    (inject_fails c.report_chip-before.result c.orderly-in-Err.result effect s v a m b why refusal ends.allowed (λ other. ends.refused why refl other) (λ taken. refused_trail s row inject.Taken taken) to.looked
    (λ other not_taken. (e.unchanged why refl other not_taken).0) (λ is. (e.taken (ap (λ e. Err e) is)).0) (λ is. ends.stopped (ap (λ e. Err e) is)) (c.report_chip-before.ensures s mounted.tells)
    (λ other. same_order c.orderly-in-Err.result c.in_ok-volume.volume c.inject.new.self m b (inject_same why _ _ _ _ (λ not_taken. e.unchanged why refl other not_taken) (λ is. e.taken (ap (λ e. Err e) is))) mounted.control c.orderly-in-Err.ensures))

pub returns-in-Err-clause-reads : goal.returns-in-Err-clause-reads
returns-in-Err-clause-reads g c = λ is n remount.
    let a = g.N.Nor.device c.args.board.now in
    let m = g.N.Nor.device c.mount_known.new.board in
    let b = g.N.Nor.device c.inject.new.nor in
    let e = c.in-Err.ensures in
    let why = c.in-Err.why in
    subst (λ y. InjectTook y n a b) (sym c.inject_failed.ensures)
    (inject_took c.report_chip-before.result c.orderly-in-Err.result a m b why n (c.mount_known.ensures.took is n remount) (λ other not_taken. (e.unchanged why refl other not_taken).0) (λ is. e.took (ap (λ e. Err e) is)))

pub returns-in_err-volume-clause-sees : goal.returns-in_err-volume-clause-sees
returns-in_err-volume-clause-sees g c =
    handed (λ y. IfOk y (λ x. SeesOrder (is_orderly_injected x) (g.N.Nor.device c.mount_known.new.board).image)) c.from_residual.result (mount_failed c.in_err-volume.field-0.0) c.from_residual.ensures.1 tt

pub returns-in-Ok-clause-sees : goal.returns-in-Ok-clause-sees
returns-in-Ok-clause-sees g c =
    let v = c.in_ok-volume.ensures.done.volume in
    c.orderly.ensures (g.N.Nor.device c.inject.new.nor).image (c.in-Ok.ensures.ends v.0 v.1).acted.mounted.control

pub returns-in-Err-clause-sees : goal.returns-in-Err-clause-sees
returns-in-Err-clause-sees g c =
    let v = c.in_ok-volume.ensures.done.volume in
    let m = g.N.Nor.device c.mount_known.new.board in
    let b = g.N.Nor.device c.inject.new.nor in
    let e = c.in-Err.ensures in
    let why = c.in-Err.why in
    subst (λ y. IfOk y (λ x. SeesOrder (is_orderly_injected x) b.image)) (sym c.inject_failed.ensures)
    (inject_sees c.report_chip-before.result c.orderly-in-Err.result b.image why
    (λ other. same_order c.orderly-in-Err.result c.in_ok-volume.volume c.inject.new.self m b (inject_same why _ _ _ _ (λ not_taken. e.unchanged why refl other not_taken) (λ is. e.taken (ap (λ e. Err e) is))) v.1.control c.orderly-in-Err.ensures))

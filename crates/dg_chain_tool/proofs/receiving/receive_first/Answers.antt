use Rattle.std.proofs.Common.{sym, ap, ◌∙◌, Err}
use Rattle.std.proofs.lemmas.Bool.{eqb-true}
use Rattle.dg_object.specs.Object.{row_of}
use Rattle.dg_end.specs.Conversions.{end_of_mount}
use Rattle.dg_tool.specs.Input.{end_of_image}
use Rattle.dg_tool.proofs.BoardLemmas.{some_of}
use Rattle.dg_tool.proofs.InputLemmas.{at_fed, fed_nothing}
use Rattle.dg_tool.proofs.TrailLemmas.{trail_unmounted, trail_first}
use Rattle.dg_chain_tool.specs.Receiving.{receive_trail}
use Rattle.dg_chain_tool.specs.inner.Words.{receive_to}
use Rattle.dg_chain_tool.proofs.ReceiveLemmas.{receive_needs, receive_begins, fed_receive, unfed_receive}
use Rattle.dg_chain_tool.proofs.receiving.receive_first.Goals as goal

pub returns-then-is_empty-clause-done : goal.returns-then-is_empty-clause-done
returns-then-is_empty-clause-done g c = fed_nothing g.N.Nor.device c.args.boards.now _ _ _ _ _ (eqb-true _ _ (sym c.is_empty.ensures ∙ c.if-is_empty.true))

pub returns-in_err-bytes-clause-done : goal.returns-in_err-bytes-clause-done
returns-in_err-bytes-clause-done g c =
    at_fed _ c.from_residual.result (end_of_image c.in_err-bytes.field-0.0) _ _ _ _ _ c.from_residual.ensures.1
    (unfed_receive g.N.Nor.device c.args.boards.now c.args.root.now (row_of c.args.image c.args.version c.args.name.now) _ c.in_err-bytes.field-0.0 _ _ (some_of _ (sym c.is_empty.ensures ∙ c.if-is_empty.false)) c.in_err-bytes.ensures.read)

pub returns-in_err-volume-clause-done : goal.returns-in_err-volume-clause-done
returns-in_err-volume-clause-done g c =
    let rows = row_of c.args.image c.args.version c.args.name.now in
    let row = rows c.in_ok-bytes.bytes.items in
    let x = c.in_err-volume in
    let some = some_of _ (sym c.is_empty.ensures ∙ c.if-is_empty.false) in
    at_fed _ c.from_residual-in_err-volume.result (end_of_mount x.field-0.0) _ _ _ _ _ c.from_residual-in_err-volume.ensures.1
    (fed_receive g.N.Nor.device c.args.boards.now c.args.root.now rows (λ image. image.items) c.in_ok-bytes.bytes _ _ _ _ some c.in_ok-bytes.ensures.read
    (trail_unmounted g.N.Nor.device c.args.boards.now _ _ _ (receive_to c.args.root.now row) (λ s. receive_trail c.args.root.now s row) some (receive_needs c.args.root.now row)
    (λ s. receive_begins c.args.root.now s row) x.field-0.0 (λ e. x.ensures.stopped (ap (λ f. Err f) e)) (λ e. x.ensures.not_a_volume (ap (λ f. Err f) e)) (λ e. x.ensures.refused (ap (λ f. Err f) e))))

pub returns-clause-done : goal.returns-clause-done
returns-clause-done g c =
    let rows = row_of c.args.image c.args.version c.args.name.now in
    let row = rows c.in_ok-bytes.bytes.items in
    let m = c.in_ok-volume.ensures in
    let did = rw c.deref.ensures.value at c.receive_mounted.ensures in
    fed_receive g.N.Nor.device c.args.boards.now c.args.root.now rows (λ image. image.items) c.in_ok-bytes.bytes _ _ _ _ (some_of _ (sym c.is_empty.ensures ∙ c.if-is_empty.false)) c.in_ok-bytes.ensures.read
    (trail_first g.N.Nor.device c.args.boards.now _ _ _ (receive_to c.args.root.now row) (λ s. receive_trail c.args.root.now s row) (some_of _ (sym c.is_empty.ensures ∙ c.if-is_empty.false)) (receive_needs c.args.root.now row)
    _ _ c.in_ok-volume.volume m.looked m.same_image m.volume m.mounted did)

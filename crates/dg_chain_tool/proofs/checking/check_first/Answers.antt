use Rattle.std.proofs.Common.{sym, ap, ◌∙◌, Err}
use Rattle.std.proofs.lemmas.Bool.{eqb-true}
use Rattle.dg_nor.specs.Reads.{Looked, ReadStopped}
use Rattle.dg_volume.specs.Store.{held}
use Rattle.dg_nor.proofs.ReadLemmas.{Looked_then, ReadStopped_after}
use Rattle.dg_end.specs.Conversions.{end_of_mount}
use Rattle.dg_chain_tool.specs.Verbs.{check_by}
use Rattle.dg_tool.proofs.BoardLemmas.{some_of, no_boards, at_boards, same_bytes}
use Rattle.dg_tool.proofs.TrailLemmas.{unmounted_first, acted_first}
use Rattle.dg_chain_tool.proofs.CheckLemmas.{check_needs}
use Rattle.dg_chain_tool.proofs.checking.check_first.Goals as goal

pub returns-then-is_empty-clause-done : goal.returns-then-is_empty-clause-done
returns-then-is_empty-clause-done g c = no_boards g.N.Nor.device c.args.boards.now _ _ _ _ _ (eqb-true _ _ (sym c.is_empty.ensures ∙ c.if-is_empty.true))

pub returns-in_err-volume-clause-done : goal.returns-in_err-volume-clause-done
returns-in_err-volume-clause-done g c =
    let x = c.in_err-volume in
    at_boards _ c.from_residual.result (end_of_mount x.field-0.0) _ _ _ _ c.from_residual.ensures.1
    (unmounted_first g.N.Nor.device c.args.boards.now _ _ ⊥ (λ s. check_by c.args.root.now (held s c.args.image)) (λ chip. Looked) (λ chip. ReadStopped) (some_of _ (sym c.is_empty.ensures ∙ c.if-is_empty.false)) (λ s. check_needs c.args.root.now (held s c.args.image))
    x.field-0.0 (λ chip stands h. h) (λ e. x.ensures.stopped (ap (λ f. Err f) e)) (λ e. x.ensures.not_a_volume (ap (λ f. Err f) e)) (λ e. x.ensures.refused (ap (λ f. Err f) e)))

pub returns-in_err-volume-clause-unchanged : goal.returns-in_err-volume-clause-unchanged
returns-in_err-volume-clause-unchanged g c = same_bytes g.N.Nor.device c.args.boards.now _ _ (some_of _ (sym c.is_empty.ensures ∙ c.if-is_empty.false)) c.in_err-volume.ensures.same_image

pub returns-clause-done : goal.returns-clause-done
returns-clause-done g c =
    let m = c.in_ok-volume.ensures in
    acted_first g.N.Nor.device c.args.boards.now _ _ ⊥ (λ s. check_by c.args.root.now (held s c.args.image)) (λ chip. Looked) (λ chip. ReadStopped) (some_of _ (sym c.is_empty.ensures ∙ c.if-is_empty.false)) (λ s. check_needs c.args.root.now (held s c.args.image))
    _ _ c.in_ok-volume.volume m.looked m.same_image m.volume m.mounted (λ s h. Looked_then m.looked h) (λ s h. ReadStopped_after m.looked h) c.check_mounted.ensures.done

pub returns-clause-unchanged : goal.returns-clause-unchanged
returns-clause-unchanged g c = same_bytes g.N.Nor.device c.args.boards.now _ _ (some_of _ (sym c.is_empty.ensures ∙ c.if-is_empty.false)) (c.check_mounted.ensures.unchanged ∙ c.in_ok-volume.ensures.same_image)

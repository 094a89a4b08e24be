use Rattle.std.proofs.Common.{sym, ap, ◌∙◌, Err, Ok, ℕ}
use Rattle.std.proofs.lemmas.Bool.{eqb-true}
use Rattle.dg_nor.specs.Reads.{Looked, ReadStopped}
use Rattle.dg_nor.proofs.ReadLemmas.{Looked_then, ReadStopped_after}
use Rattle.dg_end.specs.Conversions.{end_of_mount}
use Rattle.dg_tool.specs.Endings.{Acting}
use Rattle.dg_tool.specs.Verbs.{ping_text}
use Rattle.dg_tool.proofs.BoardLemmas.{some_of, no_boards, at_boards, same_bytes}
use Rattle.dg_tool.proofs.OutcomeLemmas.{made_store}
use Rattle.dg_tool.proofs.ReadLemmas.{reads_fail, reads_image}
use Rattle.dg_tool.proofs.TrailLemmas.{unmounted_first, acted_first}
use Rattle.dg_tool.proofs.pinging.ping_first.Goals as goal

pub returns-then-is_empty-clause-done : goal.returns-then-is_empty-clause-done
returns-then-is_empty-clause-done g c = no_boards g.N.Nor.device c.args.boards.now _ _ _ _ _ (eqb-true _ _ (sym c.is_empty.ensures ∙ c.if-is_empty.true))

pub returns-in_err-volume-clause-done : goal.returns-in_err-volume-clause-done
returns-in_err-volume-clause-done g c =
    let x = c.in_err-volume in
    at_boards _ c.from_residual.result (end_of_mount x.field-0.0) _ _ _ _ c.from_residual.ensures.1
    (unmounted_first g.N.Nor.device c.args.boards.now _ _ ⊥ (λ s. Acting (Ok (ping_text s))) (λ chip. Looked) (λ chip. ReadStopped) (some_of _ (sym c.is_empty.ensures ∙ c.if-is_empty.false)) (λ s. tt)
    x.field-0.0 (λ chip stands h. h) (λ e. x.ensures.stopped (ap (λ f. Err f) e)) (λ e. x.ensures.not_a_volume (ap (λ f. Err f) e)) (λ e. x.ensures.refused (ap (λ f. Err f) e)))

pub returns-in_err-volume-clause-unchanged : goal.returns-in_err-volume-clause-unchanged
returns-in_err-volume-clause-unchanged g c = same_bytes g.N.Nor.device c.args.boards.now _ _ (some_of _ (sym c.is_empty.ensures ∙ c.if-is_empty.false)) c.in_err-volume.ensures.same_image

pub returns-in_err-text-clause-done : goal.returns-in_err-text-clause-done
returns-in_err-text-clause-done g c =
    let m = c.in_ok-volume.ensures in
    let x = c.in_err-text in
    at_boards _ c.from_residual-in_err-text.result x.field-0.0 _ _ _ _ c.from_residual-in_err-text.ensures.1
    (acted_first g.N.Nor.device c.args.boards.now _ _ ⊥ (λ s. Acting (Ok (ping_text s))) (λ chip. Looked) (λ chip. ReadStopped) (some_of _ (sym c.is_empty.ensures ∙ c.if-is_empty.false)) (λ s. tt)
    _ _ c.in_ok-volume.volume m.looked m.same_image m.volume m.mounted (λ s h. Looked_then m.looked h) (λ s h. ReadStopped_after m.looked h)
    (λ s there. reads_fail ℕ x.field-0.0 (Acting (Ok (ping_text s))) Looked _ _ tt x.ensures.ends))

pub returns-in_err-text-clause-unchanged : goal.returns-in_err-text-clause-unchanged
returns-in_err-text-clause-unchanged g c =
    same_bytes g.N.Nor.device c.args.boards.now _ _ (some_of _ (sym c.is_empty.ensures ∙ c.if-is_empty.false)) (reads_image c.ping_mounted.result _ _ c.ping_mounted.ensures.ends ∙ c.in_ok-volume.ensures.same_image)

pub returns-clause-done : goal.returns-clause-done
returns-clause-done g c =
    let m = c.in_ok-volume.ensures in
    let x = c.in_ok-text.ensures in
    acted_first g.N.Nor.device c.args.boards.now _ _ ⊥ (λ s. Acting (Ok (ping_text s))) (λ chip. Looked) (λ chip. ReadStopped) (some_of _ (sym c.is_empty.ensures ∙ c.if-is_empty.false)) (λ s. tt)
    _ _ c.in_ok-volume.volume m.looked m.same_image m.volume m.mounted (λ s h. Looked_then m.looked h) (λ s h. ReadStopped_after m.looked h)
    (λ s there. made_store Looked ReadStopped _ _ c.in_ok-text.text.items (ping_text s) (x.told s there) x.ends)

pub returns-clause-unchanged : goal.returns-clause-unchanged
returns-clause-unchanged g c =
    same_bytes g.N.Nor.device c.args.boards.now _ _ (some_of _ (sym c.is_empty.ensures ∙ c.if-is_empty.false)) (reads_image c.ping_mounted.result _ _ c.ping_mounted.ensures.ends ∙ c.in_ok-volume.ensures.same_image)

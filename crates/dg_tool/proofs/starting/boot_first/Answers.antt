use Rattle.std.proofs.Common.{sym, ap, ◌∙◌, Err}
use Rattle.std.proofs.lemmas.Bool.{eqb-true}
use Rattle.dg_end.specs.Conversions.{end_of_boot}
use Rattle.dg_end.specs.declared.ends.End.TheVariants as ends
use Rattle.dg_tool.proofs.BoardLemmas.{some_of, no_boards, at_boards}
use Rattle.dg_tool.proofs.StartLemmas.{boot_started, boot_wants, boot_done, boot_fails}
use Rattle.dg_tool.proofs.starting.boot_first.Goals as goal

pub returns-then-is_empty : goal.returns-then-is_empty
returns-then-is_empty g c = no_boards g.N.Nor.device c.args.boards.now _ _ _ _ _ (eqb-true _ _ (sym c.is_empty.ensures ∙ c.if-is_empty.true))

pub returns-in_err-started : goal.returns-in_err-started
returns-in_err-started g c =
    let x = c.in_err-started in
    at_boards _ c.from_residual.result (end_of_boot x.field-0.0) _ _ _ _ c.from_residual.ensures.1
    (boot_fails g.N.Nor.device c.args.boards.now _ _ (some_of _ (sym c.is_empty.ensures ∙ c.if-is_empty.false)) x.field-0.0
    (λ e. x.ensures.stopped (ap (λ f. Err f) e)) (λ e. x.ensures.no_volume (ap (λ f. Err f) e)) (λ e. x.ensures.cause (ap (λ f. Err f) e)) (λ e. x.ensures.not_a_volume (ap (λ f. Err f) e)) (λ e. x.ensures.no_image (ap (λ f. Err f) e)) (λ e. x.ensures.of_a_volume (ap (λ f. Err f) e)))

pub returns-in_err-line : goal.returns-in_err-line
returns-in_err-line g c =
    let x = c.in_ok-started.ensures in
    at_boards _ c.from_residual-in_err-line.result ends.Memory _ _ _ _ c.from_residual-in_err-line.ensures.1
    (boot_done g.N.Nor.device c.args.boards.now _ _ (some_of _ (sym c.is_empty.ensures ∙ c.if-is_empty.false)) _ (λ s stands. boot_wants s _ _ c.in_ok-started.started (x.started s stands)) x.volume)

pub returns : goal.returns
returns g c =
    let x = c.in_ok-started.ensures in
    boot_done g.N.Nor.device c.args.boards.now _ _ (some_of _ (sym c.is_empty.ensures ∙ c.if-is_empty.false)) _
    (λ s stands. boot_started s _ _ c.in_ok-started.started c.in_ok-line.line.items c.in_ok-line.ensures (x.started s stands)) x.volume

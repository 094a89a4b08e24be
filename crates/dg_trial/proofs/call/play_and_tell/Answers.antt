use Rattle.std.proofs.Common.{refl, arith}
use Rattle.std.proofs.lemmas.Result.{err_from_is_err_and}
use Rattle.std.proofs.lemmas.List.{length-map}
use Rattle.dg_trial.proofs.EndLemmas.{line_told, run_fails}
use Rattle.dg_trial.proofs.call.play_and_tell.Goals as goal

pub returns-then-len-from : goal.returns-then-len-from
returns-then-len-from g c =
    let e = length-map c.args.boards.now.items g.N.Nor.device in
    (record { missing = omega (arith, e); same = refl }, refl, omega (arith, e))

pub returns-in_err-summary : goal.returns-in_err-summary
returns-in_err-summary g c =
    let e = length-map c.args.boards.now.items g.N.Nor.device in
    let p = err_from_is_err_and c.from_residual.result c.from_residual.ensures.1 in
    rw (p.1, p.2) (run_fails c.in_err-summary.field-0.0 c.args.motes c.args.pages c.args.seed _ _ (omega (arith, e)) c.in_err-summary.ensures)

pub returns : goal.returns
returns g c =
    let e = length-map c.args.boards.now.items g.N.Nor.device in
    line_told (λ text. text.items) c.line_of_summary.result c.args.motes c.args.pages c.args.seed _ _ c.in_ok-summary.summary (omega (arith, e)) c.in_ok-summary.ensures c.line_of_summary.ensures.line c.line_of_summary.ensures.memory

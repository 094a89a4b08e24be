use Rattle.std.proofs.Common.{List, ℕ, ◌++◌, refl, ap, ◌∙◌}
use Rattle.std.proofs.lemmas.Result.{err_from_is_err_and}
use Rattle.dg_trial.specs.Trials.{summary_line}
use Rattle.dg_trial.proofs.summary.line_of_summary.Goals as goal

pub returns-in_err-push_summary-clause-memory : goal.returns-in_err-push_summary-clause-memory
returns-in_err-push_summary-clause-memory c =
    let p = err_from_is_err_and c.from_residual.result c.from_residual.ensures.1 in
    rw (p.1, p.2) refl

pub returns-clause-line : goal.returns-clause-line
returns-clause-line c =
    let s = c.args.summary.now in
    c.in_ok-push_summary.ensures ∙ ap (λ (t : List ℕ). t ++ summary_line s.motes s.pages s.sweeps s.events s.whole) c.new-text.ensures.items

use Rattle.std.proofs.Common.{ℕ, List, ◌++◌, Ok, inl, ap, sym, ◌∙◌, eqb-true}
use Rattle.dg_script.specs.Report.{report_line}
use Rattle.dg_lines.proofs.ReportReadingLemmas.{said_again, line_some, on_ok, not_written}
use Rattle.dg_lines.proofs.report_reading.read_report.Goals as goal

pub returns-then-is_empty-clause-written : goal.returns-then-is_empty-clause-written
returns-then-is_empty-clause-written c = λ r f e. absurd (line_some r c.args.line.now e (eqb-true _ _ (sym c.is_empty.ensures ∙ c.if-is_empty.true)))

pub returns-then-not-is_same-clause-written : goal.returns-then-not-is_same-clause-written
returns-then-not-is_same-clause-written c = λ r f e.
    let w = on_ok c.write_report.result (sym c.is_err.ensures.value ∙ c.if-is_err.false) c.write_report.ensures.ok in
    let text = c.deref.ensures.value ∙ w ∙ ap (λ (xs : List ℕ). xs ++ report_line c.said-report.result) c.clear.ensures.items in
    absurd (not_written r c.said-report.result c.args.line.now c.deref.result.now (c.said-report.ensures ∙ said_again r c.args.line.now f e) text e (sym c.is_same.ensures ∙ c.if-not-is_same.true))

pub returns-clause-written : goal.returns-clause-written
returns-clause-written c = λ r f e. inl (ap Ok (c.said-report.ensures ∙ said_again r c.args.line.now f e))

use Rattle.std.proofs.Common.{◌≡◌, ◌++◌, take}
use Rattle.dg_script.specs.Report.{report_text}
use Rattle.dg_replay.proofs.items.push_reports.Given as goal

-- the reports so far are appended
abbrev pub invariant-loop-report : goal.invariant-loop-report
invariant-loop-report l = l.text.items ≡ l.initial.text.items ++ report_text (take l.report-index l.reports)

use Rattle.std.proofs.Common.{◌≡◌, Err, ap, rules}
use Rattle.dg_lines.specs.declared.report_reading.ReportFault.{ReportFault}
use Rattle.dg_lines.specs.declared.report_reading.ReportFault.TheVariants.{NoReport}
use Rattle.dg_story.proofs.LineLemmas.{rest_no_line}
use Rattle.dg_story.proofs.lines.read_stamped.Goals as goal

pub returns-in-Err-clause-none : goal.returns-in-Err-clause-none
returns-in-Err-clause-none c = λ e.
    let f : c.in-Err.fault ≡ NoReport = cc in
    rest_no_line _ _ c.in-Some.stamp (search rules) c.in-Some.ensures (c.in-Err.ensures.none (ap (λ (x : ReportFault). Err x) f))

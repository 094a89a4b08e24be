use Rattle.std.proofs.Common.{◌≡◌, List, Some, ap}
use Rattle.std.specs.Prelude.{slice_get}
use Rattle.dg_script.specs.declared.report.Report.{Report}
use Rattle.dg_script.specs.declared.report.Report.TheVariants.{End}
use Rattle.dg_trial.proofs.summary.count_events.Goals as goal

pub returns-in-Some : goal.returns-in-Some
returns-in-Some c = λ events rest e.
    let at = c.in-Some.ensures.value in
    let is : slice_get c.args.reports.now 0 ≡ Some (End events) = ap (λ (xs : List Report). slice_get xs 0) e in
    c.events_in.ensures events cc

pub returns-in-None : goal.returns-in-None
returns-in-None c = λ events rest e.
    let at = c.in-None.ensures.value in
    let is : slice_get c.args.reports.now 0 ≡ Some (End events) = ap (λ (xs : List Report). slice_get xs 0) e in
    cc

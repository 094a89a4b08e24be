use Rattle.std.proofs.Common.{sym, ap, ◌∙◌}
use Rattle.std.proofs.lemmas.List.{take_all, take_more}
use Rattle.dg_rehearse.specs.Courses.{noted_line, noted_lines, with_progress}
use Rattle.dg_rehearse.proofs.NoteLemmas.{noted_none, noted_more, noted_all}
use Rattle.dg_rehearse.proofs.progress.Progress.note.Goals as goal

pub loop-report-init : goal.loop-report-init
loop-report-init c = λ a. noted_none c.args.plan.now (with_progress a c.args.self.now)

pub loop-report-preserved : goal.loop-report-preserved
loop-report-preserved c = λ a.
    noted_more c.args.plan.now (with_progress a c.args.self.now) (with_progress a c.loop-report.self) (with_progress a c.note_one.new.self) c.args.reports.now c.loop-report.report-index _ c.loop-report-test.true (c.loop-report.invariant a) (c.note_one.ensures a)

pub returns : goal.returns
returns c = λ a. noted_all c.args.plan.now (with_progress a c.args.self.now) (with_progress a c.loop-report.self) c.args.reports.now c.loop-report.report-index c.loop-report-test.false (c.loop-report.invariant a)

use Rattle.std.proofs.Common.{◌≡◌, take}
use Rattle.dg_rehearse.specs.Courses.{Agenda, with_progress, noted_lines}
use Rattle.dg_rehearse.proofs.progress.Progress.note.Given as goal

-- so many lines are noted
abbrev pub invariant-loop-report : goal.invariant-loop-report
invariant-loop-report l = (a : Agenda) → with_progress a l.self ≡ noted_lines l.plan (with_progress a l.initial.self) (take l.report-index l.reports)

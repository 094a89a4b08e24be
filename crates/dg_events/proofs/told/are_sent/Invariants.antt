use Rattle.std.proofs.Common.{◌≡◌, take}
use Rattle.dg_events.specs.Told.{nothing_told, told_by}
use Rattle.dg_events.proofs.told.are_sent.Given as goal

-- no outcome is told by the lines so far
abbrev pub invariant-loop-report : goal.invariant-loop-report
invariant-loop-report l = told_by (take l.report-index l.reports) ≡ nothing_told

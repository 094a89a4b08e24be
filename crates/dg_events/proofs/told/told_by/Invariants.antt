use Rattle.std.proofs.Common.{◌≡◌, take}
use Rattle.dg_events.specs.Told.{told_by}
use Rattle.dg_events.proofs.told.told_by.Given as goal

-- the outcome by the lines so far
abbrev pub invariant-loop-report : goal.invariant-loop-report
invariant-loop-report l = l.told ≡ told_by (take l.report-index l.reports)

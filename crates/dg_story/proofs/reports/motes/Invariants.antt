use Rattle.std.proofs.Common.{◌≡◌, ◌≤◌, max, take}
use Rattle.std.specs.List.{fold}
use Rattle.dg_story.specs.Reports.{report_motes}
use Rattle.dg_story.proofs.reports.motes.Given as goal

-- what holds after the lines so far
abbrev pub invariant-loop-here : goal.invariant-loop-here
invariant-loop-here l = (l.motes ≡ fold (λ n t. max n (report_motes t.report)) 0 (take l.here-index l.told)) × (l.motes ≤ 256)

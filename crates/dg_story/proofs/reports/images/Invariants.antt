use Rattle.std.proofs.Common.{◌≡◌, max, take}
use Rattle.std.specs.List.{fold}
use Rattle.dg_story.specs.Reports.{report_image}
use Rattle.dg_story.proofs.reports.images.Given as goal

-- what holds after the lines so far
abbrev pub invariant-loop-here : goal.invariant-loop-here
invariant-loop-here l = l.images ≡ fold (λ n t. max n (report_image t.report)) 0 (take l.here-index l.told)

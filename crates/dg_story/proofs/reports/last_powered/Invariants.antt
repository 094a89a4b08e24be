use Rattle.std.proofs.Common.{◌≡◌, take}
use Rattle.std.specs.List.{fold}
use Rattle.dg_story.specs.Reports.{powered}
use Rattle.dg_story.proofs.reports.last_powered.Given as goal

-- what holds after the lines so far
abbrev pub invariant-loop-here : goal.invariant-loop-here
invariant-loop-here l = l.on ≡ fold (λ on t. powered l.mote on t.report) l.initial.on (take l.here-index l.told)

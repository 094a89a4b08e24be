use Rattle.std.proofs.Common.{◌≡◌, ◌++◌, take}
use Rattle.std.specs.List.{filter}
use Rattle.dg_story.specs.Reports.{is_change}
use Rattle.dg_layout.proofs.changing.keep_changes.Given as goal

-- what holds after the lines so far
abbrev pub invariant-loop-here : goal.invariant-loop-here
invariant-loop-here l = l.changes.items ≡ l.initial.changes.items ++ filter (λ t. is_change t.report) (take l.here-index l.told)

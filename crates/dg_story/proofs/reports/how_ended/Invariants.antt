use Rattle.std.proofs.Common.{◌≡◌, take}
use Rattle.std.specs.List.{fold}
use Rattle.dg_story.specs.Reports.{ended_by}
use Rattle.dg_story.specs.declared.reports.Ended.TheVariants.{Untold}
use Rattle.dg_story.proofs.reports.how_ended.Given as goal

-- what holds after the lines so far
abbrev pub invariant-loop-here : goal.invariant-loop-here
invariant-loop-here l = l.how ≡ fold (λ how t. ended_by l.mote how t.report) Untold (take l.here-index l.told)

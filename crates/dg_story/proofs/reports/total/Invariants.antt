use Rattle.std.proofs.Common.{◌≡◌, take, None}
use Rattle.std.specs.List.{fold}
use Rattle.dg_story.specs.Reports.{kept_at_end}
use Rattle.dg_story.proofs.reports.total.Given as goal

-- what holds after the lines so far
abbrev pub invariant-loop-here : goal.invariant-loop-here
invariant-loop-here l = l.kept ≡ fold (λ kept t. kept_at_end l.mote l.image kept t.report) None (take l.here-index l.told)

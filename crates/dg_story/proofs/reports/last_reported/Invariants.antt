use Rattle.std.proofs.Common.{◌≡◌, take}
use Rattle.std.specs.List.{fold}
use Rattle.dg_story.specs.Reports.{reported}
use Rattle.dg_story.proofs.reports.last_reported.Given as goal

-- what holds after the lines so far
abbrev pub invariant-loop-here : goal.invariant-loop-here
invariant-loop-here l = l.kept ≡ fold (λ kept t. reported l.mote l.image kept t.report) l.initial.kept (take l.here-index l.told)

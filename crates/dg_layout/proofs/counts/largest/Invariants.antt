use Rattle.std.proofs.Common.{◌≡◌, take}
use Rattle.std.proofs.Common.{ℕ}
use Rattle.dg_layout.specs.Counts.{held}
use Rattle.dg_story.specs.Reports.{largest}
use Rattle.dg_layout.proofs.counts.largest.Given as goal

-- what holds after the lines so far
abbrev pub invariant-loop-here : goal.invariant-loop-here
invariant-loop-here l = (version : ℕ) → held l.counts version ≡ largest l.image version (take l.here-index l.told)

use Rattle.std.proofs.Common.{◌≡◌, ◌+◌, ◌++◌}
use Rattle.dg_trial.specs.Schedule.{line_links}
use Rattle.dg_trial.proofs.beginning.line.Given as goal

-- the links from this mote on are made
abbrev pub invariant-loop-far : goal.invariant-loop-far
invariant-loop-far l = l.links.items ++ line_links (l.far + 1) ≡ line_links l.motes

abbrev pub decreases-loop-far : goal.decreases-loop-far
decreases-loop-far l = l.far

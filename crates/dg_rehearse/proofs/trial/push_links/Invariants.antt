use Rattle.std.proofs.Common.{◌≡◌, ◌++◌, take}
use Rattle.dg_rehearse.specs.TrialScripts.{link_lines}
use Rattle.dg_rehearse.proofs.trial.push_links.Given as goal

-- the lines of this many links are appended
abbrev pub invariant-loop-link : goal.invariant-loop-link
invariant-loop-link l = l.lines.items ≡ l.fn.lines.items ++ link_lines (take l.link-index l.links)

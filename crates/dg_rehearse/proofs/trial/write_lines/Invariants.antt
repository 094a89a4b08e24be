use Rattle.std.proofs.Common.{◌≡◌, ◌++◌, take}
use Rattle.dg_rehearse.specs.Rehearsed.{written_lines}
use Rattle.dg_rehearse.proofs.trial.write_lines.Given as goal

-- this many lines are written
abbrev pub invariant-loop-line : goal.invariant-loop-line
invariant-loop-line l = l.script.items ≡ l.fn.script.items ++ written_lines (take l.line-index l.lines)

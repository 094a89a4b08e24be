use Rattle.std.proofs.Common.{◌≡◌, ◌++◌}
use Rattle.std.specs.List.{flat_map}
use Rattle.dg_rehearse.specs.Rehearsed.{step_lines}
use Rattle.dg_rehearse.proofs.trial.push_steps.Given as goal

-- the lines of the steps so far are appended
abbrev pub invariant-loop-step : goal.invariant-loop-step
invariant-loop-step l = l.lines.items ≡ l.fn.lines.items ++ flat_map step_lines l.yielded

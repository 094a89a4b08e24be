use Rattle.std.proofs.Common.{ℕ, ◌<◌, ◌≤◌, get_or}
use Rattle.dg_layout.proofs.layout.step_among.Given as goal

-- no step so far reaches the end
abbrev pub invariant-loop-step : goal.invariant-loop-step
invariant-loop-step l = (k : ℕ) → k < l.step-index → get_or l.steps k 0 ≤ l.least

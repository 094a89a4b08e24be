use Rattle.dg_trickle.specs.Runs.{timer}
use Rattle.dg_trickle.proofs.RunLaws.{IsRunning-after, IsRunning-timer, IsDoubled-timer, doubles_or_falls}
use Rattle.dg_trickle.proofs.interval_bounds.Goals as goal

pub returns-clause-running : goal.returns-clause-running
returns-clause-running c = IsRunning-timer

pub returns-clause-sizes : goal.returns-clause-sizes
returns-clause-sizes c = IsDoubled-timer

pub returns-clause-changes : goal.returns-clause-changes
returns-clause-changes c = λ start word earlier call. doubles_or_falls (timer start word earlier) call (IsDoubled-timer start word earlier)

pub returns-clause-step : goal.returns-clause-step
returns-clause-step c = IsRunning-after

use Rattle.std.proofs.Common.{◌≡◌, ◌++◌}
use Rattle.dg_trial.specs.Schedule.{resets}
use Rattle.dg_rehearse.specs.TrialScripts.{event_lines}
use Rattle.dg_rehearse.proofs.trial.push_resets.Given as goal

-- the resets of this many motes are appended
abbrev pub invariant-loop-mote : goal.invariant-loop-mote
invariant-loop-mote l = l.lines.items ≡ l.fn.lines.items ++ event_lines (resets l.mote)

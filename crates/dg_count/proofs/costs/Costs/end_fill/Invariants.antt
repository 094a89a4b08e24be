use Rattle.dg_events.specs.FrameCounters.{KeepsFrames}
use Rattle.dg_count.proofs.costs.Costs.end_fill.Given as goal

-- what was counted of frames stays counted
abbrev pub invariant-loop-place : goal.invariant-loop-place
invariant-loop-place l = KeepsFrames l.initial.frames l.frames

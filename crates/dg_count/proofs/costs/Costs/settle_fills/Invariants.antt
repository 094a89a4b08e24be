use Rattle.dg_events.specs.FrameCounters.{KeepsFrames}
use Rattle.dg_count.proofs.costs.Costs.settle_fills.Given as goal

-- what was counted of frames stays counted
abbrev pub invariant-loop-index : goal.invariant-loop-index
invariant-loop-index l = KeepsFrames l.initial.frames l.frames

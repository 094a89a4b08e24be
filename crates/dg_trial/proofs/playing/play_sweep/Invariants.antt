use Rattle.std.proofs.Common.{map}
use Rattle.dg_rounds.specs.Left.{left_of_sweep}
use Rattle.dg_rounds.specs.Rounds.{sweep}
use Rattle.dg_trial.proofs.LoopLemmas.{EventsSoFar}
use Rattle.dg_trial.proofs.playing.play_sweep.Given as goal

-- the events that were given are played
abbrev pub invariant-loop-event : goal.invariant-loop-event
invariant-loop-event g l =
    EventsSoFar (sweep l.fn.links) l.yielded (left_of_sweep l.event-iterator) l.fn.world l.world (map g.N.Nor.device l.fn.boards.items) (map g.N.Nor.device l.boards.items)

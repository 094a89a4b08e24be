use Rattle.std.proofs.Common.{map}
use Rattle.dg_rounds.specs.Rounds.{sweep}
use Rattle.dg_trial.proofs.PartLemmas.{SoFar}
use Rattle.dg_trial.proofs.LoopLemmas.{swept_front}
use Rattle.dg_trial.proofs.playing.play_sweeps.Given as goal

-- this many sweeps are played
abbrev pub invariant-loop : goal.invariant-loop
invariant-loop g l = SoFar (swept_front (sweep l.links) l.counter) l.fn.world l.world (map g.N.Nor.device l.fn.boards.items) (map g.N.Nor.device l.boards.items)

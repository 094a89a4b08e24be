use Rattle.std.proofs.Common.{map}
use Rattle.dg_trial.proofs.PartLemmas.{SoFar}
use Rattle.dg_trial.proofs.LoopLemmas.{reset_front}
use Rattle.dg_trial.proofs.playing.play_resets.Given as goal

-- this many motes are reset
abbrev pub invariant-loop-mote : goal.invariant-loop-mote
invariant-loop-mote g l = SoFar (reset_front l.mote) l.fn.world l.world (map g.N.Nor.device l.fn.boards.items) (map g.N.Nor.device l.boards.items)

use Rattle.std.proofs.Common.{◌≡◌, map}
use Rattle.dg_seed.specs.Draws.{generator_of}
use Rattle.dg_trial.specs.Schedule.{drawn}
use Rattle.dg_trial.specs.Playing.{AddsSteps, PartsRecorded}
use Rattle.dg_trial.proofs.LoopLemmas.{disturbed_front}
use Rattle.dg_trial.proofs.playing.play_disturbances.Given as goal

-- this many disturbances are played and recorded, and three draws were taken for each
abbrev pub invariant-loop : goal.invariant-loop
invariant-loop g l = record {
  draws : generator_of l.draws ≡ drawn l.counter (generator_of l.fn.draws);
  recorded : AddsSteps l.fn.steps.items l.steps.items
      (λ more. PartsRecorded l.motes (disturbed_front l.motes (generator_of l.fn.draws) l.counter) more l.fn.world l.world (map g.N.Nor.device l.fn.boards.items) (map g.N.Nor.device l.boards.items));
}

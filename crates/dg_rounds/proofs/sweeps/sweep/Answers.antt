use Rattle.std.proofs.Common.{ap, arith, ◌++◌}
use Rattle.dg_rounds.specs.Rounds.{sweep}
use Rattle.dg_rounds.specs.Left.{left_of_round, left_of_sweep}
use Rattle.dg_rounds.proofs.RoundLemmas.{round_over}
use Rattle.dg_rounds.proofs.sweeps.sweep.Goals as goal

pub returns : goal.returns
unfolding left_of_round left_of_sweep
returns c = ap (λ xs. xs ++ sweep c.args.links.now) (round_over 0 0 202 (omega arith))

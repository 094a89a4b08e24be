use Rattle.std.proofs.Common.{refl}
use Rattle.dg_rounds.specs.Left.{left_of_round}
use Rattle.dg_rounds.proofs.RoundLemmas.{length-round}
use Rattle.dg_rounds.proofs.rounds.round.Goals as goal

pub returns-clause-events : goal.returns-clause-events
unfolding left_of_round
returns-clause-events c = refl

pub returns-clause-count : goal.returns-clause-count
returns-clause-count c = length-round c.args.a c.args.b

use Rattle.dg_completion.proofs.RestLemmas.{swept, free_rest, rests_join}
use Rattle.dg_completion.proofs.laws.sweeps_are_a_rest.Goals as goal

pub returns-clause-swept : goal.returns-clause-swept
returns-clause-swept c = swept

pub returns-clause-free : goal.returns-clause-free
returns-clause-free c = free_rest

pub returns-clause-joined : goal.returns-clause-joined
returns-clause-joined c = rests_join

use Rattle.dg_completion.proofs.HolderLemmas.{within_law, enough_law, one_enough_law}
use Rattle.dg_completion.proofs.laws.distances_are_paths.Goals as goal

pub returns-clause-within : goal.returns-clause-within
returns-clause-within c = within_law

pub returns-clause-enough : goal.returns-clause-enough
returns-clause-enough c = enough_law

pub returns-clause-one : goal.returns-clause-one
returns-clause-one c = one_enough_law

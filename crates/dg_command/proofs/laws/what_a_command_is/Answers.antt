use Rattle.dg_command.proofs.LawLemmas.{no_verb, was_taken, has_values, was_named, is_command}
use Rattle.dg_command.proofs.laws.what_a_command_is.Goals as goal

pub returns-clause-verb : goal.returns-clause-verb
returns-clause-verb c = λ words said none. no_verb words said none

pub returns-clause-taken : goal.returns-clause-taken
returns-clause-taken c = λ words said verb is asks. was_taken words said verb is asks

pub returns-clause-values : goal.returns-clause-values
returns-clause-values c = λ words said verb is asks. has_values words said verb is asks

pub returns-clause-name : goal.returns-clause-name
returns-clause-name c = λ words said asks. was_named words said asks

pub returns-clause-command : goal.returns-clause-command
returns-clause-command c = λ words verb is none name. is_command words verb is none name

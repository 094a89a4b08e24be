use Rattle.dg_mote.proofs.RulesLemmas.{request_told, union_owed}
use Rattle.dg_mote.proofs.rules.requests_are_sets.Goals as goal

pub returns-clause-asked : goal.returns-clause-asked
returns-clause-asked c = request_told

pub returns-clause-added : goal.returns-clause-added
returns-clause-added c = union_owed

use Rattle.dg_mote.proofs.RulesLemmas.{restart_exactly, restart_nothing}
use Rattle.dg_mote.proofs.rules.a_restart_is_for_the_order.Goals as goal

pub returns-clause-exactly : goal.returns-clause-exactly
returns-clause-exactly c = restart_exactly

pub returns-clause-nothing : goal.returns-clause-nothing
returns-clause-nothing c = restart_nothing

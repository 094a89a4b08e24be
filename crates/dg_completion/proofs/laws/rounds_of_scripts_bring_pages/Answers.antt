use Rattle.dg_completion.proofs.EndLemmas.{rounds_bring, none_bring}
use Rattle.dg_completion.proofs.laws.rounds_of_scripts_bring_pages.Goals as goal

pub returns-clause-brings : goal.returns-clause-brings
returns-clause-brings c =
    rounds_bring c.every_step_is_legal.ensures.agrees c.a_round_brings_a_mote_to_rest.ensures c.a_round_raises.ensures

pub returns-clause-nothing : goal.returns-clause-nothing
returns-clause-nothing c = none_bring

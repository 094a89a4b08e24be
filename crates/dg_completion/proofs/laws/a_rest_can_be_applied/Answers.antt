use Rattle.dg_completion.proofs.MetLemmas.{met_law}
use Rattle.dg_completion.proofs.laws.a_rest_can_be_applied.Goals as goal

pub returns : goal.returns
returns c = met_law c.a_free_event_keeps_a_good_world.ensures c.a_free_event_can_be_applied.ensures.applies c.a_free_event_can_be_applied.ensures.spends

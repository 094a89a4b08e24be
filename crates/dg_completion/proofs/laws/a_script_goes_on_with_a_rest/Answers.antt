use Rattle.dg_completion.proofs.GoOnLemmas.{goes_on_law}
use Rattle.dg_completion.proofs.laws.a_script_goes_on_with_a_rest.Goals as goal

pub returns : goal.returns
returns c = goes_on_law c.every_step_is_legal.ensures.agrees c.a_free_event_keeps_a_good_world.ensures c.a_free_event_can_be_applied.ensures.applies c.a_free_event_can_be_applied.ensures.spends

use Rattle.dg_completion.proofs.CompleteLemmas.{completes}
use Rattle.dg_completion.proofs.laws.enough_sweeps_complete.Goals as goal

pub returns : goal.returns
returns c = completes c.a_free_event_keeps_a_good_world.ensures c.a_round_raises.ensures

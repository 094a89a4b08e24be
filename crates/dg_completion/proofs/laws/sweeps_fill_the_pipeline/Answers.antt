use Rattle.dg_completion.proofs.CompleteLemmas.{fills}
use Rattle.dg_completion.proofs.laws.sweeps_fill_the_pipeline.Goals as goal

pub returns : goal.returns
returns c = fills c.a_free_event_keeps_a_good_world.ensures c.a_round_raises.ensures

use Rattle.dg_completion.proofs.EndLemmas.{ends, ends_pipeline, played}
use Rattle.dg_completion.proofs.laws.scripts_end_complete.Goals as goal

pub returns-clause-completes : goal.returns-clause-completes
returns-clause-completes c = ends c.every_step_is_legal.ensures.agrees c.a_free_event_keeps_a_good_world.ensures c.enough_sweeps_complete.ensures

pub returns-clause-pipeline : goal.returns-clause-pipeline
returns-clause-pipeline c = ends_pipeline c.every_step_is_legal.ensures.agrees c.a_free_event_keeps_a_good_world.ensures c.sweeps_fill_the_pipeline.ensures

pub returns-clause-played : goal.returns-clause-played
returns-clause-played c = played

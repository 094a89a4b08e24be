use Rattle.dg_trial.proofs.MoveLemmas.{Laws}
use Rattle.dg_trial.proofs.WholeLemmas.{WholeLaws, whole_law}
use Rattle.dg_trial.proofs.laws.trials_end_whole.Goals as goal

pub returns : goal.returns
returns c =
    let moving : Laws = record {
      boots = c.a_start_ends.ensures;
      agrees = c.agreement_is_kept.ensures.stepped;
      free = c.a_free_event_keeps_a_good_world.ensures;
      spend = c.a_free_event_can_be_applied.ensures.spends;
    } in
    let laws : WholeLaws = record {
      moving = moving;
      plays = c.scripts_with_golden.ensures.plays;
      inject = c.acts_end.ensures.inject;
      within = c.distances_are_paths.ensures.within;
      enough = c.distances_are_paths.ensures.enough;
      complete = c.enough_sweeps_complete.ensures;
      swept = c.sweeps_are_a_rest.ensures.swept;
    } in
    whole_law laws

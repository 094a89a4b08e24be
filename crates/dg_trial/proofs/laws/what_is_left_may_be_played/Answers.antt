use Rattle.dg_trial.proofs.RunLemmas.{goes_on}
use Rattle.dg_trial.proofs.laws.what_is_left_may_be_played.Goals as goal

pub returns : goal.returns
returns c = goes_on c.golden_is_found.ensures.stepped

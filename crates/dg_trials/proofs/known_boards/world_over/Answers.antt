use Rattle.dg_trials.proofs.OneMoteLemmas.{one_begins}
use Rattle.dg_trials.proofs.known_boards.world_over.Goals as goal

pub returns : goal.returns
returns g c = one_begins c.in_ok-new.field-0 _ c.in_ok-mount.ensures c.in_ok-new.ensures.begins

use Rattle.dg_boot.proofs.LawLemmas.{sound_has, set_has}
use Rattle.dg_boot.proofs.laws.golden_can_be_started.Goals as goal

pub returns-clause-sound : goal.returns-clause-sound
returns-clause-sound c cause s sound = sound_has cause s sound

pub returns-clause-set : goal.returns-clause-set
returns-clause-set c cause s set = set_has cause s set

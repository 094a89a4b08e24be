use Rattle.dg_boot.proofs.LawLemmas.{three_stand, third_golden}
use Rattle.dg_boot.proofs.laws.three_short_starts_start_golden.Goals as goal

pub returns-clause-stand : goal.returns-clause-stand
returns-clause-stand c cause s gesture room = three_stand cause s gesture room

pub returns-clause-third : goal.returns-clause-third
returns-clause-third c s gesture room = third_golden s gesture room

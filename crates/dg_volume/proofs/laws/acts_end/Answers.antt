use Rattle.std.proofs.Common.{Some, None, get_or-set_same}
use Rattle.dg_nor.proofs.TrailLemmas.{last-stepping}
use Rattle.dg_slot.specs.Kept.{held_begun}
use Rattle.dg_volume.proofs.ActEndLemmas.{take_last, fill_last, inject_last, migrate_last}
use Rattle.dg_volume.proofs.laws.acts_end.Goals as goal

pub returns-clause-order : goal.returns-clause-order
returns-clause-order c s order = last-stepping s _ _

pub returns-clause-clear : goal.returns-clause-clear
returns-clause-clear c s = last-stepping s _ _

pub returns-clause-advance : goal.returns-clause-advance
returns-clause-advance c s app gesture waived = last-stepping s _ _

pub returns-clause-take : goal.returns-clause-take
returns-clause-take c = take_last

pub returns-clause-fill : goal.returns-clause-fill
returns-clause-fill c = fill_last

pub returns-clause-inject : goal.returns-clause-inject
returns-clause-inject c = inject_last

pub returns-clause-begun : goal.returns-clause-begun
returns-clause-begun c s p known = get_or-set_same s.kept p.image (Some (held_begun p)) None known

pub returns-clause-migrate : goal.returns-clause-migrate
returns-clause-migrate c = migrate_last

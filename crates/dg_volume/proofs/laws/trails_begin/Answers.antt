use Rattle.dg_volume.proofs.BeginLemmas.{begins_committing, migrate_begins, take_begins, fill_begins, inject_begins, boot_begins}
use Rattle.dg_volume.proofs.laws.trails_begin.Goals as goal

pub returns-clause-order : goal.returns-clause-order
returns-clause-order c s order = begins_committing s _

pub returns-clause-clear : goal.returns-clause-clear
returns-clause-clear c s = begins_committing s _

pub returns-clause-advance : goal.returns-clause-advance
returns-clause-advance c s app gesture waived = begins_committing s _

pub returns-clause-take : goal.returns-clause-take
returns-clause-take c s p = take_begins s p

pub returns-clause-fill : goal.returns-clause-fill
returns-clause-fill c s image pages = fill_begins s image pages

pub returns-clause-inject : goal.returns-clause-inject
returns-clause-inject c s row = inject_begins s row

pub returns-clause-boot : goal.returns-clause-boot
returns-clause-boot c k s = boot_begins k s

pub returns-clause-migrate : goal.returns-clause-migrate
returns-clause-migrate c form s = migrate_begins form s

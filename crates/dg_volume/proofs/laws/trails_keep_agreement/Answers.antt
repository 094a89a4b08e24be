use Rattle.dg_nor.proofs.ThroughLemmas.{Through-joined, Through-resting, Through-stepping, Through-last}
use Rattle.dg_object.specs.Object.{profile}
use Rattle.dg_volume.specs.Agreement.{KeepsRow, HoldsRow, Agrees}
use Rattle.dg_volume.proofs.AgreedLemmas.{agreed_page}
use Rattle.dg_volume.proofs.AgreeLemmas.{agrees_stays, agrees_keeping, agrees_loads, begun_keeps, inject_through}
use Rattle.dg_volume.proofs.BootLemmas.{boot_through}
use Rattle.dg_volume.proofs.StayLemmas.{order_through, clear_through, migrate_through, take_through}
use Rattle.dg_volume.proofs.laws.trails_keep_agreement.Goals as goal

pub returns-clause-order : goal.returns-clause-order
returns-clause-order c table = order_through (Agrees table) (HoldsRow table) (agrees_stays table)

pub returns-clause-clear : goal.returns-clause-clear
returns-clause-clear c table = clear_through (Agrees table) (HoldsRow table) (agrees_stays table)

pub returns-clause-take : goal.returns-clause-take
returns-clause-take c table s row low within in_table =
    take_through (Agrees table) (HoldsRow table) (agrees_stays table) (KeepsRow table) (agrees_keeping table) s (profile row) low within (begun_keeps table row in_table)

pub returns-clause-inject : goal.returns-clause-inject
returns-clause-inject c table s row within in_table = inject_through table row in_table s within

pub returns-clause-boot : goal.returns-clause-boot
returns-clause-boot c table = boot_through (Agrees table) (HoldsRow table) (agrees_stays table) (agrees_loads table)

pub returns-clause-page : goal.returns-clause-page
returns-clause-page c table s row h n low within in_table here version more a =
    Through-stepping (Agrees table) s n _ a (agreed_page table s row h low within in_table here version more a)

pub returns-clause-resting : goal.returns-clause-resting
returns-clause-resting c table s n a = Through-resting (Agrees table) s n a

pub returns-clause-joined : goal.returns-clause-joined
returns-clause-joined c table t u first second = Through-joined (Agrees table) t u first second

pub returns-clause-ends : goal.returns-clause-ends
returns-clause-ends c table t through = Through-last (Agrees table) t through

pub returns-clause-migrate : goal.returns-clause-migrate
returns-clause-migrate c table = migrate_through (Agrees table) (HoldsRow table) (agrees_stays table)

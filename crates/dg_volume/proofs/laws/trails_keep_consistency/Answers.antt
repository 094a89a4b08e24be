use Rattle.dg_nor.proofs.ThroughLemmas.{Through-joined, Through-resting, Through-stepping, Through-last}
use Rattle.dg_volume.specs.Consistent.{IsSoundSoFar, IsSoundApp, Consistent}
use Rattle.dg_volume.proofs.RowLemmas.{next_fits}
use Rattle.dg_volume.proofs.BootLemmas.{boot_through, boot_starts}
use Rattle.dg_volume.proofs.ConsistentLemmas.{TestedFirst, consistent_stays, consistent_keeping, begun_sound, fresh_consistent, inject_through, paged_consistent}
use Rattle.dg_volume.proofs.ConsistentBoot.{consistent_loads}
use Rattle.dg_volume.proofs.StayLemmas.{order_through, clear_through, migrate_through, take_through}
use Rattle.dg_volume.proofs.laws.trails_keep_consistency.Goals as goal

pub returns-clause-fresh : goal.returns-clause-fresh
returns-clause-fresh c = fresh_consistent

pub returns-clause-order : goal.returns-clause-order
returns-clause-order c golden = order_through (Consistent golden) (IsSoundApp golden) (consistent_stays golden)

pub returns-clause-clear : goal.returns-clause-clear
returns-clause-clear c golden = clear_through (Consistent golden) (IsSoundApp golden) (consistent_stays golden)

pub returns-clause-take : goal.returns-clause-take
returns-clause-take c golden s p low within =
    take_through (Consistent golden) (IsSoundApp golden) (consistent_stays golden) IsSoundSoFar (consistent_keeping golden) s p low within (begun_sound p.image p)

pub returns-clause-inject : goal.returns-clause-inject
returns-clause-inject c =
    let tested : TestedFirst = λ page image version pages. (c.a_descriptor_is_tested.ensures.described page image version pages).0 in
    inject_through tested (next_fits c.a_descriptor_is_tested.ensures.described)

pub returns-clause-boot : goal.returns-clause-boot
returns-clause-boot c golden = boot_through (Consistent golden) (IsSoundApp golden) (consistent_stays golden) (consistent_loads golden)

pub returns-clause-starts : goal.returns-clause-starts
returns-clause-starts c golden = boot_starts (Consistent golden) (IsSoundApp golden) (consistent_stays golden) (consistent_loads golden)

pub returns-clause-page : goal.returns-clause-page
returns-clause-page c golden s image h page n low within here may a =
    let tested : TestedFirst = λ page image version pages. (c.a_descriptor_is_tested.ensures.described page image version pages).0 in
    Through-stepping (Consistent golden) s n _ a (paged_consistent tested golden s image h page low within here may a)

pub returns-clause-resting : goal.returns-clause-resting
returns-clause-resting c golden s n a = Through-resting (Consistent golden) s n a

pub returns-clause-joined : goal.returns-clause-joined
returns-clause-joined c golden t u first second = Through-joined (Consistent golden) t u first second

pub returns-clause-ends : goal.returns-clause-ends
returns-clause-ends c golden t through = Through-last (Consistent golden) t through

pub returns-clause-migrate : goal.returns-clause-migrate
returns-clause-migrate c golden = migrate_through (Consistent golden) (IsSoundApp golden) (consistent_stays golden)

use Rattle.dg_volume.proofs.BehindLemmas.{slot_alone}
use Rattle.dg_volume.proofs.PagedLemmas.{rest_stops}
use Rattle.dg_volume.proofs.LendingLemmas.{version_kept}
use Rattle.dg_volume.proofs.laws.a_slot_is_written_alone.Goals as goal

pub returns-clause-same : goal.returns-clause-same
returns-clause-same c = slot_alone

pub returns-clause-stopped : goal.returns-clause-stopped
returns-clause-stopped c = rest_stops

pub returns-clause-version : goal.returns-clause-version
returns-clause-version c = version_kept

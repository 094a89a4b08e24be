use Rattle.std.proofs.Common.{refl}
use Rattle.dg_nor.proofs.TrailLemmas.{operations-resting, operations-stepping, last-resting, last-stepping, EachWorks-stepping}
use Rattle.dg_volume.proofs.BeginLemmas.{begins_resting}
use Rattle.dg_volume.proofs.laws.trails_of_one_stage.Goals as goal

pub returns-clause-resting : goal.returns-clause-resting
returns-clause-resting c s n = (operations-resting s n, last-resting s n, begins_resting s n)

pub returns-clause-stepping : goal.returns-clause-stepping
returns-clause-stepping c s next n = (operations-stepping s n next, last-stepping s n next, λ some. record { first = refl; works = EachWorks-stepping s n next some })

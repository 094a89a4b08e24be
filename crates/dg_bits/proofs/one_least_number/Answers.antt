use Rattle.dg_bits.proofs.SetLaws.{least_cases, least_is}
use Rattle.dg_bits.proofs.one_least_number.Goals as goal

pub returns-clause-some : goal.returns-clause-some
returns-clause-some c = least_cases

pub returns-clause-only : goal.returns-clause-only
returns-clause-only c = least_is

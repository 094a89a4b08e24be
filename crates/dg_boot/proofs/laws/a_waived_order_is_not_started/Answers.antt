use Rattle.dg_boot.proofs.LawLemmas.{waived_unordered}
use Rattle.dg_boot.proofs.laws.a_waived_order_is_not_started.Goals as goal

pub returns : goal.returns
returns c cause s waived = waived_unordered cause s waived

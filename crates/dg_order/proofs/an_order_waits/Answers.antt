use Rattle.dg_order.proofs.WaitLemmas.{waits, waits_is}
use Rattle.dg_order.proofs.an_order_waits.Goals as goal

pub returns : goal.returns
returns c p whole room = (λ h. waits p whole room h, λ w. waits_is p whole room w)

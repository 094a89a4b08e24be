use Rattle.dg_cost.proofs.RowLemmas.{then_rows}
use Rattle.dg_cost.proofs.mote_rows.push_moment.Goals as goal

pub returns : goal.returns
returns c = then_rows _ _ _ c.in_ok-own.ensures c.in_ok-own-2.ensures

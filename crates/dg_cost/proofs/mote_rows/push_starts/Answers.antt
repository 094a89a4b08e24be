use Rattle.std.specs.Prelude.{codes}
use Rattle.dg_cost_text.specs.Table.{table_of_rows}
use Rattle.dg_cost.proofs.RowLemmas.{three_rows}
use Rattle.dg_cost.proofs.mote_rows.push_starts.Goals as goal

pub returns : goal.returns
returns c =
    three_rows (table_of_rows c.args.rows.now) (codes "starts.power", c.args.events.now.by_power)
    (codes "starts.order", c.args.events.now.by_order) (codes "starts.cut.power", c.args.events.now.cut_by_power)
    c.in_ok-sum.ensures c.in_ok-sum-2.ensures c.in_ok-sum-3.ensures

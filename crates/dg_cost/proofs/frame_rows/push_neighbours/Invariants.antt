use Rattle.dg_cost_text.specs.Moments.{AddsNoMoment}
use Rattle.dg_cost_text.specs.Table.{table_of_rows}
use Rattle.dg_cost.proofs.frame_rows.push_neighbours.Given as goal

abbrev pub invariant-loop-by : goal.invariant-loop-by
invariant-loop-by l = AddsNoMoment (table_of_rows l.initial.rows) (table_of_rows l.rows)

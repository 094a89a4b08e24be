use Rattle.std.proofs.Common.{[]}
use Rattle.dg_cost_text.specs.Moments.{AddsNoMoment}
use Rattle.dg_cost_text.specs.Table.{table_of_rows}
use Rattle.dg_cost.proofs.frame_rows.unheard_rows.Given as goal

abbrev pub invariant-loop-kind : goal.invariant-loop-kind
invariant-loop-kind l = AddsNoMoment [] (table_of_rows l.rows)

use Rattle.std.proofs.Common.{[]}
use Rattle.dg_cost_text.specs.Moments.{AddsNoMoment, summed_table}
use Rattle.dg_cost_text.specs.Table.{table_of_rows}
use Rattle.dg_cost.proofs.mote_rows.push_sums.Given as goal

abbrev pub invariant-loop-index : goal.invariant-loop-index
invariant-loop-index l = AddsNoMoment [] (summed_table l.first) → AddsNoMoment (table_of_rows l.initial.all) (table_of_rows l.all)

use Rattle.std.proofs.Common.{◌≡◌, ◌++◌}
use Rattle.dg_cost.specs.MomentRows.{whole_rows}
use Rattle.dg_cost_text.specs.Moments.{summed_table}
use Rattle.dg_cost_text.specs.Table.{table_of_rows}
use Rattle.dg_cost.proofs.moment_rows.push_wholes.Given as goal

-- with the rows of those that are left, all are there
abbrev pub invariant-loop-whole : goal.invariant-loop-whole
invariant-loop-whole l = record {
  rows : table_of_rows l.rows ++ whole_rows l.mote l.whole-iterator ≡ table_of_rows l.initial.rows ++ whole_rows l.mote l.wholes.moments.entries;
  sums : summed_table l.rows ≡ summed_table l.initial.rows;
}

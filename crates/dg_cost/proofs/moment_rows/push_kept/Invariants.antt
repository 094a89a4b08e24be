use Rattle.std.proofs.Common.{◌≡◌, ◌++◌}
use Rattle.std.specs.List.{flat_map}
use Rattle.dg_cost.specs.MomentRows.{rows_of_all}
use Rattle.dg_cost_text.specs.Table.{table_of_rows}
use Rattle.dg_cost.proofs.moment_rows.push_kept.Given as goal

-- with the rows of those that are left, all are there
abbrev pub invariant-loop-image_version : goal.invariant-loop-image_version
invariant-loop-image_version l =
    table_of_rows l.rows ++ flat_map rows_of_all l.image_version-iterator ≡ table_of_rows l.initial.rows ++ flat_map rows_of_all l.kept.entries

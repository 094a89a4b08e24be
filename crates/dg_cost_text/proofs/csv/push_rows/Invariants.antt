use Rattle.std.proofs.Common.{◌≡◌, ◌++◌, take}
use Rattle.dg_cost_text.specs.Csv.{rows_text}
use Rattle.dg_cost_text.proofs.csv.push_rows.Given as goal

-- the rows so far are appended
abbrev pub invariant-loop-row : goal.invariant-loop-row
invariant-loop-row l = l.text.items ≡ l.initial.text.items ++ rows_text l.name (take l.row-index l.rows)

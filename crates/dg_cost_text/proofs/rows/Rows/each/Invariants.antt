use Rattle.std.proofs.Common.{◌≡◌, ◌++◌, ℕ, List, take, map, Bor}
use Rattle.dg_cost_text.specs.Table.{table_of_rows, named_rows}
use Rattle.dg_cost_text.proofs.rows.Rows.each.Given as goal

-- the rows so far are appended
abbrev pub invariant-loop-index : goal.invariant-loop-index
invariant-loop-index l =
    table_of_rows l.self ≡ table_of_rows l.initial.self ++ named_rows l.before l.after (take l.index (map (λ (n : Bor (List ℕ)). n.now) l.names)) (take l.index l.values)

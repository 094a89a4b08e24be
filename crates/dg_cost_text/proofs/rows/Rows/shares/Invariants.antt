use Rattle.std.proofs.Common.{◌≡◌, ◌++◌, ℕ, List, take, map, Bor}
use Rattle.dg_cost_text.specs.Table.{table_of_rows, shared_rows}
use Rattle.dg_cost_text.proofs.rows.Rows.shares.Given as goal

-- the rows so far are appended
abbrev pub invariant-loop-index : goal.invariant-loop-index
invariant-loop-index l =
    table_of_rows l.self ≡ table_of_rows l.initial.self ++ shared_rows l.before (take l.index (map (λ (n : Bor (List ℕ)). n.now) l.names)) (take l.index l.shares)

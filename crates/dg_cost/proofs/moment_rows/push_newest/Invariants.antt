use Rattle.std.proofs.Common.{◌≡◌, ℕ, ◌+◌, ◌++◌, List, Option, Some, length}
use Rattle.std.specs.Prelude.{slice_get}
use Rattle.dg_cost.specs.MomentRows.{newest_rows, IsNewestAt}
use Rattle.dg_cost_text.specs.Table.{table_of_rows}
use Rattle.dg_cost_text.specs.declared.moment.Moment.{Moment}
use Rattle.dg_cost.proofs.moment_rows.push_newest.Given as goal

-- the rows of the images so far
abbrev pub invariant-loop-image : goal.invariant-loop-image
invariant-loop-image l = (newest : List (Option Moment)) × (1 + length newest ≡ l.image)
    × ((i : ℕ) (at : Option Moment) → slice_get newest i ≡ Some at → IsNewestAt l.counter (i + 1) at)
    × (table_of_rows l.rows ≡ table_of_rows l.initial.rows ++ newest_rows 1 newest)

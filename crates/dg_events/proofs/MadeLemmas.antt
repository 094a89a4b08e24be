-- How many programs and erases there were, after more of a run.
use Rattle.std.proofs.Common.{◌≡◌, ℕ, ◌+◌, List, [], ◌∷◌, ◌++◌, arith}
use Rattle.std.proofs.lemmas.List.Sums.{sum_by-append}
use Rattle.dg_rules.specs.Runs.{Played}
use Rattle.dg_events.specs.Made.{item_operations, operations_at}

pub operations_append : (mote : ℕ) (xs ys : List Played) → operations_at mote (xs ++ ys) ≡ operations_at mote xs + operations_at mote ys
operations_append mote xs ys = sum_by-append (λ (p : Played). item_operations mote p.item p.before) xs ys

-- one more was played
pub operations_more : (mote : ℕ) (xs : List Played) (p : Played) → operations_at mote (xs ++ p ∷ []) ≡ operations_at mote xs + item_operations mote p.item p.before
operations_more mote xs p = omega (arith, operations_append mote xs (p ∷ []))

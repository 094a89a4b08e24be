use Rattle.std.proofs.Common.{refl}
use Rattle.dg_cost_text.specs.Table.{table_of_rows}
use Rattle.dg_cost_text.proofs.MomentLemmas.{none_yet, none_then}
use Rattle.dg_cost.proofs.RowLemmas.{then_rows, piece_last}
use Rattle.dg_cost.proofs.flash_rows.flash_rows.Goals as goal

pub returns-clause-run : goal.returns-clause-run
returns-clause-run c =
    piece_last (table_of_rows c.push_kind-2.new.rows) _ (then_rows (table_of_rows c.push_kind-2.new.rows) _ _ c.in_ok-push_kind-3.ensures c.in_ok-push_kind-4.ensures)

pub returns-clause-moments : goal.returns-clause-moments
returns-clause-moments c =
    none_then _ (none_then _ (none_then _ (none_then _ (none_then _ (none_yet c.new-rows.ensures) c.in_ok-sum.ensures refl) c.in_ok-push_kind.ensures refl) c.in_ok-push_kind-2.ensures refl) c.in_ok-push_kind-3.ensures refl) c.in_ok-push_kind-4.ensures refl

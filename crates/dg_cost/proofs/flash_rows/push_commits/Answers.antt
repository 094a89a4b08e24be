use Rattle.std.proofs.Common.{refl}
use Rattle.dg_cost_text.specs.Table.{table_of_rows}
use Rattle.dg_cost_text.proofs.MomentLemmas.{none_added, none_then}
use Rattle.dg_cost.proofs.flash_rows.push_commits.Goals as goal

pub returns : goal.returns
returns c =
    none_then _ (none_then _ (none_then _ (none_then _ (none_then _ (none_then _ (none_added (table_of_rows c.args.rows.now)) c.in_ok-sum.ensures refl) c.in_ok-sum-2.ensures refl) c.in_ok-sum-3.ensures refl) c.in_ok-sum-4.ensures refl) c.in_ok-own.ensures refl) c.in_ok-own-2.ensures refl

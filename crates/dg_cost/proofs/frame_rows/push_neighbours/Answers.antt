use Rattle.std.proofs.Common.{refl}
use Rattle.dg_cost_text.specs.Table.{table_of_rows}
use Rattle.dg_cost_text.proofs.MomentLemmas.{none_added, none_then}
use Rattle.dg_cost.proofs.frame_rows.push_neighbours.Goals as goal

pub loop-by-init : goal.loop-by-init
loop-by-init c = none_added (table_of_rows c.args.rows.now)

pub loop-by-preserved : goal.loop-by-preserved
loop-by-preserved c =
    none_then _ (none_then _ (none_then _ c.loop-by.invariant c.in_ok-push_ended.ensures.rows refl) c.in_ok-push_ended-2.ensures.rows refl)
    c.in_ok-push_ended-3.ensures.rows refl

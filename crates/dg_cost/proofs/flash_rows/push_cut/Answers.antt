use Rattle.std.proofs.Common.{refl}
use Rattle.dg_cost_text.specs.Table.{table_of_rows}
use Rattle.dg_cost_text.proofs.MomentLemmas.{none_added, none_then}
use Rattle.dg_cost.proofs.flash_rows.push_cut.Goals as goal

pub loop-name-init : goal.loop-name-init
loop-name-init c = none_added (table_of_rows c.args.rows.now)

pub loop-name-preserved : goal.loop-name-preserved
loop-name-preserved c = none_then _ c.loop-name.invariant c.in_ok-push_ended.ensures.rows refl

use Rattle.std.proofs.Common.{◌<◌, length, arith}
use Rattle.dg_cost_text.specs.Table.{table_of_rows}
use Rattle.dg_cost_text.proofs.MomentLemmas.{none_added, then_none, summed_at}
use Rattle.dg_cost.proofs.mote_rows.push_sums.Goals as goal

pub loop-index-init : goal.loop-index-init
loop-index-init c = λ none. none_added (table_of_rows c.args.all.now)

pub loop-index-preserved : goal.loop-index-preserved
loop-index-preserved c = λ none.
    let lt : c.loop-index.index < length c.args.first.now.rows.items = omega arith in
    then_none (c.loop-index.invariant none)
    (c.in_ok-push_sum.ensures
    (λ summed. summed_at c.args.first.now.rows.items c.loop-index.index c.index.result.now lt c.index.ensures summed none.same))

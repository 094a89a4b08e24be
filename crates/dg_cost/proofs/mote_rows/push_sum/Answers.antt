use Rattle.dg_cost_text.specs.Table.{table_of_rows}
use Rattle.dg_cost_text.proofs.MomentLemmas.{none_added, key_then}
use Rattle.dg_cost.proofs.mote_rows.push_sum.Goals as goal

pub returns : goal.returns
returns c = λ other.
    key_then c.args.row.now.key.items c.total_of.result (none_added (table_of_rows c.args.all.now)) c.in_ok-push_as.ensures
    (other c.if-not-row.false)

pub returns-then-not-row : goal.returns-then-not-row
returns-then-not-row c = λ other. none_added (table_of_rows c.args.all.now)

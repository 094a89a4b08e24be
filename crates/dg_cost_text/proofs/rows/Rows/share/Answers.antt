use Rattle.dg_cost_text.specs.Table.{table_of_rows}
use Rattle.dg_cost_text.proofs.TableLemmas.{share_more, then_on}
use Rattle.dg_cost_text.proofs.rows.Rows.share.Goals as goal

pub returns : goal.returns
returns c =
    then_on c.push_ended-2.result
    (λ e. share_more (table_of_rows c.args.self.now) c.args.before.now c.args.name.now c.args.share.count c.args.share.bytes c.in_ok-push_ended.ensures.rows e)
    c.push_ended-2.ensures.rows

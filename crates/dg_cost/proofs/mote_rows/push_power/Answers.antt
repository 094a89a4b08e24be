use Rattle.std.proofs.Common.{ap, ◌++◌, ◌∙◌}
use Rattle.std.specs.Prelude.{codes}
use Rattle.dg_cost_text.specs.Table.{table_of_rows}
use Rattle.dg_cost.proofs.RowLemmas.{Entries, three_rows, power_rows}
use Rattle.dg_cost.proofs.mote_rows.push_power.Goals as goal

pub returns : goal.returns
returns c =
    three_rows (table_of_rows c.args.rows.now) (codes "on.ms", c.until-on.result) (codes "off.ms", c.saturating_sub.result)
    (codes "off.end", c.off_end.result) c.in_ok-sum.ensures c.in_ok-sum-2.ensures c.in_ok-own.ensures
    ∙ ap (λ (rows : Entries). table_of_rows c.args.rows.now ++ rows)
    (power_rows c.args.uptime.now c.args.ms c.until-on.result c.saturating_sub.result c.off_end.result c.until-on.ensures
    c.saturating_sub.ensures c.off_end.ensures)

use Rattle.std.specs.Prelude.{codes}
use Rattle.std.specs.List.{flat_map}
use Rattle.dg_cost_text.specs.Table.{part_text, table_of_rows}
use Rattle.dg_cost_text.proofs.TableLemmas.{two_rows}
use Rattle.dg_cost_text.proofs.rows.Rows.moment_rows.Goals as goal

pub returns-clause-rows : goal.returns-clause-rows
returns-clause-rows c =
    two_rows (table_of_rows c.args.self.now) (flat_map part_text c.args.parts.now) (codes ".event") (codes ".ms") c.args.at.event c.args.at.ms c.in_ok-push_ended.ensures.rows
    c.in_ok-push_ended-2.ensures.rows

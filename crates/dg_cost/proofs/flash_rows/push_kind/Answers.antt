use Rattle.std.specs.Prelude.{codes}
use Rattle.dg_cost_text.specs.Table.{table_of_rows}
use Rattle.dg_cost.proofs.FlashLemmas.{part_added, both_since, five_added}
use Rattle.dg_cost.proofs.flash_rows.push_kind.Goals as goal

pub returns : goal.returns
returns c =
    let a = c.args.earlier.now in
    let b = c.args.made.now in
    let before = c.args.before.now in
    five_added (table_of_rows c.args.rows.now) _ _ _ _ _
    (part_added _ before (codes "ledger") c.since.result a.ledger b.ledger c.in_ok-share.ensures c.since.ensures)
    (part_added _ before (codes "control") c.since-2.result a.control b.control c.in_ok-share-2.ensures c.since-2.ensures)
    (part_added _ before (codes "program") c.since-3.result a.program b.program c.in_ok-share-3.ensures c.since-3.ensures)
    (part_added _ before (codes "slots") c.since-4.result _ _ c.in_ok-share-4.ensures
    (both_since c.since-4.result c.with.result c.with-slots.result a.page a.head b.page b.head c.since-4.ensures c.with.ensures c.with-slots.ensures))
    (part_added _ before (codes "heads") c.since-5.result a.head b.head c.in_ok-share-5.ensures c.since-5.ensures)

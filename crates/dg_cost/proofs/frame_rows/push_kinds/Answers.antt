use Rattle.dg_cost_text.specs.Table.{table_of_rows}
use Rattle.dg_cost.proofs.FrameLemmas.{four_kinds}
use Rattle.dg_cost.proofs.frame_rows.push_kinds.Goals as goal

pub returns : goal.returns
returns c =
    four_kinds (table_of_rows c.args.rows.now) c.args.before.now c.args.counts.now _ _ _ _ _ _ _ _
    c.in_ok-share.ensures c.in_ok-share-2.ensures c.in_ok-share-3.ensures c.in_ok-share-4.ensures
    c.share_of.ensures.count c.share_of.ensures.bytes c.share_of-2.ensures.count c.share_of-2.ensures.bytes
    c.share_of-3.ensures.count c.share_of-3.ensures.bytes c.share_of-4.ensures.count c.share_of-4.ensures.bytes

use Rattle.dg_cost_text.proofs.MomentLemmas.{none_yet, then_none}
use Rattle.dg_cost.proofs.MomentRowLemmas.{has_wholes}
use Rattle.dg_cost.proofs.mote_rows.chip_rows.Goals as goal

pub returns : goal.returns
returns c =
    let none = then_none (none_yet c.new-rows.ensures) c.in_ok-push_chip.ensures in
    has_wholes c.push_chip.new.rows c.push_wholes.new.rows c.args.mote c.args.wholes.now.moments none c.in_ok-push_wholes.ensures.rows
    c.in_ok-push_wholes.ensures.sums c.in_ok-push_wholes.ensures.ordered

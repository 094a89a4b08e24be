use Rattle.std.proofs.Common.{refl}
use Rattle.dg_cost_text.specs.Table.{table_of_rows}
use Rattle.dg_cost_text.proofs.MomentLemmas.{none_yet, then_none, none_then, none_added}
use Rattle.dg_cost.proofs.MomentRowLemmas.{has_all}
use Rattle.dg_cost.proofs.mote_rows.summed_rows.Goals as goal

pub returns : goal.returns
returns c = λ sums.
    let none = then_none (none_yet c.new-all.ensures) (c.in_ok-push_counts.ensures sums) in
    has_all c.args.counter.now none c.in_ok-push_all_moments.ensures.ordered c.in_ok-push_all_moments.ensures.rows
    (none_then _ (none_added (table_of_rows c.push_all_moments.new.rows)) c.in_ok-own.ensures refl)

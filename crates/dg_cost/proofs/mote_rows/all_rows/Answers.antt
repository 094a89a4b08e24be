use Rattle.std.proofs.Common.{refl}
use Rattle.dg_cost_text.specs.Table.{table_of_rows}
use Rattle.dg_cost_text.proofs.MomentLemmas.{none_added, none_then}
use Rattle.dg_cost.proofs.MomentRowLemmas.{all_then}
use Rattle.dg_cost.proofs.RowLemmas.{piece_more, piece_last}
use Rattle.dg_cost.proofs.mote_rows.all_rows.Goals as goal

pub returns-clause-last : goal.returns-clause-last
returns-clause-last c = piece_more _ (piece_last _ _ c.in_ok-push_moment.ensures) c.in_ok-own.ensures

pub returns-clause-moments : goal.returns-clause-moments
returns-clause-moments c = λ sums.
    all_then c.args.counter.now (c.in_ok-all.ensures sums)
    (none_then _ (none_then _ (none_added (table_of_rows c.in_ok-all.all)) c.in_ok-push_moment.ensures refl) c.in_ok-own.ensures refl)

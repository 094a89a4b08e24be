use Rattle.std.proofs.Common.{refl}
use Rattle.dg_cost_text.specs.Table.{table_of_rows}
use Rattle.dg_cost_text.proofs.MomentLemmas.{none_added, none_then}
use Rattle.dg_cost.proofs.mote_rows.push_totals.Goals as goal

pub returns : goal.returns
returns c =
    none_then _ (none_then _ (none_then _ (none_then _ (none_then _ (none_then _ (none_then _ (none_added (table_of_rows c.args.all.now)) c.in_ok-own.ensures
    refl) c.in_ok-own-2.ensures refl) c.in_ok-own-3.ensures refl) c.in_ok-own-4.ensures refl) c.in_ok-own-5.ensures
    refl) c.in_ok-own-6.ensures refl) c.in_ok-own-7.ensures refl

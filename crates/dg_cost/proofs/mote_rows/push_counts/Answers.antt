use Rattle.std.proofs.Common.{sym}
use Rattle.dg_cost_text.proofs.MomentLemmas.{then_none}
use Rattle.dg_cost.proofs.mote_rows.push_counts.Goals as goal

pub returns : goal.returns
returns c = λ sums. then_none (c.in_ok-push_sums.ensures (sums 0 c.in-Some.first.now (sym c.in-Some.ensures.value))) c.in_ok-push_totals.ensures

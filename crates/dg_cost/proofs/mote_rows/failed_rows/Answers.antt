use Rattle.std.proofs.Common.{refl}
use Rattle.dg_cost_text.proofs.MomentLemmas.{none_yet, none_then}
use Rattle.dg_cost.proofs.mote_rows.failed_rows.Goals as goal

pub returns : goal.returns
returns c = none_then _ (none_then _ (none_yet c.new-rows.ensures) c.in_ok-sum.ensures refl) c.in_ok-sum-2.ensures refl

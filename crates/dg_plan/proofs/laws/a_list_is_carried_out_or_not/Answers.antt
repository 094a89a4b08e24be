use Rattle.dg_plan.proofs.StopLemmas.{stops_first, stops_last, stops_one}
use Rattle.dg_plan.proofs.laws.a_list_is_carried_out_or_not.Goals as goal

pub returns : goal.returns
returns c = record { none = stops_first; all = stops_last; one = stops_one }

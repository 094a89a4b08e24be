use Rattle.dg_rules.proofs.StepLemmas.{step_narrow}
use Rattle.dg_rules.proofs.WidthLemmas.{declare_narrow, ended_narrow, played_narrow}
use Rattle.dg_rules.proofs.laws.widths_stay.Goals as goal

pub returns : goal.returns
returns c = record {
  stepped = λ w v x reports did. step_narrow w x v reports did;
  ended = λ w v x ends. ended_narrow w v x ends;
  declared = λ w v row reports did. declare_narrow w v row reports did;
  played = λ w v played run. played_narrow w v played run;
}

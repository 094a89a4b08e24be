use Rattle.dg_rules.proofs.EventLemmas.{RestartLaws}
use Rattle.dg_rules.proofs.ScriptLemmas.{Begins, script_from, script_more, script_true, script_fits, script_found}
use Rattle.dg_rules.proofs.laws.scripts_with_golden.Goals as goal

pub returns : goal.returns
returns c =
    let restart = c.a_restart_is_for_the_order.ensures in
    let restarts : RestartLaws = record { exactly = restart.exactly; nothing = restart.nothing } in
    let every = c.every_step_is_legal.ensures in
    let golden = c.golden_is_found.ensures in
    record {
      legal = λ g played v script honest.
          every.legal (Begins g played v script) v played (script_from g played v script restarts honest);
      keeps = λ g played v script honest.
          every.keeps (Begins g played v script) v played (script_from g played v script restarts honest);
      starts = λ g played v script honest.
          every.starts (Begins g played v script) v played (script_from g played v script restarts honest);
      agrees = λ g played v script honest.
          every.agrees (Begins g played v script) v played (script_from g played v script restarts honest);
      found = λ g played v e script fits. script_found g played v script restarts golden.stepped golden.found e fits;
      halves = λ g played v e script honest fits here.
          every.halves (Begins g played v script) v played e (script_from g played v script restarts honest)
          (script_fits g played v script e fits) (script_true g played v script restarts e here);
      more = λ g played more w v script from. script_more g played w script more v from;
      plays = λ g played v script honest. script_from g played v script restarts honest;
    }

use Rattle.dg_rules.proofs.EventLemmas.{RestartLaws}
use Rattle.dg_rules.proofs.BoardLemmas.{First, boards_from, boards_fit}
use Rattle.dg_rules.proofs.TableRunLemmas.{boards_true, next_true}
use Rattle.dg_rules.proofs.laws.scripts_with_boards.Goals as goal

pub returns : goal.returns
returns c =
    let restart = c.a_restart_is_for_the_order.ensures in
    let restarts : RestartLaws = record { exactly = restart.exactly; nothing = restart.nothing } in
    let every = c.every_step_is_legal.ensures in
    record {
      legal = λ table stores links narrow played v script agree holds.
          every.legal (First table stores links narrow) v played (boards_from table stores links narrow played v script agree (boards_true restarts table stores links narrow played v script holds));
      keeps = λ table stores links narrow played v script agree holds.
          every.keeps (First table stores links narrow) v played (boards_from table stores links narrow played v script agree (boards_true restarts table stores links narrow played v script holds));
      starts = λ table stores links narrow played v script agree holds.
          every.starts (First table stores links narrow) v played (boards_from table stores links narrow played v script agree (boards_true restarts table stores links narrow played v script holds));
      agrees = λ table stores links narrow played v script agree holds.
          every.agrees (First table stores links narrow) v played (boards_from table stores links narrow played v script agree (boards_true restarts table stores links narrow played v script holds));
      halves = λ table stores links narrow played v e script agree holds fits here.
          every.halves (First table stores links narrow) v played e (boards_from table stores links narrow played v script agree (boards_true restarts table stores links narrow played v script holds))
          (boards_fit table stores links narrow e fits) (next_true restarts table stores links narrow played v script holds e here);
      plays = λ table stores links narrow played v script agree holds. boards_from table stores links narrow played v script agree (boards_true restarts table stores links narrow played v script holds);
    }

use Rattle.std.proofs.Common.{◌≢◌, Result, sym, subst}
use Rattle.std.specs.Prelude.{IfErr}
use Rattle.dg_base.specs.declared.answers.Status.TheVariants as statuses
use Rattle.dg_end.specs.Lines.{HasFixedLine}
use Rattle.dg_end.specs.declared.ends.End.{End}
use Rattle.dg_end.proofs.last_line.finish.Goals as goal

pub returns-in-Err-clause-room : goal.returns-in-Err-clause-room
returns-in-Err-clause-room g c = subst (λ (x : Result (Unit {0}) End). IfErr x (λ e. HasFixedLine e → c.fail.result ≢ statuses.Memory)) (sym c.in-Err.is) c.fail.ensures.room

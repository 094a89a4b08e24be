use Rattle.std.proofs.lemmas.Result.{err_from_is_err_and}
use Rattle.dg_trial.proofs.TrialLemmas.{run_stopped}
use Rattle.dg_trial.proofs.call.run.Goals as goal

pub returns-in_err-world : goal.returns-in_err-world
returns-in_err-world g c =
    let p = err_from_is_err_and c.from_residual.result c.from_residual.ensures.1 in
    rw (p.1, p.2) (run_stopped c.in_err-world.field-0.0 c.args.motes c.args.pages c.args.seed _ _ c.in_err-world.ensures)

pub summarize-requires-clause-world : goal.summarize-requires-clause-world
summarize-requires-clause-world g c = let s = c.in_ok-world.ensures in (s.world, s.kept_now, s.count)

pub returns : goal.returns
returns g c = let s = c.in_ok-world.ensures in c.summarize.ensures c.args.seed _ s.world s.run s.count s.kept_now s.boards

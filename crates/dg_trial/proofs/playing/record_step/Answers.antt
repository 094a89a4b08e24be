use Rattle.std.proofs.Common.{◌∷◌, []}
use Rattle.std.proofs.lemmas.Result.{err_from_is_err_and}
use Rattle.dg_trial.proofs.RecordLemmas.{unrecorded}
use Rattle.dg_trial.proofs.playing.record_step.Goals as goal

pub play_step-requires : goal.play_step-requires
play_step-requires g c = c.requires

pub returns-in_err-play_step-clause-played : goal.returns-in_err-play_step-clause-played
returns-in_err-play_step-clause-played g c = λ part same.
    let p = err_from_is_err_and c.from_residual.result c.from_residual.ensures.1 in
    rw (p.1, p.2) (c.in_err-play_step.ensures part same)

pub returns-in_err-push_step-clause-played : goal.returns-in_err-push_step-clause-played
returns-in_err-push_step-clause-played g c = λ part same.
    let p = err_from_is_err_and c.from_residual-in_err-push_step.result c.from_residual-in_err-push_step.ensures.1 in
    rw (p.1, p.2) (unrecorded (part ∷ []) _ _ _ _ (c.in_ok-play_step.ensures part same))

pub returns-clause-played : goal.returns-clause-played
returns-clause-played g c = λ part same. c.in_ok-play_step.ensures part same

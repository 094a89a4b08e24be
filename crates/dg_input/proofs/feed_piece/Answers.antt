use Rattle.dg_input.proofs.feed_piece.Goals as goal

pub returns-in-Err-feed-clause-taken : goal.returns-in-Err-feed-clause-taken
returns-in-Err-feed-clause-taken g c =
    let came = c.in-Ok.ensures.taken in (came.0, came.1, came.2, tt, λ _ _ _. tt)

pub returns-in-Err-clause-taken : goal.returns-in-Err-clause-taken
returns-in-Err-clause-taken g c =
    let came = c.in-Err.ensures.taken in (came.0, came.1, came.2, tt, λ _ _ _. tt)

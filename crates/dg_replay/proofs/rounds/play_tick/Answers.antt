use Rattle.dg_replay.proofs.rounds.play_tick.Goals as goal

pub play_event-requires : goal.play_event-requires
play_event-requires g c = let x = c.requires in (x.0, x.1, record { event = x.2; cut = tt })

pub returns-clause-played : goal.returns-clause-played
returns-clause-played g c = c.play_event.ensures.played

pub returns-clause-kept : goal.returns-clause-kept
returns-clause-kept g c = c.play_event.ensures.kept

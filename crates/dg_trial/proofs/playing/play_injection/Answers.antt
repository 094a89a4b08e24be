use Rattle.dg_trial.proofs.playing.play_injection.Goals as goal

pub returns : goal.returns
returns g c = c.play_event.ensures

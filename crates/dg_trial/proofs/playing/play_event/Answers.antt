use Rattle.std.proofs.Common.{refl}
use Rattle.dg_trial.specs.Schedule.{always}
use Rattle.dg_trial.proofs.playing.play_event.Goals as goal

pub returns : goal.returns
returns g c = c.play_step.ensures (always c.args.event) (λ w is. refl)

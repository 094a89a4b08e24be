use Rattle.std.proofs.Common.{ap}
use Rattle.dg_mote.specs.Model.{MoteStep}
use Rattle.dg_mote.specs.declared.mote.Heard.{Heard}
use Rattle.dg_mote.proofs.SilentLemmas.{heard_silent, refused_is, refused_by, dropped_is}
use Rattle.dg_mote.proofs.rules.a_frame_is_heard_in_silence.Goals as goal

pub returns-clause-silent : goal.returns-clause-silent
returns-clause-silent c = heard_silent

pub returns-clause-refused : goal.returns-clause-refused
returns-clause-refused c m s now word bytes fault = (refused_by m s now word bytes fault, λ e. ap (λ (x : MoteStep Heard). x.answer) (refused_is m s now word bytes fault e))

pub returns-clause-unchanged : goal.returns-clause-unchanged
returns-clause-unchanged c = refused_is

pub returns-clause-dropped : goal.returns-clause-dropped
returns-clause-dropped c = dropped_is

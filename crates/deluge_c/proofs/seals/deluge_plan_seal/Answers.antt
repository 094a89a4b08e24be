use Rattle.std.proofs.Common.{◌≡◌, ◌∙◌, ap, inr}
use Rattle.std.specs.Prelude.{Err}
use Rattle.dg_plan.specs.declared.mounting.ActFault.TheVariants.{Act}
use Rattle.deluge_c.proofs.seals.deluge_plan_seal.Goals as goal

pub returns-in-Ok-clause-planned : goal.returns-in-Ok-clause-planned
returns-in-Ok-clause-planned c = λ is s stands. c.in-Ok.ensures.planned s stands

pub returns-in-Err-OutOfRange-clause-range : goal.returns-in-Err-OutOfRange-clause-range
returns-in-Err-OutOfRange-clause-range c = λ is. c.in-Err-OutOfRange.ensures.range (ap Err c.in-Err-OutOfRange.field-0-is)

pub returns-in-Err-NotAVolume-clause-no_volume : goal.returns-in-Err-NotAVolume-clause-no_volume
returns-in-Err-NotAVolume-clause-no_volume c = λ is. c.in-Err-NotAVolume.ensures.no_volume (ap Err c.in-Err-NotAVolume.field-0-is)

pub returns-in-Err-Act-NotKept-clause-not_kept : goal.returns-in-Err-Act-NotKept-clause-not_kept
returns-in-Err-Act-NotKept-clause-not_kept c = λ is. c.in-Err-Act-NotKept.ensures.not_kept (ap Err (c.in-Err-Act-NotKept.field-0-is ∙ ap Act c.in-Err-Act-NotKept.field-0-0-is))

pub returns-in-Err-Act-NotNext-clause-not_next : goal.returns-in-Err-Act-NotNext-clause-not_next
returns-in-Err-Act-NotNext-clause-not_next c = λ is s h stands held. (_, c.in-Err-Act-NotNext.ensures.not_next _ (ap Err (c.in-Err-Act-NotNext.field-0-is ∙ ap Act c.in-Err-Act-NotNext.field-0-0-is)) s h stands held)

pub returns-in-Err-Act-Bad-clause-bad : goal.returns-in-Err-Act-Bad-clause-bad
returns-in-Err-Act-Bad-clause-bad c = λ is. c.in-Err-Act-Bad.ensures.bad _ _ (ap Err (c.in-Err-Act-Bad.field-0-is ∙ ap Act c.in-Err-Act-Bad.field-0-0-is))

pub returns-in-Err-Act-Unfit-clause-unfit : goal.returns-in-Err-Act-Unfit-clause-unfit
returns-in-Err-Act-Unfit-clause-unfit c = λ is. c.in-Err-Act-Unfit.ensures.unfit (ap Err (c.in-Err-Act-Unfit.field-0-is ∙ ap Act c.in-Err-Act-Unfit.field-0-0-is))

pub returns-in-Err-Act-Stopped-clause-room : goal.returns-in-Err-Act-Stopped-clause-room
returns-in-Err-Act-Stopped-clause-room c = λ is s h stands held. inr (c.in-Err-Act-Stopped.ensures.room (ap Err (c.in-Err-Act-Stopped.field-0-is ∙ ap Act c.in-Err-Act-Stopped.field-0-0-is)) s h stands held)

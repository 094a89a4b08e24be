use Rattle.std.proofs.Common.{ℕ, List, sym, ap, subst, inl, inr}
use Rattle.std.specs.Prelude.{Err}
use Rattle.dg_volume.specs.Stands.{Mounted, IsMounted}
use Rattle.dg_plan.proofs.PlanLemmas.{lists_lent, chip_lent}
use Rattle.dg_plan.proofs.mounting.mount.Goals as goal

pub returns-in-Ok-clause-mounted : goal.returns-in-Ok-clause-mounted
returns-in-Ok-clause-mounted g c = λ s st. subst (λ (x : List ℕ). Mounted x c.in-Ok.volume s) (sym c.in-Ok.ensures.same_image) (c.in-Ok.ensures.mounted s st)

pub returns-in-Ok-clause-volume : goal.returns-in-Ok-clause-volume
returns-in-Ok-clause-volume g c = subst (λ (x : List ℕ). IsMounted x c.in-Ok.volume) (sym c.in-Ok.ensures.same_image) c.in-Ok.ensures.volume

pub returns-in-Ok-clause-same_lists : goal.returns-in-Ok-clause-same_lists
returns-in-Ok-clause-same_lists g c = lists_lent c.mount.new.nor c.args.plan.now c.mount.ensures.same_reference

pub returns-in-Ok-clause-same_chip : goal.returns-in-Ok-clause-same_chip
returns-in-Ok-clause-same_chip g c = chip_lent c.mount.new.nor c.args.plan.now c.mount.ensures.same_reference

pub returns-in-Err-NotAVolume-clause-same_lists : goal.returns-in-Err-NotAVolume-clause-same_lists
returns-in-Err-NotAVolume-clause-same_lists g c = lists_lent c.mount.new.nor c.args.plan.now c.mount.ensures.same_reference

pub returns-in-Err-NotAVolume-clause-same_chip : goal.returns-in-Err-NotAVolume-clause-same_chip
returns-in-Err-NotAVolume-clause-same_chip g c = chip_lent c.mount.new.nor c.args.plan.now c.mount.ensures.same_reference

pub returns-in-Err-Stopped-clause-same_lists : goal.returns-in-Err-Stopped-clause-same_lists
returns-in-Err-Stopped-clause-same_lists g c = lists_lent c.mount.new.nor c.args.plan.now c.mount.ensures.same_reference

pub returns-in-Err-Stopped-clause-same_chip : goal.returns-in-Err-Stopped-clause-same_chip
returns-in-Err-Stopped-clause-same_chip g c = chip_lent c.mount.new.nor c.args.plan.now c.mount.ensures.same_reference

pub returns-in-Err-NotAVolume-clause-no_volume : goal.returns-in-Err-NotAVolume-clause-no_volume
returns-in-Err-NotAVolume-clause-no_volume g c = λ r. (
  c.in-Err-NotAVolume.ensures.not_a_volume (ap Err c.in-Err-NotAVolume.field-0-is),
  c.in-Err-NotAVolume.ensures.refused (ap Err c.in-Err-NotAVolume.field-0-is),
)

pub returns-in-Err-NotAVolume-clause-only : goal.returns-in-Err-NotAVolume-clause-only
returns-in-Err-NotAVolume-clause-only g c = λ e r. inr cc

pub returns-in-Err-Stopped-clause-unread : goal.returns-in-Err-Stopped-clause-unread
returns-in-Err-Stopped-clause-unread g c = λ r. c.in-Err-Stopped.ensures.stopped (ap Err c.in-Err-Stopped.field-0-is)

pub returns-in-Err-Stopped-clause-only : goal.returns-in-Err-Stopped-clause-only
returns-in-Err-Stopped-clause-only g c = λ e r. inl cc

use Rattle.std.proofs.Common.{ℕ, List, refl, sym, subst, ap, ◌∙◌}
use Rattle.std.specs.Prelude.{Err}
use Rattle.dg_nor.specs.Device.{Device}
use Rattle.dg_nor.specs.Reads.{Looked}
use Rattle.dg_plan.specs.Plans.{plan_device}
use Rattle.dg_object.specs.Records.{outline_of}
use Rattle.dg_volume.specs.Stands.{Mounted}
use Rattle.dg_volume.specs.Trails.{take_trail}
use Rattle.dg_plan.proofs.PlanLemmas.{lists_lent, chip_lent, plan_of_act}
use Rattle.dg_plan.proofs.takes.take.Goals as goal

pub returns-in-Err-NotAVolume-clause-no_volume : goal.returns-in-Err-NotAVolume-clause-no_volume
returns-in-Err-NotAVolume-clause-no_volume c = λ e. c.in-Err-NotAVolume.ensures.not_a_volume (ap Err c.in-Err-NotAVolume.field-0-is)

pub returns-in-Ok-take-clause-planned : goal.returns-in-Ok-take-clause-planned
returns-in-Ok-take-clause-planned c = λ s stands.
    let m = subst (λ (x : List ℕ). Mounted x c.in-Ok.volume s) (sym c.in-Ok.ensures.same_image) (c.in-Ok.ensures.mounted s stands) in
    plan_of_act (take_trail s (outline_of c.args.profile.now)) c.args.plan.now c.mount.new.nor c.take.new.nor c.take.new.self c.in-Ok.ensures.looked (c.in-Ok-take.ensures.acted s m)

pub returns-in-Err-clause-refused : goal.returns-in-Err-clause-refused
returns-in-Err-clause-refused c = λ e r ne s stands.
    let m = subst (λ (x : List ℕ). Mounted x c.in-Ok.volume s) (sym c.in-Ok.ensures.same_image) (c.in-Ok.ensures.mounted s stands) in
    c.in-Err.ensures.refused e (cc r) ne s m

pub returns-in-Err-NotAVolume-clause-same_lists : goal.returns-in-Err-NotAVolume-clause-same_lists
returns-in-Err-NotAVolume-clause-same_lists c = lists_lent c.mount.new.nor c.args.plan.now c.mount.ensures.same_reference

pub returns-in-Err-NotAVolume-clause-same_chip : goal.returns-in-Err-NotAVolume-clause-same_chip
returns-in-Err-NotAVolume-clause-same_chip c = chip_lent c.mount.new.nor c.args.plan.now c.mount.ensures.same_reference

pub returns-in-Err-Stopped-clause-same_lists : goal.returns-in-Err-Stopped-clause-same_lists
returns-in-Err-Stopped-clause-same_lists c = lists_lent c.mount.new.nor c.args.plan.now c.mount.ensures.same_reference

pub returns-in-Err-Stopped-clause-same_chip : goal.returns-in-Err-Stopped-clause-same_chip
returns-in-Err-Stopped-clause-same_chip c = chip_lent c.mount.new.nor c.args.plan.now c.mount.ensures.same_reference

pub returns-in-Ok-take-clause-same_lists : goal.returns-in-Ok-take-clause-same_lists
returns-in-Ok-take-clause-same_lists c = lists_lent c.take.new.nor c.args.plan.now (c.take.ensures.same_reference ∙ c.mount.ensures.same_reference)

pub returns-in-Ok-take-clause-same_chip : goal.returns-in-Ok-take-clause-same_chip
returns-in-Ok-take-clause-same_chip c = chip_lent c.take.new.nor c.args.plan.now (c.take.ensures.same_reference ∙ c.mount.ensures.same_reference)

pub returns-in-Err-clause-same_lists : goal.returns-in-Err-clause-same_lists
returns-in-Err-clause-same_lists c = lists_lent c.take.new.nor c.args.plan.now (c.take.ensures.same_reference ∙ c.mount.ensures.same_reference)

pub returns-in-Err-clause-same_chip : goal.returns-in-Err-clause-same_chip
returns-in-Err-clause-same_chip c = chip_lent c.take.new.nor c.args.plan.now (c.take.ensures.same_reference ∙ c.mount.ensures.same_reference)

pub returns-in-Err-NotAVolume-clause-looked : goal.returns-in-Err-NotAVolume-clause-looked
returns-in-Err-NotAVolume-clause-looked c = λ e r nu ns. c.in-Err-NotAVolume.ensures.refused (ap Err c.in-Err-NotAVolume.field-0-is)

pub returns-in-Err-Stopped-clause-looked : goal.returns-in-Err-Stopped-clause-looked
returns-in-Err-Stopped-clause-looked c = λ e r nu ns. absurd (nu cc)

pub returns-in-Err-clause-looked : goal.returns-in-Err-clause-looked
returns-in-Err-clause-looked c = λ e r nu ns.
    let same = c.in-Err.ensures.unchanged c.in-Err.fault refl (λ w. ns cc) in
    subst (λ (d : Device). Looked (plan_device c.args.plan.now) d) (sym same.0) c.in-Ok.ensures.looked

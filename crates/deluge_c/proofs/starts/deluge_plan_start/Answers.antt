use Rattle.std.proofs.Common.{◌≡◌, subst, ap}
use Rattle.std.specs.Prelude.{Some, None, Err}
use Rattle.dg_volume.specs.Start.{boot}
use Rattle.dg_volume.specs.declared.volume.StartCause.{StartCause}
use Rattle.deluge_c.specs.Plans.{AreActOf}
use Rattle.deluge_c.proofs.PlanLemmas.{found_same}
use Rattle.deluge_c.proofs.starts.deluge_plan_start.Goals as goal

pub returns-in-Ok-clause-planned : goal.returns-in-Ok-clause-planned
returns-in-Ok-clause-planned c = λ is k s numbered stands.
    let same = found_same c.in-Some.kind k _ c.in-Some.ensures numbered in
    subst (λ (x : StartCause). AreActOf (boot x s).trail c.args.chip.now c.plan_start.new.commands c.plan_start.new.bytes c.plan_start.new.count) same (c.in-Ok.ensures.planned s stands)

pub returns-in-Ok-clause-started : goal.returns-in-Ok-clause-started
returns-in-Ok-clause-started c = λ is k s numbered stands.
    let same = found_same c.in-Some.kind k _ c.in-Some.ensures numbered in
    let r = c.in-Ok.ensures.started s stands in
    (r.0, subst (λ (x : StartCause). (boot x s).runs ≡ Some r.0) same r.1, c.started_fields.ensures r.0 r.2)

pub returns-in-Err-NoImage-clause-no_image : goal.returns-in-Err-NoImage-clause-no_image
returns-in-Err-NoImage-clause-no_image c = λ is k s numbered stands.
    let same = found_same c.in-Some.kind k _ c.in-Some.ensures numbered in
    let n = c.in-Err-NoImage.ensures.no_image (ap Err c.in-Err-NoImage.field-0-is) s stands in (
      subst (λ (x : StartCause). (boot x s).runs ≡ None) same n.0,
      subst (λ (x : StartCause). AreActOf (boot x s).trail c.args.chip.now c.plan_start.new.commands c.plan_start.new.bytes c.plan_start.new.count) same n.1,
    )

pub returns-in-Err-NotAVolume-clause-no_volume : goal.returns-in-Err-NotAVolume-clause-no_volume
returns-in-Err-NotAVolume-clause-no_volume c = λ is. c.in-Err-NotAVolume.ensures.no_volume (ap Err c.in-Err-NotAVolume.field-0-is)

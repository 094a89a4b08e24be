use Rattle.std.proofs.Common.{◌≡◌, ◌∙◌, refl, subst, ap}
use Rattle.std.specs.Prelude.{Some, Err}
use Rattle.dg_object.specs.Object.{Outline}
use Rattle.dg_volume.specs.Changes.{take_refusal}
use Rattle.dg_volume.specs.Trails.{take_trail}
use Rattle.dg_volume.specs.declared.volume.TakeFault.{TakeFault}
use Rattle.dg_volume.specs.declared.volume.TakeFault.TheVariants.{Reserved, Stale, Worn}
use Rattle.dg_plan.specs.declared.mounting.ActFault.TheVariants.{Act}
use Rattle.deluge_c.specs.Plans.{AreActOf}
use Rattle.deluge_c.proofs.PlanLemmas.{refusal_stops_not}
use Rattle.deluge_c.proofs.takes.deluge_plan_take.Goals as goal

pub returns-in-Ok-clause-planned : goal.returns-in-Ok-clause-planned
returns-in-Ok-clause-planned c = λ is s stands.
    subst (λ (o : Outline). AreActOf (take_trail s o) c.args.chip.now c.plan_take.new.commands c.plan_take.new.bytes c.plan_take.new.count) c.in-Some.ensures.found.0 (c.in-Ok.ensures.planned s stands)

pub returns-in-Err-NotAVolume-clause-no_volume : goal.returns-in-Err-NotAVolume-clause-no_volume
returns-in-Err-NotAVolume-clause-no_volume c = λ is. c.in-Err-NotAVolume.ensures.no_volume (ap Err c.in-Err-NotAVolume.field-0-is)

pub returns-in-Err-Act-Reserved-clause-refused : goal.returns-in-Err-Act-Reserved-clause-refused
returns-in-Err-Act-Reserved-clause-refused c = λ is s stands.
    let e : TakeFault = Reserved in
    let r = c.in-Err-Act-Reserved.ensures.refused e (ap Err (c.in-Err-Act-Reserved.field-0-is ∙ ap Act c.in-Err-Act-Reserved.field-0-0-is)) (refusal_stops_not e is) s stands in
    (e, subst (λ (o : Outline). take_refusal s o ≡ Some e) c.in-Some.ensures.found.0 r, refl)

pub returns-in-Err-Act-Stale-clause-refused : goal.returns-in-Err-Act-Stale-clause-refused
returns-in-Err-Act-Stale-clause-refused c = λ is s stands.
    let e : TakeFault = Stale c.in-Err-Act-Stale.field-0-0-0 in
    let r = c.in-Err-Act-Stale.ensures.refused e (ap Err (c.in-Err-Act-Stale.field-0-is ∙ ap Act c.in-Err-Act-Stale.field-0-0-is)) (refusal_stops_not e is) s stands in
    (e, subst (λ (o : Outline). take_refusal s o ≡ Some e) c.in-Some.ensures.found.0 r, refl)

pub returns-in-Err-Act-Worn-clause-refused : goal.returns-in-Err-Act-Worn-clause-refused
returns-in-Err-Act-Worn-clause-refused c = λ is s stands.
    let e : TakeFault = Worn c.in-Err-Act-Worn.field-0-0-0 in
    let r = c.in-Err-Act-Worn.ensures.refused e (ap Err (c.in-Err-Act-Worn.field-0-is ∙ ap Act c.in-Err-Act-Worn.field-0-0-is)) (refusal_stops_not e is) s stands in
    (e, subst (λ (o : Outline). take_refusal s o ≡ Some e) c.in-Some.ensures.found.0 r, refl)

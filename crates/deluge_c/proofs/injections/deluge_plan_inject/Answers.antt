use Rattle.std.proofs.Common.{◌≡◌, ◌∙◌, refl, ap}
use Rattle.std.specs.Prelude.{Some, Err}
use Rattle.dg_volume.specs.declared.volume.InjectFault.{InjectFault}
use Rattle.dg_volume.specs.declared.volume.InjectFault.TheVariants.{Empty, TooLarge, Stale, Reserved, Taken, Worn}
use Rattle.dg_plan.specs.declared.mounting.ActFault.TheVariants.{Act}
use Rattle.deluge_c.proofs.PlanLemmas.{inject_stops_not}
use Rattle.deluge_c.proofs.injections.deluge_plan_inject.Goals as goal

pub returns-in-Err-OutOfRange-clause-range : goal.returns-in-Err-OutOfRange-clause-range
returns-in-Err-OutOfRange-clause-range c = λ is. c.in-Err-OutOfRange.ensures.range (ap Err c.in-Err-OutOfRange.field-0-is)

pub returns-in-Err-NotAVolume-clause-no_volume : goal.returns-in-Err-NotAVolume-clause-no_volume
returns-in-Err-NotAVolume-clause-no_volume c = λ is. c.in-Err-NotAVolume.ensures.no_volume (ap Err c.in-Err-NotAVolume.field-0-is)

pub returns-in-Err-Act-Empty-clause-refused : goal.returns-in-Err-Act-Empty-clause-refused
returns-in-Err-Act-Empty-clause-refused c = λ is s stands.
    let e : InjectFault = Empty in
    (e, c.in-Err-Act-Empty.ensures.refused e (ap Err (c.in-Err-Act-Empty.field-0-is ∙ ap Act c.in-Err-Act-Empty.field-0-0-is)) (inject_stops_not e is) s stands, refl)

pub returns-in-Err-Act-TooLarge-clause-refused : goal.returns-in-Err-Act-TooLarge-clause-refused
returns-in-Err-Act-TooLarge-clause-refused c = λ is s stands.
    let e : InjectFault = TooLarge in
    (e, c.in-Err-Act-TooLarge.ensures.refused e (ap Err (c.in-Err-Act-TooLarge.field-0-is ∙ ap Act c.in-Err-Act-TooLarge.field-0-0-is)) (inject_stops_not e is) s stands, refl)

pub returns-in-Err-Act-Stale-clause-refused : goal.returns-in-Err-Act-Stale-clause-refused
returns-in-Err-Act-Stale-clause-refused c = λ is s stands.
    let e : InjectFault = Stale c.in-Err-Act-Stale.field-0-0-0 in
    (e, c.in-Err-Act-Stale.ensures.refused e (ap Err (c.in-Err-Act-Stale.field-0-is ∙ ap Act c.in-Err-Act-Stale.field-0-0-is)) (inject_stops_not e is) s stands, refl)

pub returns-in-Err-Act-Reserved-clause-refused : goal.returns-in-Err-Act-Reserved-clause-refused
returns-in-Err-Act-Reserved-clause-refused c = λ is s stands.
    let e : InjectFault = Reserved in
    (e, c.in-Err-Act-Reserved.ensures.refused e (ap Err (c.in-Err-Act-Reserved.field-0-is ∙ ap Act c.in-Err-Act-Reserved.field-0-0-is)) (inject_stops_not e is) s stands, refl)

pub returns-in-Err-Act-Taken-clause-refused : goal.returns-in-Err-Act-Taken-clause-refused
returns-in-Err-Act-Taken-clause-refused c = λ is s stands.
    let e : InjectFault = Taken in
    (e, c.in-Err-Act-Taken.ensures.refused e (ap Err (c.in-Err-Act-Taken.field-0-is ∙ ap Act c.in-Err-Act-Taken.field-0-0-is)) (inject_stops_not e is) s stands, refl)

pub returns-in-Err-Act-Worn-clause-refused : goal.returns-in-Err-Act-Worn-clause-refused
returns-in-Err-Act-Worn-clause-refused c = λ is s stands.
    let e : InjectFault = Worn c.in-Err-Act-Worn.field-0-0-0 in
    (e, c.in-Err-Act-Worn.ensures.refused e (ap Err (c.in-Err-Act-Worn.field-0-is ∙ ap Act c.in-Err-Act-Worn.field-0-0-is)) (inject_stops_not e is) s stands, refl)

use Rattle.std.proofs.Common.{◌≡◌, ◌⊎◌, ◌≤◌, ◌∙◌, refl, subst, ap}
use Rattle.std.specs.Prelude.{Some, Err}
use Rattle.dg_control.specs.declared.snapshot.Order.{Order}
use Rattle.dg_volume.specs.Sizes.{images}
use Rattle.dg_volume.specs.Changes.{order_refusal}
use Rattle.dg_volume.specs.Trails.{order_trail}
use Rattle.dg_volume.specs.declared.volume.OrderFault.{OrderFault}
use Rattle.dg_volume.specs.declared.volume.OrderFault.TheVariants.{OldOrder, Worn}
use Rattle.dg_plan.specs.declared.mounting.ActFault.TheVariants.{Act}
use Rattle.deluge_c.specs.Plans.{AreActOf}
use Rattle.deluge_c.proofs.PlanLemmas.{order_stops_not}
use Rattle.deluge_c.proofs.orders.deluge_plan_order.Goals as goal

pub returns-in-Ok-clause-planned : goal.returns-in-Ok-clause-planned
returns-in-Ok-clause-planned c = λ is s stands.
    subst (λ (o : Order). AreActOf (order_trail s o) c.args.chip.now c.plan_order.new.commands c.plan_order.new.bytes c.plan_order.new.count) c.order_in-wanted.ensures (c.in-Ok.ensures.planned s stands)

pub returns-in-Err-OutOfRange-clause-range : goal.returns-in-Err-OutOfRange-clause-range
returns-in-Err-OutOfRange-clause-range c = λ is.
    subst (λ (o : Order). (o.number ≡ 0) ⊎ (images ≤ o.image) ⊎ (o.version ≡ 0)) c.order_in-wanted.ensures (c.in-Err-OutOfRange.ensures.range (ap Err c.in-Err-OutOfRange.field-0-is))

pub returns-in-Err-NotAVolume-clause-no_volume : goal.returns-in-Err-NotAVolume-clause-no_volume
returns-in-Err-NotAVolume-clause-no_volume c = λ is. c.in-Err-NotAVolume.ensures.no_volume (ap Err c.in-Err-NotAVolume.field-0-is)

pub returns-in-Err-Act-OldOrder-clause-refused : goal.returns-in-Err-Act-OldOrder-clause-refused
returns-in-Err-Act-OldOrder-clause-refused c = λ is s stands.
    let e : OrderFault = OldOrder c.in-Err-Act-OldOrder.field-0-0-0 in
    let r = c.in-Err-Act-OldOrder.ensures.refused e (ap Err (c.in-Err-Act-OldOrder.field-0-is ∙ ap Act c.in-Err-Act-OldOrder.field-0-0-is)) (order_stops_not e is) s stands in
    (e, subst (λ (o : Order). order_refusal s o ≡ Some e) c.order_in-wanted.ensures r, refl)

pub returns-in-Err-Act-Worn-clause-refused : goal.returns-in-Err-Act-Worn-clause-refused
returns-in-Err-Act-Worn-clause-refused c = λ is s stands.
    let e : OrderFault = Worn c.in-Err-Act-Worn.field-0-0-0 in
    let r = c.in-Err-Act-Worn.ensures.refused e (ap Err (c.in-Err-Act-Worn.field-0-is ∙ ap Act c.in-Err-Act-Worn.field-0-0-is)) (order_stops_not e is) s stands in
    (e, subst (λ (o : Order). order_refusal s o ≡ Some e) c.order_in-wanted.ensures r, refl)

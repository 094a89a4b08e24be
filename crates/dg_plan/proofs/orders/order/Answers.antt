use Rattle.std.proofs.Common.{⊎_elim, refl, sym, ap, subst, ◌∙◌}
use Rattle.dg_nor.specs.Device.{Device}
use Rattle.dg_nor.specs.Reads.{Looked}
use Rattle.dg_nor.proofs.ReadLemmas.{Looked-none}
use Rattle.dg_volume.specs.Trails.{order_trail}
use Rattle.dg_plan.specs.Plans.{plan_device}
use Rattle.dg_plan.proofs.PlanLemmas.{lists_lent, chip_lent, looked_halted, plan_of_act}
use Rattle.dg_plan.proofs.orders.order.Goals as goal

pub returns-then-order-eq0-clause-looked : goal.returns-then-order-eq0-clause-looked
returns-then-order-eq0-clause-looked c = λ e r nu ns. Looked-none (plan_device c.args.plan.now)

pub returns-then-order-clause-looked : goal.returns-then-order-clause-looked
returns-then-order-clause-looked c = λ e r nu ns. Looked-none (plan_device c.args.plan.now)

pub returns-then-order-eq0-2-clause-looked : goal.returns-then-order-eq0-2-clause-looked
returns-then-order-eq0-2-clause-looked c = λ e r nu ns. Looked-none (plan_device c.args.plan.now)

-- ---- the chip is not mounted

pub returns-in-Err-clause-out_of_range : goal.returns-in-Err-clause-out_of_range
returns-in-Err-clause-out_of_range c = λ r. ⊎_elim (λ w. absurd cc) (λ w. absurd cc) (c.in-Err.ensures.only c.in-Err.fault refl)

pub returns-in-Err-clause-unread : goal.returns-in-Err-clause-unread
returns-in-Err-clause-unread c = λ r. c.in-Err.ensures.unread (cc r)

pub returns-in-Err-clause-no_volume : goal.returns-in-Err-clause-no_volume
returns-in-Err-clause-no_volume c = λ r. (c.in-Err.ensures.no_volume (cc r)).0

pub returns-in-Err-clause-refused : goal.returns-in-Err-clause-refused
returns-in-Err-clause-refused c = λ e r ne. ⊎_elim (λ w. absurd cc) (λ w. absurd cc) (c.in-Err.ensures.only c.in-Err.fault refl)

pub returns-in-Err-clause-looked : goal.returns-in-Err-clause-looked
returns-in-Err-clause-looked c = λ e r nu ns. ⊎_elim (λ w. absurd (nu cc)) (λ w. (c.in-Err.ensures.no_volume (ap Rattle.std.specs.Prelude.Err w)).1) (c.in-Err.ensures.only c.in-Err.fault refl)

pub returns-in-Err-clause-stopped : goal.returns-in-Err-clause-stopped
returns-in-Err-clause-stopped c = λ r. ⊎_elim (λ w. absurd cc) (λ w. absurd cc) (c.in-Err.ensures.only c.in-Err.fault refl)

-- ---- the act

pub returns-in-Ok-order-clause-planned : goal.returns-in-Ok-order-clause-planned
returns-in-Ok-order-clause-planned c = λ s st.
    plan_of_act (order_trail s c.args.order) c.args.plan.now c.mount.new.plan c.order.new.nor c.order.new.self c.in-Ok.ensures.looked (c.in-Ok-order.ensures.acted s (c.in-Ok.ensures.mounted s st))

pub returns-in-Ok-order-clause-same_lists : goal.returns-in-Ok-order-clause-same_lists
returns-in-Ok-order-clause-same_lists c = lists_lent c.order.new.nor c.mount.new.plan c.order.ensures.same_reference ∙ c.mount.ensures.same_lists

pub returns-in-Ok-order-clause-same_chip : goal.returns-in-Ok-order-clause-same_chip
returns-in-Ok-order-clause-same_chip c = chip_lent c.order.new.nor c.mount.new.plan c.order.ensures.same_reference ∙ c.mount.ensures.same_chip

pub returns-in-Err-order-clause-same_lists : goal.returns-in-Err-order-clause-same_lists
returns-in-Err-order-clause-same_lists c = lists_lent c.order.new.nor c.mount.new.plan c.order.ensures.same_reference ∙ c.mount.ensures.same_lists

pub returns-in-Err-order-clause-same_chip : goal.returns-in-Err-order-clause-same_chip
returns-in-Err-order-clause-same_chip c = chip_lent c.order.new.nor c.mount.new.plan c.order.ensures.same_reference ∙ c.mount.ensures.same_chip

pub returns-in-Err-order-clause-refused : goal.returns-in-Err-order-clause-refused
returns-in-Err-order-clause-refused c = λ e r ne s st. c.in-Err-order.ensures.refused e (cc r) ne s (c.in-Ok.ensures.mounted s st)

pub returns-in-Err-order-clause-looked : goal.returns-in-Err-order-clause-looked
returns-in-Err-order-clause-looked c = λ e r nu ns.
    let same = c.in-Err-order.ensures.unchanged c.in-Err-order.fault refl (λ w. ns cc) in
    subst (λ (d : Device). Looked (plan_device c.args.plan.now) d) (sym same.0) c.in-Ok.ensures.looked

pub returns-in-Err-order-clause-stopped : goal.returns-in-Err-order-clause-stopped
returns-in-Err-order-clause-stopped c = λ r s st. looked_halted c.in-Ok.ensures.looked (c.in-Err-order.ensures.stopped (cc r) s (c.in-Ok.ensures.mounted s st))

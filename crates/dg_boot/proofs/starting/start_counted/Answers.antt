use Rattle.std.proofs.Common.{sym, subst, ◌∙◌}
use Rattle.dg_volume.specs.Start.{Boot}
use Rattle.dg_boot.specs.Ends.{BootOutcome}
use Rattle.dg_boot.proofs.CaseLemmas.{counted_golden, counted_order, counted_kept}
use Rattle.dg_boot.proofs.starting.start_counted.Goals as goal

pub returns-then-chooses_golden-clause-boots : goal.returns-then-chooses_golden-clause-boots
returns-then-chooses_golden-clause-boots g c s m =
    let golden = sym (c.chooses_golden.ensures s m.tells) ∙ c.if-chooses_golden.true in
    subst (λ (b : Boot). BootOutcome c.start_golden.result b (g.N.Nor.device c.args.nor.now) (g.N.Nor.device c.start_golden.new.nor)) (sym (counted_golden s golden)) (c.start_golden.ensures.boots s m)

pub returns-then-order_waits-clause-boots : goal.returns-then-order_waits-clause-boots
returns-then-order_waits-clause-boots g c s m =
    let golden = sym (c.chooses_golden.ensures s m.tells) ∙ c.if-chooses_golden.false in
    let waits = sym (c.order_waits.ensures s m.tells) ∙ c.if-order_waits.true in
    subst (λ (b : Boot). BootOutcome c.try_order.result b (g.N.Nor.device c.args.nor.now) (g.N.Nor.device c.try_order.new.nor)) (sym (counted_order s golden waits)) (c.try_order.ensures.boots s m)

pub returns-else-order_waits-clause-boots : goal.returns-else-order_waits-clause-boots
returns-else-order_waits-clause-boots g c s m =
    let golden = sym (c.chooses_golden.ensures s m.tells) ∙ c.if-chooses_golden.false in
    let waits = sym (c.order_waits.ensures s m.tells) ∙ c.if-order_waits.false in
    subst (λ (b : Boot). BootOutcome c.start_kept.result b (g.N.Nor.device c.args.nor.now) (g.N.Nor.device c.start_kept.new.nor)) (sym (counted_kept s golden waits)) (c.start_kept.ensures.boots s m)

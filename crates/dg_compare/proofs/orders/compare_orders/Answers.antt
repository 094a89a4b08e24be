use Rattle.dg_compare.proofs.AlikeLemmas.{orders_then}
use Rattle.dg_compare.proofs.orders.compare_orders.Goals as goal

pub returns-then-same : goal.returns-then-same
returns-then-same c s t shown other =
    orders_then s t c.args.one.now c.args.other.now c.is_same-same.result c.is_waived_alike.result c.waives_order-waived.result c.waives_order-other_waived.result c.larger.result shown other c.is_same-same.ensures c.if-same.true
    (c.waives_order-waived.ensures s shown) (c.waives_order-other_waived.ensures t other) c.is_waived_alike.ensures c.larger.ensures

use Rattle.dg_count.proofs.costs.Costs.settle_fills.Goals as goal

pub loop-index-preserved : goal.loop-index-preserved
loop-index-preserved c played has = c.drop_fill.ensures played (c.loop-index.invariant played has)

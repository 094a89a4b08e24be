use Rattle.dg_count.proofs.costs.Costs.end_fill.Goals as goal

pub loop-place-preserved : goal.loop-place-preserved
loop-place-preserved c played has = c.mark_at.ensures played (c.loop-place.invariant played has)

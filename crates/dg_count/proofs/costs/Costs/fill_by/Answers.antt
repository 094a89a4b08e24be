use Rattle.dg_count.proofs.costs.Costs.fill_by.Goals as goal

pub returns-then-work-gt0 : goal.returns-then-work-gt0
returns-then-work-gt0 c played has = c.use_fill.ensures played (c.fill_some.ensures played has)

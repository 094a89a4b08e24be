use Rattle.dg_count.proofs.costs.Costs.heard_bytes.Goals as goal

pub returns : goal.returns
returns c played has = c.fill_by.ensures played (c.mark_traced.ensures played has)

use Rattle.dg_count.proofs.costs.Costs.note_more.Goals as goal

pub returns : goal.returns
returns c played has = c.fill_by.ensures played (c.drop_if_begun.ensures played has)

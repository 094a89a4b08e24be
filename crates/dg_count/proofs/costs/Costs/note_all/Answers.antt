use Rattle.dg_count.proofs.costs.Costs.note_all.Goals as goal

pub returns-in_err-note_brought : goal.returns-in_err-note_brought
returns-in_err-note_brought g c played has = c.note_brought.ensures played (c.drop_if_begun.ensures played has)

pub returns : goal.returns
returns g c played has = c.note_brought.ensures played (c.drop_if_begun.ensures played has)

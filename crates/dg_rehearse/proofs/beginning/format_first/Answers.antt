use Rattle.dg_rehearse.proofs.beginning.format_first.Goals as goal

pub returns-in-Ok : goal.returns-in-Ok
returns-in-Ok g c = record { stands = c.in-Ok.ensures.formatted; awake = c.in-Ok.ensures.awake; calm = c.in-Ok.ensures.calm; boards = c.in-Ok.ensures.others }

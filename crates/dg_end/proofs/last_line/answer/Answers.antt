use Rattle.std.proofs.Common.{Ok}
use Rattle.dg_end.proofs.FinishLemmas.{of_line, came_to}
use Rattle.dg_end.proofs.last_line.answer.Goals as goal

pub returns-in-Ok-clause-ends : goal.returns-in-Ok-clause-ends
returns-in-Ok-clause-ends g c =
    came_to _ _ c.args.outcome (Ok c.in-Ok.text) _ _ c.in-Ok.is (of_line _ _ _ c.in-Ok.text.items _ _ c.deref.ensures.value (c.write_last.ensures.ends))

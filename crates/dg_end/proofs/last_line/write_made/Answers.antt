use Rattle.std.proofs.Common.{◌≡◌, ◌∙◌}
use Rattle.dg_end.proofs.FinishLemmas.{of_line, ok_line}
use Rattle.dg_end.proofs.last_line.write_made.Goals as goal

pub returns-in-Ok-clause-ends : goal.returns-in-Ok-clause-ends
returns-in-Ok-clause-ends g c = λ text is.
    of_line _ _ _ text _ _ (c.deref.ensures.value ∙ ok_line c.args.made c.in-Ok.line (λ l. l.items ≡ text) c.in-Ok.is is) (c.write_last.ensures.ends)

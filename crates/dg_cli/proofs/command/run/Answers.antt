use Rattle.dg_cli.proofs.DispatchLemmas.{asked_said, reads_same, uses_same}
use Rattle.dg_cli.proofs.command.run.Goals as goal

pub returns-in-Ok-Command-clause-untouched : goal.returns-in-Ok-Command-clause-untouched
returns-in-Ok-Command-clause-untouched g c =
    λ unread. c.dispatch.ensures.untouched (λ reads. unread (reads_same _ _ (asked_said _ _ _ c.in-Ok-Command.field-0-is c.in-Ok-Command.ensures.answer) reads))

pub returns-in-Ok-Command-clause-apart : goal.returns-in-Ok-Command-clause-apart
returns-in-Ok-Command-clause-apart g c =
    λ other. c.dispatch.ensures.apart (λ uses. other (uses_same _ _ (asked_said _ _ _ c.in-Ok-Command.field-0-is c.in-Ok-Command.ensures.answer) uses))

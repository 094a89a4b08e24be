use Rattle.dg_trickle.proofs.RunLaws.{sends_if_untouched, suppressed_if_heard, sends_at_most_once}
use Rattle.dg_trickle.proofs.suppression.Goals as goal

pub returns-clause-untouched : goal.returns-clause-untouched
returns-clause-untouched c = sends_if_untouched

pub returns-clause-heard : goal.returns-clause-heard
returns-clause-heard c = suppressed_if_heard

pub returns-clause-once : goal.returns-clause-once
returns-clause-once c = sends_at_most_once

use Rattle.dg_quiet.proofs.NotedLaws.{request-noted, packet-noted, may_ask-noted}
use Rattle.dg_quiet.proofs.last_note_counts.Goals as goal

pub returns-clause-request : goal.returns-clause-request
returns-clause-request c = request-noted

pub returns-clause-packet : goal.returns-clause-packet
returns-clause-packet c = packet-noted

pub returns-clause-ask : goal.returns-clause-ask
returns-clause-ask c = may_ask-noted

use Rattle.dg_mote.proofs.RoundAsk.{asks_law, requests_law}
use Rattle.dg_mote.proofs.rounds.a_drained_mote_asks.Goals as goal

pub returns-clause-asks : goal.returns-clause-asks
returns-clause-asks c = let ends = c.acts_end.ensures in asks_law (record { order = ends.order; take = ends.take; take_begins = c.trails_begin.ensures.take })

pub returns-clause-requests : goal.returns-clause-requests
returns-clause-requests c = requests_law

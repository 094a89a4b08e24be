use Rattle.dg_mote.proofs.ChangeLemmas.{tick_clears, advert_keeps_better, request_rests, packet_completes}
use Rattle.dg_mote.proofs.changes.what_a_mote_may_change.Goals as goal

pub returns-clause-ticked : goal.returns-clause-ticked
returns-clause-ticked c = tick_clears

pub returns-clause-advert : goal.returns-clause-advert
returns-clause-advert c m s now word bytes wide source entries order is = advert_keeps_better c.acts_end.ensures.take c.trails_begin.ensures.take entries order s m now word bytes wide source is

pub returns-clause-request : goal.returns-clause-request
returns-clause-request c = request_rests

pub returns-clause-packet : goal.returns-clause-packet
returns-clause-packet c = packet_completes

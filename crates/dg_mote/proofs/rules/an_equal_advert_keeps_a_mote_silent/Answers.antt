use Rattle.dg_mote.proofs.SilentLemmas.{heard_silent}
use Rattle.dg_mote.proofs.SuppressLemmas.{equal_heard, suppressed_in}
use Rattle.dg_mote.proofs.rules.an_equal_advert_keeps_a_mote_silent.Goals as goal

pub returns-clause-heard : goal.returns-clause-heard
returns-clause-heard c = equal_heard

pub returns-clause-silent : goal.returns-clause-silent
returns-clause-silent c = suppressed_in heard_silent

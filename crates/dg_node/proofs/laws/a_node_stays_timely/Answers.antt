use Rattle.dg_node.proofs.TimelyLemmas.{reset_timely, tick_timely, hear_timely}
use Rattle.dg_node.proofs.laws.a_node_stays_timely.Goals as goal

pub returns-clause-powered : goal.returns-clause-powered
returns-clause-powered c = λ s id now word wide. reset_timely c.a_mote_stays_timely.ensures.begins s id now word wide

pub returns-clause-ticked : goal.returns-clause-ticked
returns-clause-ticked c = λ m s now word timely. tick_timely c.a_mote_stays_timely.ensures.begins m s now word (c.a_mote_stays_timely.ensures.ticked m s now word timely)

pub returns-clause-heard : goal.returns-clause-heard
returns-clause-heard c = λ m s now word bytes timely. hear_timely c.a_mote_stays_timely.ensures.begins m s now word bytes (c.a_mote_stays_timely.ensures.heard m s now word bytes timely)

use Rattle.dg_mote.proofs.BeginLemmas.{tick_begins, heard_begins}
use Rattle.dg_mote.proofs.laws.steps_begin.Goals as goal

pub returns-clause-ticked : goal.returns-clause-ticked
returns-clause-ticked c = let b = c.trails_begin.ensures in tick_begins b.order b.clear b.take

pub returns-clause-heard : goal.returns-clause-heard
returns-clause-heard c = let b = c.trails_begin.ensures in heard_begins b.order b.clear b.take

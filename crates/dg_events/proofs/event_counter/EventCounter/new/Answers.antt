use Rattle.std.proofs.Common.{refl}
use Rattle.dg_events.proofs.CountLemmas.{none_counted}
use Rattle.dg_events.proofs.event_counter.EventCounter.new.Goals as goal

pub returns : goal.returns
returns c = record { all = refl; motes = refl; each = none_counted 16 c.none.result c.none.ensures.counts }

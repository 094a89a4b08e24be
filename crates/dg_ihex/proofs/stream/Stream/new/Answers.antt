use Rattle.dg_ihex.proofs.StreamLemmas.{going_nothing}
use Rattle.dg_ihex.proofs.stream.Stream.new.Goals as goal

pub returns : goal.returns
returns c = going_nothing _ c.new.ensures c.new-2.ensures.items

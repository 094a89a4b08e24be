use Rattle.std.proofs.Common.{refl, subst}
use Rattle.dg_ihex.specs.Streams.{Stays}
use Rattle.dg_ihex.proofs.StreamLemmas.{going_short}
use Rattle.dg_ihex.proofs.stream.Stream.shorten.Goals as goal

pub returns : goal.returns
returns c input g = going_short c.args.self.now _ input g refl (subst (Stays c.in_ok-self.field-0.items) c.deref.ensures.value c.in_ok-self.ensures)

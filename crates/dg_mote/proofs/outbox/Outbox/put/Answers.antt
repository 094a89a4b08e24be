use Rattle.dg_frame.proofs.ReadingLemmas.{wider_range}
use Rattle.dg_mote.proofs.outbox.Outbox.put.Goals as goal

pub invariant_of-self : goal.invariant_of-self
invariant_of-self c = record { ranged = wider_range c.requires.0 c.args.message.now c.requires.1 }

use Rattle.std.proofs.Common.{arith}
use Rattle.dg_mote.proofs.ReadLemmas.{frame_short}
use Rattle.dg_mote.proofs.laws.a_mote_buffers_little.Goals as goal

pub returns-clause-alive : goal.returns-clause-alive
returns-clause-alive c = record {
  counted = omega arith;
  largest = omega arith;
  sending = omega arith;
  asking = omega arith;
  committing = omega arith;
  taking = omega arith;
  comparing = omega arith;
  testing = omega arith;
  measuring = omega arith;
  copying = omega arith;
  mounting = omega arith;
  spelling = omega arith;
  describing = omega arith;
}

pub returns-clause-values : goal.returns-clause-values
returns-clause-values c = record { mote = omega arith; outbox = omega arith }

pub returns-clause-frames : goal.returns-clause-frames
returns-clause-frames c = λ wide. frame_short wide (λ b r. c.one_reading.ensures.reading b wide r)

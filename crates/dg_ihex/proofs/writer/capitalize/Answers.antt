use Rattle.std.proofs.Common.{arith}
use Rattle.dg_ihex.proofs.WriterLemmas.{capital_more}
use Rattle.dg_ihex.proofs.writer.capitalize.Goals as goal

pub loop-at-preserved : goal.loop-at-preserved
loop-at-preserved c =
    let m = capital_more c.loop-at.text c.args.text.now c.loop-at.at c.to_ascii_uppercase.result (omega arith) (omega arith) c.to_ascii_uppercase.ensures.value c.loop-at.invariant.done c.loop-at.invariant.rest in
    record { done = m.0; rest = m.1 }

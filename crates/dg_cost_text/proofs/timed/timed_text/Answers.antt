use Rattle.std.proofs.Common.{take, get_or}
use Rattle.std.proofs.lemmas.List.{take_more}
use Rattle.dg_cost_text.specs.Timed.{stamped}
use Rattle.dg_cost_text.proofs.TimedLemmas.{timed_more}
use Rattle.dg_cost_text.proofs.timed.timed_text.Goals as goal

pub loop-byte-preserved : goal.loop-byte-preserved
loop-byte-preserved c =
    let p = c.in_ok-push_byte.ensures in
    rw (take_more c.args.report.now c.loop-byte.byte-index 0 c.loop-byte-test.true, p.2)
    (timed_more (take c.loop-byte.byte-index c.args.report.now) c.loop-byte.text.items (stamped p.0 (get_or c.args.report.now c.loop-byte.byte-index 0)) c.loop-byte.invariant p.1)

use Rattle.std.proofs.Common.{arith}
use Rattle.dg_script.proofs.NumberLineLemmas.{holds, tick_event, last_event}
use Rattle.dg_script.proofs.plain.plain_event.Goals as goal

pub returns-then-begins_with : goal.returns-then-begins_with
returns-then-begins_with c =
    tick_event c.args.place.now c.args.text.now c.split_at.result.1.now c.plain_tick.result (omega (arith, c.if-text-lt-LETTERS.false)) (omega (arith, c.if-text-gt-LONGEST.false))
    (holds c.begins_with.result c.if-begins_with.true c.begins_with.ensures) c.split_at.ensures.back c.plain_tick.ensures.space c.plain_tick.ensures.event

pub returns-then-begins_with-2 : goal.returns-then-begins_with-2
returns-then-begins_with-2 c =
    last_event c.args.place.now c.args.text.now c.split_at.result.1.now c.plain_last.result (omega (arith, c.if-text-lt-LETTERS.false)) (omega (arith, c.if-text-gt-LONGEST.false))
    (holds c.begins_with-2.result c.if-begins_with-2.true c.begins_with-2.ensures) c.split_at.ensures.back c.plain_last.ensures.space c.plain_last.ensures.event

use Rattle.std.proofs.Common.{◌-◌, ◌<◌, length, arith}
use Rattle.dg_events.proofs.FrameEvents.{kinds_kept, kind_there}
use Rattle.dg_events.proofs.frame_counter.hear_in.Goals as goal

pub returns : goal.returns
returns c =
    let lt : c.args.number - 1 < length c.args.sent.now = omega (arith, c.if-number-eq0.false, c.if-sent-number.false) in
    record {
      index = c.args.number - 1;
      number_is = omega (arith, c.if-number-eq0.false);
      there = kind_there c.args.sent.now (c.args.number - 1) _ c.hear.result.kind lt c.hear.ensures.kind;
      kept = kinds_kept c.args.sent.now (c.args.number - 1) _ c.hear.new.self lt c.hear.ensures.kept;
    }

use Rattle.std.proofs.Common.{◌-◌, ◌<◌, length, arith}
use Rattle.dg_events.proofs.FrameEvents.{kinds_kept}
use Rattle.dg_events.proofs.frame_counter.mark_in.Goals as goal

pub returns : goal.returns
returns c =
    let lt : c.args.number - 1 < length c.args.sent.now = omega (arith, c.if-number-eq0.false, c.if-sent-number.false) in
    kinds_kept c.args.sent.now (c.args.number - 1) _ c.mark.new.self lt c.mark.ensures

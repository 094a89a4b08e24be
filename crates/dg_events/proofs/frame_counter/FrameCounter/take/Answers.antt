use Rattle.std.proofs.Common.{sym, ◌∙◌}
use Rattle.dg_events.proofs.FrameEvents.{outside_event, refused_outside}
use Rattle.dg_events.proofs.frame_counter.FrameCounter.take.Goals as goal

pub returns-then-is_refused : goal.returns-then-is_refused
returns-then-is_refused c past p h has =
    refused_outside c.args.self.now c.args.bytes.now c.args.fault c.args.event.now c.args.reports.now past p h
    (sym c.is_refused.ensures ∙ c.if-is_refused.true) has

pub returns : goal.returns
returns c past p h has =
    outside_event c.args.self.now c.add_outside.new.motes c.args.mote c.args.bytes.now c.args.fault c.args.event.now c.args.reports.now past p h
    (sym c.is_refused.ensures ∙ c.if-is_refused.false) c.requires.mote c.add_outside.ensures has

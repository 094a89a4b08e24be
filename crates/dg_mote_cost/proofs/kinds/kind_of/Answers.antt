use Rattle.std.proofs.Common.{ap, ◌∙◌}
use Rattle.dg_mote_cost.proofs.KindLemmas.{number_of, frame_kind, frame_sized}
use Rattle.dg_events.specs.Frames.{frame_size}
use Rattle.dg_mote_cost.proofs.kinds.kind_of.Goals as goal

pub returns-in-Advert-clause-number : goal.returns-in-Advert-clause-number
returns-in-Advert-clause-number c = frame_kind c.args.message.now ∙ ap number_of c.in-Advert.is

pub returns-in-Advert-clause-size : goal.returns-in-Advert-clause-size
returns-in-Advert-clause-size c =
    frame_sized c.args.message.now (c.is_read_back.ensures _ c.requires.range) ∙ ap frame_size (ap number_of c.in-Advert.is)

pub returns-in-Request-clause-number : goal.returns-in-Request-clause-number
returns-in-Request-clause-number c = frame_kind c.args.message.now ∙ ap number_of c.in-Request.is

pub returns-in-Request-clause-size : goal.returns-in-Request-clause-size
returns-in-Request-clause-size c =
    frame_sized c.args.message.now (c.is_read_back.ensures _ c.requires.range) ∙ ap frame_size (ap number_of c.in-Request.is)

pub returns-in-Packet-clause-number : goal.returns-in-Packet-clause-number
returns-in-Packet-clause-number c = frame_kind c.args.message.now ∙ ap number_of c.in-Packet.is

pub returns-in-Packet-clause-size : goal.returns-in-Packet-clause-size
returns-in-Packet-clause-size c =
    frame_sized c.args.message.now (c.is_read_back.ensures _ c.requires.range) ∙ ap frame_size (ap number_of c.in-Packet.is)

pub returns-in-Wide-clause-number : goal.returns-in-Wide-clause-number
returns-in-Wide-clause-number c = frame_kind c.args.message.now ∙ ap number_of c.in-Wide.is

pub returns-in-Wide-clause-size : goal.returns-in-Wide-clause-size
returns-in-Wide-clause-size c =
    frame_sized c.args.message.now (c.is_read_back.ensures _ c.requires.range) ∙ ap frame_size (ap number_of c.in-Wide.is)

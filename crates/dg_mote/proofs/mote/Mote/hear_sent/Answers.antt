use Rattle.std.proofs.Common.{Result, Ok, refl, sym, subst}
use Rattle.dg_frame.specs.Sizes.{known_images}
use Rattle.dg_frame.specs.Ranges.{PageInRange, IsInRange}
use Rattle.dg_frame.specs.Spelling.{frame_of}
use Rattle.dg_frame.specs.declared.Message.{Message}
use Rattle.dg_nor.specs.declared.device.Stopped.{Stopped}
use Rattle.dg_volume.specs.Acts.{Stops}
use Rattle.dg_mote.specs.Requests.{on_request, page_request}
use Rattle.dg_mote.specs.Packets.{on_packet, page_packet}
use Rattle.dg_mote.specs.Hears.{heard_of}
use Rattle.dg_mote.specs.Motes.{Done}
use Rattle.dg_mote.specs.Hearing.{ChipStays}
use Rattle.dg_mote.specs.declared.requests.PageName.{PageName}
use Rattle.dg_mote.specs.declared.mote.Heard.{Heard}
use Rattle.dg_mote.proofs.ServeLemmas.{rests_done, if_ok, on_err}
use Rattle.dg_mote.proofs.MessageLemmas.{if_none_by, stays_anyway, heard_done, heard_stops, heard_keeps_consistent, heard_stops_consistent}
use Rattle.dg_mote.proofs.mote.Mote.hear_sent.Goals as goal

-- ---- one that is not heard

pub returns-in-Some-clause-done : goal.returns-in-Some-clause-done
returns-in-Some-clause-done g c m s is =
    let a = g.N.Nor.device c.args.nor.now in
    let bytes = frame_of c.args.message.now in
    rests_done (heard_of m s c.args.now c.args.word bytes) a s c.args.self.now c.in-Some.heard (c.in-Some.ensures.unheard a.image m s c.args.now c.args.word is)

pub returns-in-Some-clause-unchanged : goal.returns-in-Some-clause-unchanged
returns-in-Some-clause-unchanged g c = stays_anyway c.in-Some.heard _ (refl, refl)

pub returns-in-Some-clause-consistent : goal.returns-in-Some-clause-consistent
returns-in-Some-clause-consistent g c =
    let a = g.N.Nor.device c.args.nor.now in
    let r : Result Heard Stopped = Ok c.in-Some.heard in
    heard_keeps_consistent c.a_mote_keeps_consistency.ensures.heard r a a c.args.self.now c.args.self.now c.args.now c.args.word (frame_of c.args.message.now) (returns-in-Some-clause-done g c)

-- ---- an advert

pub returns-in-Advert-clause-done : goal.returns-in-Advert-clause-done
returns-in-Advert-clause-done g c =
    let x = c.hear_advert in
    heard_done x.result (g.N.Nor.device c.args.nor.now) (g.N.Nor.device x.new.nor) c.args.self.now x.new.self c.args.now c.args.word (frame_of c.args.message.now) c.args.message.now _
    (λ m s. if_none_by c.unheard.result _ c.in_default.not-Some c.unheard.ensures.heard m s c.args.now c.args.word) c.in-Advert.is x.ensures.done

pub returns-in-Advert-clause-stopped : goal.returns-in-Advert-clause-stopped
returns-in-Advert-clause-stopped g c =
    let x = c.hear_advert in
    heard_stops x.result (g.N.Nor.device c.args.nor.now) (g.N.Nor.device x.new.nor) c.args.self.now c.args.now c.args.word (frame_of c.args.message.now) c.args.message.now _
    (λ m s. if_none_by c.unheard.result _ c.in_default.not-Some c.unheard.ensures.heard m s c.args.now c.args.word) c.in-Advert.is x.ensures.stopped

pub returns-in-Advert-clause-consistent : goal.returns-in-Advert-clause-consistent
returns-in-Advert-clause-consistent g c =
    let x = c.hear_advert in
    heard_keeps_consistent c.a_mote_keeps_consistency.ensures.heard x.result (g.N.Nor.device c.args.nor.now) (g.N.Nor.device x.new.nor) c.args.self.now x.new.self c.args.now c.args.word (frame_of c.args.message.now) (returns-in-Advert-clause-done g c)

pub returns-in-Advert-clause-stops_consistent : goal.returns-in-Advert-clause-stops_consistent
returns-in-Advert-clause-stops_consistent g c =
    let x = c.hear_advert in
    heard_stops_consistent c.a_mote_keeps_consistency.ensures.heard c.a_mote_keeps_consistency.ensures.stopped x.result (g.N.Nor.device c.args.nor.now) (g.N.Nor.device x.new.nor) c.args.self.now c.args.now c.args.word (frame_of c.args.message.now) (returns-in-Advert-clause-stopped g c)

-- ---- a wide advert

pub returns-in-Wide-clause-done : goal.returns-in-Wide-clause-done
returns-in-Wide-clause-done g c =
    let x = c.hear_advert-in-Wide in
    heard_done x.result (g.N.Nor.device c.args.nor.now) (g.N.Nor.device x.new.nor) c.args.self.now x.new.self c.args.now c.args.word (frame_of c.args.message.now) c.args.message.now _
    (λ m s. if_none_by c.unheard.result _ c.in_default.not-Some c.unheard.ensures.heard m s c.args.now c.args.word) c.in-Wide.is x.ensures.done

pub returns-in-Wide-clause-stopped : goal.returns-in-Wide-clause-stopped
returns-in-Wide-clause-stopped g c =
    let x = c.hear_advert-in-Wide in
    heard_stops x.result (g.N.Nor.device c.args.nor.now) (g.N.Nor.device x.new.nor) c.args.self.now c.args.now c.args.word (frame_of c.args.message.now) c.args.message.now _
    (λ m s. if_none_by c.unheard.result _ c.in_default.not-Some c.unheard.ensures.heard m s c.args.now c.args.word) c.in-Wide.is x.ensures.stopped

pub returns-in-Wide-clause-consistent : goal.returns-in-Wide-clause-consistent
returns-in-Wide-clause-consistent g c =
    let x = c.hear_advert-in-Wide in
    heard_keeps_consistent c.a_mote_keeps_consistency.ensures.heard x.result (g.N.Nor.device c.args.nor.now) (g.N.Nor.device x.new.nor) c.args.self.now x.new.self c.args.now c.args.word (frame_of c.args.message.now) (returns-in-Wide-clause-done g c)

pub returns-in-Wide-clause-stops_consistent : goal.returns-in-Wide-clause-stops_consistent
returns-in-Wide-clause-stops_consistent g c =
    let x = c.hear_advert-in-Wide in
    heard_stops_consistent c.a_mote_keeps_consistency.ensures.heard c.a_mote_keeps_consistency.ensures.stopped x.result (g.N.Nor.device c.args.nor.now) (g.N.Nor.device x.new.nor) c.args.self.now c.args.now c.args.word (frame_of c.args.message.now) (returns-in-Wide-clause-stopped g c)

-- ---- a request

pub hear_request-requires-clause-range : goal.hear_request-requires-clause-range
hear_request-requires-clause-range g c =
    let at = subst (λ (y : Message). IsInRange c.args.self.now.wide y) c.in-Request.is (if_none_by c.unheard.result _ c.in_default.not-Some c.unheard.ensures.range) in
    subst (λ (n : PageName). PageInRange (known_images c.args.self.now.wide) n.image n.version n.page) (sym c.new-name.ensures) at.0

pub returns-in-Request-clause-done : goal.returns-in-Request-clause-done
returns-in-Request-clause-done g c =
    let x = c.in-Request in
    let h = c.hear_request in
    let a = g.N.Nor.device c.args.nor.now in
    let r : Result Heard Stopped = Ok h.result in
    heard_done r a a c.args.self.now h.new.self c.args.now c.args.word (frame_of c.args.message.now) c.args.message.now _
    (λ m s. if_none_by c.unheard.result _ c.in_default.not-Some c.unheard.ensures.heard m s c.args.now c.args.word) x.is
    (λ m s is. rests_done (on_request m s c.args.now x.to (page_request x.image x.version x.page x.want)) a s h.new.self h.result
    (subst (λ (n : PageName). ChipStays (on_request m s c.args.now x.to (page_request n.image n.version n.page x.want)) a.image s h.new.self h.result) c.new-name.ensures (h.ensures.rests a.image m s is)))

pub returns-in-Request-clause-consistent : goal.returns-in-Request-clause-consistent
returns-in-Request-clause-consistent g c =
    let h = c.hear_request in
    let a = g.N.Nor.device c.args.nor.now in
    let r : Result Heard Stopped = Ok h.result in
    heard_keeps_consistent c.a_mote_keeps_consistency.ensures.heard r a a c.args.self.now h.new.self c.args.now c.args.word (frame_of c.args.message.now) (returns-in-Request-clause-done g c)

-- ---- a packet

pub hear_packet-requires-clause-range : goal.hear_packet-requires-clause-range
hear_packet-requires-clause-range g c =
    let at = subst (λ (y : Message). IsInRange c.args.self.now.wide y) c.in-Packet.is (if_none_by c.unheard.result _ c.in_default.not-Some c.unheard.ensures.range) in
    subst (λ (n : PageName). PageInRange (known_images c.args.self.now.wide) n.image n.version n.page) (sym c.new-name-in-Packet.ensures) at.0

pub returns-in-Packet-clause-done : goal.returns-in-Packet-clause-done
returns-in-Packet-clause-done g c =
    let x = c.in-Packet in
    let h = c.hear_packet in
    let a = g.N.Nor.device c.args.nor.now in
    let b = g.N.Nor.device h.new.nor in
    heard_done h.result a b c.args.self.now h.new.self c.args.now c.args.word (frame_of c.args.message.now) c.args.message.now _
    (λ m s. if_none_by c.unheard.result _ c.in_default.not-Some c.unheard.ensures.heard m s c.args.now c.args.word) x.is
    (if_ok h.result h.ensures.done (λ answer done m s is.
    subst (λ (n : PageName). Done (on_packet m.mode m s c.args.now c.args.word (page_packet n.image n.version n.page x.packet x.bytes)) a b h.new.self answer) c.new-name-in-Packet.ensures (done m s is)))

pub returns-in-Packet-clause-stopped : goal.returns-in-Packet-clause-stopped
returns-in-Packet-clause-stopped g c =
    let x = c.in-Packet in
    let h = c.hear_packet in
    let a = g.N.Nor.device c.args.nor.now in
    let b = g.N.Nor.device h.new.nor in
    heard_stops h.result a b c.args.self.now c.args.now c.args.word (frame_of c.args.message.now) c.args.message.now _
    (λ m s. if_none_by c.unheard.result _ c.in_default.not-Some c.unheard.ensures.heard m s c.args.now c.args.word) x.is
    (on_err h.result h.ensures.stopped (λ stopped m s is.
    subst (λ (n : PageName). Stops (on_packet m.mode m s c.args.now c.args.word (page_packet n.image n.version n.page x.packet x.bytes)).trail a b) c.new-name-in-Packet.ensures (stopped m s is)))

pub returns-in-Packet-clause-consistent : goal.returns-in-Packet-clause-consistent
returns-in-Packet-clause-consistent g c =
    let h = c.hear_packet in
    heard_keeps_consistent c.a_mote_keeps_consistency.ensures.heard h.result (g.N.Nor.device c.args.nor.now) (g.N.Nor.device h.new.nor) c.args.self.now h.new.self c.args.now c.args.word (frame_of c.args.message.now) (returns-in-Packet-clause-done g c)

pub returns-in-Packet-clause-stops_consistent : goal.returns-in-Packet-clause-stops_consistent
returns-in-Packet-clause-stops_consistent g c =
    let h = c.hear_packet in
    heard_stops_consistent c.a_mote_keeps_consistency.ensures.heard c.a_mote_keeps_consistency.ensures.stopped h.result (g.N.Nor.device c.args.nor.now) (g.N.Nor.device h.new.nor) c.args.self.now c.args.now c.args.word (frame_of c.args.message.now) (returns-in-Packet-clause-stopped g c)

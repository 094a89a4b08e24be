use Rattle.std.proofs.Common.{◌≡◌, ℕ, ◌<◌, true, List, Some, None, IfSome, option_map, refl, sym, ap, subst, ◌∙◌}
use Rattle.dg_nor.proofs.DeviceLemmas.{OnErr_from}
use Rattle.dg_nor.proofs.ReadLemmas.{Looked-none}
use Rattle.dg_bits.specs.Sets.{Numbers}
use Rattle.dg_recv.specs.Reception.{Reception}
use Rattle.dg_recv.specs.Steps.{ask_of}
use Rattle.dg_recv.specs.declared.Ask.TheVariants as ask
use Rattle.dg_trickle.specs.Steps.{started}
use Rattle.dg_send.specs.Owed.{Owed}
use Rattle.dg_slot.specs.Layout.{packets, page_sector}
use Rattle.dg_slot.specs.Pages.{packet_in}
use Rattle.dg_slot.specs.declared.states.PageJob.{PageJob}
use Rattle.dg_volume.specs.Store.{Store}
use Rattle.dg_frame.specs.Grammar.{in_range}
use Rattle.dg_frame.specs.Spelling.{frame_of}
use Rattle.dg_slot.specs.Jobs.{outline_of_slot, done_of_slot, slot_of}
use Rattle.dg_frame.specs.declared.Message.{Message}
use Rattle.dg_frame.specs.declared.Message.TheVariants.{Request, Packet}
use Rattle.dg_mote.specs.Model.{MoteState, Mode, Maintain, Receive, NamesKnown, MoteStep, maintains}
use Rattle.dg_mote.specs.Ticks.{asked, mode_tick}
use Rattle.dg_mote.specs.Motes.{IsMote, ModeStands, IsRead}
use Rattle.dg_mote.specs.declared.mote.Did.{Did}
use Rattle.dg_mote.specs.declared.mote.Did.TheVariants.{Sent, Idle}
use Rattle.dg_mote.specs.declared.mote.Mote.{Mote}
use Rattle.dg_mote.specs.declared.mote.Mode.{Mode as ModeValue}
use Rattle.dg_mote.specs.declared.mote.Mode.TheVariants as value
use Rattle.dg_mote.proofs.ModeLemmas.{AtReceive, AtTransmit, at_maintain, at_receive, at_transmit}
use Rattle.dg_mote.proofs.SayLemmas.{request_fits, PacketSays, packet_says}
use Rattle.dg_mote.proofs.ActLemmas.{rests_done, turn_done, with_mode, same_mote, receive_turn, asked_stands, waits_same, gives_up_same, transmit_turn, last_sent, sent_on, nothing_sent, idle_turn, read_stops}
use Rattle.dg_mote.proofs.mote.Mote.tick_busy.Goals as goal

-- the mode by the rules, in each arm
receiving : (d : List ℕ) (v : Mote) (m : MoteState) (s : Store) (version server : ℕ) (asking : Reception) (job : PageJob) → v.mode ≡ value.Receive version server asking job → IsMote d v m s
    → AtReceive d v.volume s version server asking job m.mode
receiving d v m s version server asking job is h = at_receive d v.volume s version server asking job m.mode (subst (λ (x : ModeValue). ModeStands d v.volume s x m.mode) is h.mode)

transmitting : (d : List ℕ) (v : Mote) (m : MoteState) (s : Store) (image version page : ℕ) (owed : Owed) → v.mode ≡ value.Transmit image version page owed → IsMote d v m s → AtTransmit v.volume s image version page owed m.mode
transmitting d v m s image version page owed is h = at_transmit d v.volume s image version page owed m.mode (subst (λ (x : ModeValue). ModeStands d v.volume s x m.mode) is h.mode)

-- and what it says of a packet
says : (d : List ℕ) (v : Mote) (m : MoteState) (s : Store) (image version page q : ℕ) (owed : Owed) → v.mode ≡ value.Transmit image version page owed → IsMote d v m s → q < packets
    → (at : AtTransmit v.volume s image version page owed m.mode) × PacketSays d s at.t image version page q
says d v m s image version page q owed is h less =
    let at = transmitting d v m s image version page owed is h in
    (at, packet_says d v.volume s at.t image version page q at.of_image at.of_version at.of_page h.mounted at.transmits.serves less)

said_fits : (d : List ℕ) (v : Mote) (m : MoteState) (s : Store) (image version page q : ℕ) (owed : Owed) (x : Message) → v.mode ≡ value.Transmit image version page owed → IsMote d v m s → q < packets
    → x ≡ Packet v.id image version page q (packet_in d (page_sector image page) q) → in_range m.wide x ≡ true
said_fits d v m s image version page q owed x is h less e =
    let at = says d v m s image version page q owed is h less in
    subst (λ (y : Message). in_range m.wide y ≡ true) (sym e) (at.1.fits m.wide v.id (subst (NamesKnown m.wide) at.0.is h.known))

asked_fits : (d : List ℕ) (v : Mote) (m : MoteState) (s : Store) (version server now : ℕ) (asking : Reception) (job : PageJob) (want : Numbers) (x : Message) → v.mode ≡ value.Receive version server asking job → IsMote d v m s → ask.Request want ≡ ask_of asking now
    → x ≡ Request v.id server (outline_of_slot (slot_of job)).image version (done_of_slot (slot_of job)) want → in_range m.wide x ≡ true
asked_fits d v m s version server now asking job want x is h asks e =
    let at = receiving d v m s version server asking job is h in
    subst (λ (y : Message). in_range m.wide y ≡ true) (sym e)
    (request_fits d v.volume s job at.r m.wide v.id server version now asking want (subst (NamesKnown m.wide) at.is h.known) at.receives at.of_version at.asks asks)

pub put-requires : goal.put-requires
put-requires g c =
    let a = g.N.Nor.device c.args.nor.now in
    let v = c.args.self.now in
    let x = c.requires.mote in
    let arm = c.in-Receive in
    (x.0.wide, asked_fits a.image v x.0 x.1 arm.version arm.server c.args.now arm.asking arm.job c.in-Request.want c.request_message.result arm.is x.2 c.in-Request.ensures.ask c.request_message.ensures)

pub maintain_anew-requires-clause-mote : goal.maintain_anew-requires-clause-mote
maintain_anew-requires-clause-mote g c =
    let a = g.N.Nor.device c.args.nor.now in
    let x = c.requires.mote in
    let arm = c.in-Receive in (
      a.image,
      x.0,
      x.1,
      same_mote a.image c.args.self.now x.0 x.1 (value.Receive arm.version arm.server c.next.new.self arm.job)
          (ap (λ (y : Reception). value.Receive arm.version arm.server y arm.job) (gives_up_same arm.asking c.next.new.self c.args.now c.in-GiveUp.ensures.ask c.next.ensures.after) ∙ sym arm.is) x.2,
    )

pub packet_message-requires-clause-known_page : goal.packet_message-requires-clause-known_page
packet_message-requires-clause-known_page g c =
    let x = c.requires.mote in
    let arm = c.in-Transmit in
    (says (g.N.Nor.device c.args.nor.now).image c.args.self.now x.0 x.1 arm.image arm.version arm.page c.in-Send.packet arm.serving arm.is x.2 (c.in-Send.ensures.of_page c.in-Send.packet refl)).1.known_page

pub returns-in_err-message-in-Send-clause-stopped : goal.returns-in_err-message-in-Send-clause-stopped
returns-in_err-message-in-Send-clause-stopped g c = OnErr_from c.from_residual.result (λ m s h.
    let a = g.N.Nor.device c.args.nor.now in
    let arm = c.in-Transmit in
    let at = transmitting a.image c.args.self.now m s arm.image arm.version arm.page arm.serving arm.is h in
    read_stops _ a (g.N.Nor.device c.packet_message.new.nor) _ s _ _ (transmit_turn m s at.t arm.serving _ c.args.now c.args.word at.is at.owes c.in-Send.ensures.serve) h.mounted.stands c.in_err-message-in-Send.ensures.ends)

pub put-requires-in-Send : goal.put-requires-in-Send
put-requires-in-Send g c =
    let x = c.requires.mote in
    let arm = c.in-Transmit in (
      x.0.wide,
      said_fits (g.N.Nor.device c.args.nor.now).image c.args.self.now x.0 x.1 arm.image arm.version arm.page c.in-Send.packet arm.serving c.in_ok-message-in-Send.message arm.is x.2 (c.in-Send.ensures.of_page c.in-Send.packet refl)
          c.in_ok-message-in-Send.ensures.message,
    )

pub returns-in-Maintain-clause-done : goal.returns-in-Maintain-clause-done
returns-in-Maintain-clause-done g c m s h =
    let a = g.N.Nor.device c.args.nor.now in
    let v = c.args.self.now in
    let arm = c.in-Maintain in
    let new = c.maintain.new.trickle in
    let at = at_maintain a.image v.volume s arm.trickle m.mode (subst (λ (x : ModeValue). ModeStands a.image v.volume s x m.mode) arm.is h.mode) in
    let shows = c.maintain.ensures m s (sym h.id) (sym h.wide) at.is h.mounted.tells in
    let turn = ap (λ (mode : Mode). mode_tick mode m s c.args.now c.args.word) at.is in
    rests_done _ a a _ (record m { mode = Maintain new }) s c.maintain.result (ap (λ t. t.mote) turn ∙ shows.mote) (ap (λ t. t.trail) turn ∙ shows.trail) (shows.answer ∙ sym (ap (λ t. t.answer) turn)) (Looked-none a)
    (with_mode a.image a.image v m s (value.Maintain new) (Maintain new) refl h (refl, at.free) tt)

pub returns-in-Request-clause-done : goal.returns-in-Request-clause-done
returns-in-Request-clause-done g c m s h =
    let a = g.N.Nor.device c.args.nor.now in
    let v = c.args.self.now in
    let arm = c.in-Receive in
    let at = receiving a.image v m s arm.version arm.server arm.asking arm.job arm.is h in
    turn_done _ a a _ _ s _ Sent (receive_turn m s at.r arm.asking _ c.args.now c.args.word at.is at.asks c.in-Request.ensures.ask) (Looked-none a)
    (with_mode a.image a.image v m s (value.Receive arm.version arm.server c.next.new.self arm.job) (Receive (asked at.r c.args.now)) refl h
    (asked_stands a.image v.volume s arm.version arm.server c.args.now arm.asking c.next.new.self arm.job at.r at.asks c.next.ensures.after at.from_server at.of_version at.receives)
    (subst (NamesKnown m.wide) at.is h.known))

pub returns-in-GiveUp-clause-done : goal.returns-in-GiveUp-clause-done
returns-in-GiveUp-clause-done g c m s h =
    let a = g.N.Nor.device c.args.nor.now in
    let v = c.args.self.now in
    let arm = c.in-Receive in
    let at = receiving a.image v m s arm.version arm.server arm.asking arm.job arm.is h in
    turn_done _ a a _ _ s _ Idle (receive_turn m s at.r arm.asking _ c.args.now c.args.word at.is at.asks c.in-GiveUp.ensures.ask) (Looked-none a)
    (c.maintain_anew.ensures a.image m s (same_mote a.image v m s (value.Receive arm.version arm.server c.next.new.self arm.job)
    (ap (λ (y : Reception). value.Receive arm.version arm.server y arm.job) (gives_up_same arm.asking c.next.new.self c.args.now c.in-GiveUp.ensures.ask c.next.ensures.after) ∙ sym arm.is) h))

pub returns-in-Wait-clause-done : goal.returns-in-Wait-clause-done
returns-in-Wait-clause-done g c m s h =
    let a = g.N.Nor.device c.args.nor.now in
    let v = c.args.self.now in
    let arm = c.in-Receive in
    let at = receiving a.image v m s arm.version arm.server arm.asking arm.job arm.is h in
    turn_done _ a a _ _ s _ Idle (receive_turn m s at.r arm.asking _ c.args.now c.args.word at.is at.asks c.in-Wait.ensures.ask) (Looked-none a)
    (same_mote a.image v m s (value.Receive arm.version arm.server c.next.new.self arm.job)
    (ap (λ (y : Reception). value.Receive arm.version arm.server y arm.job) (waits_same arm.asking c.next.new.self c.args.now c.in-Wait.ensures.ask c.next.ensures.after) ∙ sym arm.is) h)

pub returns-then-left-eq0-clause-done : goal.returns-then-left-eq0-clause-done
returns-then-left-eq0-clause-done g c m s h =
    let a = g.N.Nor.device c.args.nor.now in
    let b = g.N.Nor.device c.packet_message.new.nor in
    let v = c.args.self.now in
    let arm = c.in-Transmit in
    let ends = c.in_ok-message-in-Send.ensures.ends in
    let at = transmitting a.image v m s arm.image arm.version arm.page arm.serving arm.is h in
    let turn = transmit_turn m s at.t arm.serving _ c.args.now c.args.word at.is at.owes c.in-Send.ensures.serve in
    rests_done _ a b _ (maintains m c.args.now c.args.word) s Sent
    (ap (λ t. t.mote) turn ∙ last_sent m at.t arm.serving c.next-in-Transmit.new.self c.left.result c.args.now c.args.word at.owes c.next-in-Transmit.ensures.after c.left.ensures c.if-left-eq0.true)
    (ap (λ t. t.trail) turn) (sym (ap (λ t. t.answer) turn)) ends
    (with_mode a.image b.image v m s (value.Maintain c.new.result) (Maintain (started c.args.now c.args.word)) ends.same_image h (c.new.ensures.value, at.transmits.free) tt)

pub returns-then-left-eq0-clause-sent : goal.returns-then-left-eq0-clause-sent
returns-then-left-eq0-clause-sent g c m s h =
    let a = g.N.Nor.device c.args.nor.now in
    let arm = c.in-Transmit in
    let at = says a.image c.args.self.now m s arm.image arm.version arm.page c.in-Send.packet arm.serving arm.is h (c.in-Send.ensures.of_page c.in-Send.packet refl) in
    c.put-in-Send.ensures.sent ∙ ap (λ (x : Message). Some (frame_of x)) (c.in_ok-message-in-Send.ensures.message ∙ at.1.is c.args.self.now.id m.id h.id)
    ∙ sym (ap (λ t. option_map frame_of t.sent) (transmit_turn m s at.0.t arm.serving _ c.args.now c.args.word at.0.is at.0.owes c.in-Send.ensures.serve))

pub returns-else-left-eq0-clause-done : goal.returns-else-left-eq0-clause-done
returns-else-left-eq0-clause-done g c m s h =
    let a = g.N.Nor.device c.args.nor.now in
    let b = g.N.Nor.device c.packet_message.new.nor in
    let v = c.args.self.now in
    let arm = c.in-Transmit in
    let next = c.next-in-Transmit.new.self in
    let ends = c.in_ok-message-in-Send.ensures.ends in
    let at = transmitting a.image v m s arm.image arm.version arm.page arm.serving arm.is h in
    let turn = transmit_turn m s at.t arm.serving _ c.args.now c.args.word at.is at.owes c.in-Send.ensures.serve in
    let on = sent_on a.image v.volume s m at.t arm.image arm.version arm.page arm.serving next c.left.result c.args.now c.args.word at.of_image at.of_version at.of_page at.owes at.transmits (subst (NamesKnown m.wide) at.is h.known)
    c.next-in-Transmit.ensures.after c.left.ensures c.if-left-eq0.false in
    rests_done _ a b _ (record m { mode = on.mode }) s Sent (ap (λ t. t.mote) turn ∙ on.is) (ap (λ t. t.trail) turn) (sym (ap (λ t. t.answer) turn)) ends
    (with_mode a.image b.image v m s (value.Transmit arm.image arm.version arm.page next) on.mode ends.same_image h on.stands on.known)

pub returns-else-left-eq0-clause-sent : goal.returns-else-left-eq0-clause-sent
returns-else-left-eq0-clause-sent g c m s h =
    let a = g.N.Nor.device c.args.nor.now in
    let arm = c.in-Transmit in
    let at = says a.image c.args.self.now m s arm.image arm.version arm.page c.in-Send.packet arm.serving arm.is h (c.in-Send.ensures.of_page c.in-Send.packet refl) in
    c.put-in-Send.ensures.sent ∙ ap (λ (x : Message). Some (frame_of x)) (c.in_ok-message-in-Send.ensures.message ∙ at.1.is c.args.self.now.id m.id h.id)
    ∙ sym (ap (λ t. option_map frame_of t.sent) (transmit_turn m s at.0.t arm.serving _ c.args.now c.args.word at.0.is at.0.owes c.in-Send.ensures.serve))

pub returns-in-Done : goal.returns-in-Done
returns-in-Done g c =
    let a = g.N.Nor.device c.args.nor.now in
    let v = c.args.self.now in
    let arm = c.in-Transmit in
    let next = c.next-in-Transmit in
    record {
      done = λ m s h.
          let at = transmitting a.image v m s arm.image arm.version arm.page arm.serving arm.is h in
          turn_done _ a a _ m s None Idle (idle_turn m s at.t arm.serving next.result c.args.now c.args.word at.is at.owes c.in-Done.is next.ensures.serve) (Looked-none a)
          (same_mote a.image v m s (value.Transmit arm.image arm.version arm.page next.new.self)
          (ap (value.Transmit arm.image arm.version arm.page) (nothing_sent arm.serving next.new.self next.result c.args.now c.in-Done.is next.ensures.serve next.ensures.after) ∙ sym arm.is) h);
      sent = λ m s h.
          let at = transmitting a.image v m s arm.image arm.version arm.page arm.serving arm.is h in
          c.requires.empty ∙ sym (ap (λ t. option_map frame_of t.sent) (idle_turn m s at.t arm.serving next.result c.args.now c.args.word at.is at.owes c.in-Done.is next.ensures.serve));
      read = λ m s h.
          let at = transmitting a.image v m s arm.image arm.version arm.page arm.serving arm.is h in
          subst (λ (t : MoteStep Did). IfSome t.sent (IsRead m.wide)) (sym (idle_turn m s at.t arm.serving next.result c.args.now c.args.word at.is at.owes c.in-Done.is next.ensures.serve)) tt;
      same_reference = refl;
      stopped = tt;
      nothing_sent = tt;
    }

pub returns-in-Maintain-clause-read : goal.returns-in-Maintain-clause-read
returns-in-Maintain-clause-read g c m s h =
    let a = g.N.Nor.device c.args.nor.now in
    let v = c.args.self.now in
    let arm = c.in-Maintain in
    let at = at_maintain a.image v.volume s arm.trickle m.mode (subst (λ (x : ModeValue). ModeStands a.image v.volume s x m.mode) arm.is h.mode) in
    let shows = c.maintain.ensures m s (sym h.id) (sym h.wide) at.is h.mounted.tells in
    subst (λ (mode : Mode). IfSome (mode_tick mode m s c.args.now c.args.word).sent (IsRead m.wide)) (sym at.is) shows.read

pub returns-then-left-eq0-clause-read : goal.returns-then-left-eq0-clause-read
returns-then-left-eq0-clause-read g c m s h =
    let a = g.N.Nor.device c.args.nor.now in
    let arm = c.in-Transmit in
    let at = says a.image c.args.self.now m s arm.image arm.version arm.page c.in-Send.packet arm.serving arm.is h (c.in-Send.ensures.of_page c.in-Send.packet refl) in
    subst (λ (t : MoteStep Did). IfSome t.sent (IsRead m.wide)) (sym (transmit_turn m s at.0.t arm.serving _ c.args.now c.args.word at.0.is at.0.owes c.in-Send.ensures.serve))
    (subst (IsRead m.wide) (c.in_ok-message-in-Send.ensures.message ∙ at.1.is c.args.self.now.id m.id h.id)
    (c.put-in-Send.ensures.read m.wide
    (said_fits a.image c.args.self.now m s arm.image arm.version arm.page c.in-Send.packet arm.serving c.in_ok-message-in-Send.message arm.is h (c.in-Send.ensures.of_page c.in-Send.packet refl) c.in_ok-message-in-Send.ensures.message)))

pub returns-else-left-eq0-clause-read : goal.returns-else-left-eq0-clause-read
returns-else-left-eq0-clause-read g c m s h =
    let a = g.N.Nor.device c.args.nor.now in
    let arm = c.in-Transmit in
    let at = says a.image c.args.self.now m s arm.image arm.version arm.page c.in-Send.packet arm.serving arm.is h (c.in-Send.ensures.of_page c.in-Send.packet refl) in
    subst (λ (t : MoteStep Did). IfSome t.sent (IsRead m.wide)) (sym (transmit_turn m s at.0.t arm.serving _ c.args.now c.args.word at.0.is at.0.owes c.in-Send.ensures.serve))
    (subst (IsRead m.wide) (c.in_ok-message-in-Send.ensures.message ∙ at.1.is c.args.self.now.id m.id h.id)
    (c.put-in-Send.ensures.read m.wide
    (said_fits a.image c.args.self.now m s arm.image arm.version arm.page c.in-Send.packet arm.serving c.in_ok-message-in-Send.message arm.is h (c.in-Send.ensures.of_page c.in-Send.packet refl) c.in_ok-message-in-Send.ensures.message)))

pub returns-in-Request-clause-read : goal.returns-in-Request-clause-read
returns-in-Request-clause-read g c m s h =
    let a = g.N.Nor.device c.args.nor.now in
    let v = c.args.self.now in
    let arm = c.in-Receive in
    let at = receiving a.image v m s arm.version arm.server arm.asking arm.job arm.is h in
    let x = at.receives in
    let said : Request v.id arm.server (outline_of_slot (slot_of arm.job)).image arm.version (done_of_slot (slot_of arm.job)) c.in-Request.want ≡ Request m.id at.r.server at.r.image at.r.version at.r.page c.in-Request.want =
    λ i. Request (h.id i) (at.from_server i) (x.image i) (at.of_version i) ((x.stands.slot.opens.done ∙ x.next) i) c.in-Request.want in
    subst (λ (t : MoteStep Did). IfSome t.sent (IsRead m.wide)) (sym (receive_turn m s at.r arm.asking _ c.args.now c.args.word at.is at.asks c.in-Request.ensures.ask))
    (subst (IsRead m.wide) (c.request_message.ensures ∙ said)
    (c.put.ensures.read m.wide (asked_fits a.image v m s arm.version arm.server c.args.now arm.asking arm.job c.in-Request.want c.request_message.result arm.is h c.in-Request.ensures.ask c.request_message.ensures)))

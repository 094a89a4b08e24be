-- The page that a mote asks for, through ticks and frames: its packets came in frames.
use Rattle.std.proofs.Common.{◌≡◌, ◌⊎◌, ℕ, zero, suc, ◌≤◌, Bool, true, false, List, replicate, Option, Some, None, is_some, Result, Ok, Err, refl, sym, ap, subst, ◌∙◌, inl, inr, ⊎_elim}
use Rattle.std.specs.Prelude.{◌==◌}
use Rattle.std.specs.FinSet as set
use Rattle.std.proofs.lemmas.Bool.{cond_both, cases_eq}
use Rattle.std.proofs.lemmas.List.{get_or-set_other}
use Rattle.dg_nor.specs.Trail.{last}
use Rattle.dg_trickle.specs.Timer.{Timer}
use Rattle.dg_trickle.specs.Steps.{act_of, after_tick}
use Rattle.dg_trickle.specs.declared.Act.{Act}
use Rattle.dg_trickle.specs.declared.Act.TheVariants as act
use Rattle.dg_recv.specs.Steps.{ask_of}
use Rattle.dg_recv.specs.declared.Ask.{Ask}
use Rattle.dg_recv.specs.declared.Ask.TheVariants as ask
use Rattle.dg_send.specs.Steps.{serve_of, after_next}
use Rattle.dg_send.specs.declared.Serve.{Serve}
use Rattle.dg_send.specs.declared.Serve.TheVariants as serve
use Rattle.dg_bits.specs.Sets.{Numbers}
use Rattle.dg_control.specs.declared.snapshot.Order.{Order}
use Rattle.dg_slot.specs.Layout.{packets}
use Rattle.dg_slot.specs.Kept.{Held}
use Rattle.dg_slot.specs.Jobs.{packet, put_packet, no_packets, page_from}
use Rattle.dg_slot.specs.Fits.{may_seal}
use Rattle.dg_volume.specs.Store.{Store, held}
use Rattle.dg_volume.specs.Start.{order_waits}
use Rattle.dg_frame.specs.Grammar.{message_of}
use Rattle.dg_frame.specs.declared.Entry.{Entry}
use Rattle.dg_frame.specs.declared.FrameFault.{FrameFault}
use Rattle.dg_frame.specs.declared.Message.{Message}
use Rattle.dg_frame.specs.declared.Message.TheVariants.{Advert, Request, Packet, Wide}
use Rattle.dg_mote.specs.Model.{MoteState, Mode, Maintain, Receive, Transmit, Receiving, Sending, came, reception, MoteStep}
use Rattle.dg_mote.specs.Summary.{entry_for, is_own, ahead_in}
use Rattle.dg_mote.specs.Ticks.{clears, maintain_by, receive_by, transmit_by, mode_tick, tick_of}
use Rattle.dg_mote.specs.Adverts.{better_trail, asks, noting, by_ahead, advert_heard, on_advert, offer}
use Rattle.dg_mote.specs.Requests.{concerns, can_serve, is_served, to_it, on_request, page_request}
use Rattle.dg_mote.specs.Packets.{is_wanted, accepted, seal_by, on_packet, page_packet}
use Rattle.dg_mote.specs.Hears.{source_of, on_message, by_message, heard_of}
use Rattle.dg_mote.specs.Changes.{IfReceives, Brings, IsBegun, Continues}
use Rattle.dg_mote.specs.declared.mote.Did.{Did}
use Rattle.dg_mote.specs.declared.mote.Heard.{Heard}
use Rattle.dg_mote.proofs.AdvertLemmas.{is_ahead}
use Rattle.dg_mote.proofs.PacketLemmas.{Wanted, wanted}

-- it continues unchanged
goes_on : (old : Mode) (comes : (image version page q : ℕ) → Type 0) (r : Receiving) → old ≡ Receive r → Continues old comes r
goes_on old comes r was = record { before = r; was = was; image = refl; version = refl; page = refl; packets_are = λ q is. inl is }

abbrev GoesOn : Mode → ((image version page q : ℕ) → Type 0) → Mode → Type 0
GoesOn old comes mode = IfReceives (Continues old comes) mode

stays : (comes : (image version page q : ℕ) → Type 0) (old mode : Mode) → old ≡ mode → GoesOn old comes mode
stays comes old (Maintain timer) is = tt
stays comes old (Receive r) is = goes_on old comes r is
stays comes old (Transmit t) is = tt

-- ---- ticks

abbrev NoneComes : (image version page q : ℕ) → Type 0
NoneComes image version page q = ⊥

abbrev Ticked : MoteState → MoteStep Did → Type 0
Ticked m step = GoesOn m.mode NoneComes step.mote.mode

maintain_goes : (a : Act) (m : MoteState) (timer : Timer) (s : Store) → GoesOn m.mode NoneComes (maintain_by a (record m { mode = Maintain timer }) s).mote.mode
maintain_goes act.Send m timer s = tt
maintain_goes act.Quiet m timer s = tt
maintain_goes act.Expired m timer s = tt
maintain_goes act.Nothing m timer s = tt

receive_goes : (a : Ask) (m : MoteState) (r : Receiving) (s : Store) (now word : ℕ) → m.mode ≡ Receive r → Ticked m (receive_by a m r s now word)
receive_goes (ask.Request want) m r s now word is = record { before = r; was = is; image = refl; version = refl; page = refl; packets_are = λ q there. inl there }
receive_goes ask.GiveUp m r s now word is = tt
receive_goes ask.Wait m r s now word is = stays NoneComes m.mode m.mode refl

transmit_goes : (a : Serve) (m : MoteState) (t : Sending) (s : Store) (now word : ℕ) → m.mode ≡ Transmit t → Ticked m (transmit_by a m t s now word)
transmit_goes (serve.Send q) m t s now word is =
    cond_both (set.len (after_next t.owed now).left == 0) _ _ (λ (n : MoteState). GoesOn m.mode NoneComes n.mode) (λ _. tt) (λ _. tt)
transmit_goes serve.Done m t s now word is = stays NoneComes m.mode m.mode refl
transmit_goes serve.Wait m t s now word is = stays NoneComes m.mode m.mode refl

mode_goes : (mode : Mode) (m : MoteState) (s : Store) (now word : ℕ) → m.mode ≡ mode → Ticked m (mode_tick mode m s now word)
mode_goes (Maintain timer) m s now word is =
    cond_both (order_waits s) _ _ (Ticked m) (λ _. stays NoneComes m.mode m.mode refl) (λ _. maintain_goes (act_of timer now) m (after_tick timer now word) s)
mode_goes (Receive r) m s now word is = receive_goes (ask_of (reception r) now) m r s now word is
mode_goes (Transmit t) m s now word is = transmit_goes (serve_of t.owed now) m t s now word is

pub tick_goes : (m : MoteState) (s : Store) (now word : ℕ) → IfReceives (Continues m.mode NoneComes) (tick_of m s now word).mote.mode
unfolding tick_of
tick_goes m s now word = cond_both (clears m s now) _ _ (Ticked m) (λ _. stays NoneComes m.mode m.mode refl) (λ _. mode_goes m.mode m s now word refl)

-- ---- frames

module _ (comes : (image version page q : ℕ) → Type 0) (m : MoteState) where
  abbrev Here : Receiving → Type 0
  Here r = IsBegun r ⊎ Continues m.mode comes r

  abbrev Hears : MoteStep Heard → Type 0
  Hears step = IfReceives Here step.mote.mode

  same_mode : (mode : Mode) → m.mode ≡ mode → IfReceives Here mode
  same_mode (Maintain timer) is = tt
  same_mode (Receive r) is = inr (goes_on m.mode comes r is)
  same_mode (Transmit t) is = tt

  none_yet : (q : ℕ) → packet no_packets q ≡ None
  unfolding no_packets
  none_yet q = none_in packets q
    where
      none_in : (n q : ℕ) → packet (replicate n None) q ≡ None
      none_in zero q = refl
      none_in (suc n) zero = refl
      none_in (suc n) (suc q) = none_in n q

  noting_hears : (own : Bool) (timer : Timer) (s : Store) (now word : ℕ) → Hears (noting m timer s now word own)
  noting_hears true timer s now word = tt
  noting_hears false timer s now word = tt

  ahead_hears : (o : Option ℕ) (timer : Timer) (s : Store) (now word source : ℕ) (entries : List Entry) (own : Bool) → ((i : ℕ) → o ≡ Some i → 1 ≤ i)
      → Hears (by_ahead o m s now word (offer source entries) (noting m timer s now word own))
  ahead_hears None timer s now word source entries own low = noting_hears own timer s now word
  ahead_hears (Some i) timer s now word source entries own low =
      cond_both (asks m s now i (entry_for entries i)) _ _ Hears
      (λ _. inl (record { not_golden = low i refl; none = none_yet }))
      (λ _. noting_hears own timer s now word)

  advert_hears : (mode : Mode) (s : Store) (now word source : ℕ) (entries : List Entry) (order : Order) → m.mode ≡ mode → Hears (on_advert mode m s now word (offer source entries) order)
  unfolding advert_heard
  advert_hears (Maintain timer) s now word source entries order is =
      let u = last (better_trail s order) in
      ahead_hears (ahead_in entries u) timer u now word source entries (is_own entries order m.wide s) (λ i e. (is_ahead entries u i e).low)
  advert_hears (Receive r) s now word source entries order is = same_mode m.mode refl
  advert_hears (Transmit t) s now word source entries order is = same_mode m.mode refl

  to_it_hears : (mode : Mode) (s : Store) (now image version page : ℕ) (want : Numbers) → m.mode ≡ mode → Hears (to_it mode m s now (page_request image version page want))
  to_it_hears (Maintain timer) s now image version page want is = cond_both (can_serve s image version page) _ _ Hears (λ _. tt) (λ _. same_mode m.mode refl)
  to_it_hears (Transmit t) s now image version page want is = cond_both (is_served t image version page) _ _ Hears (λ _. tt) (λ _. same_mode m.mode refl)
  to_it_hears (Receive r) s now image version page want is = same_mode m.mode refl

  request_hears : (s : Store) (now to image version page : ℕ) (want : Numbers) → Hears (on_request m s now to (page_request image version page want))
  request_hears s now to image version page want =
      cond_both (to == m.id) _ _ Hears (λ _. to_it_hears m.mode s now image version page want refl)
      (λ _. cond_both (concerns s image version page) _ _ Hears (λ _. same_mode m.mode refl) (λ _. same_mode m.mode refl))

  seal_hears : (o : Option Held) (r : Receiving) (s : Store) (now word : ℕ) (page : List ℕ) → Hears (seal_by o m r s now word page)
  seal_hears None r s now word page = same_mode m.mode refl
  seal_hears (Some h) r s now word page = cond_both (may_seal r.image h page) _ _ Hears (λ _. tt) (λ _. tt)

  packet_hears : (mode : Mode) (s : Store) (now word image version page q : ℕ) (bytes : List ℕ) → m.mode ≡ mode → comes image version page q
      → Hears (on_packet mode m s now word (page_packet image version page q bytes))
  packet_hears (Receive r) s now word image version page q bytes is brings =
      cond_both (is_wanted r image version page q) _ _ Hears
      (λ w. cond_both (set.len (came (accepted r now q bytes).packets) == packets) _ _ Hears
      (λ _. seal_hears (held s r.image) r s now word (page_from (accepted r now q bytes).packets))
      (λ _. let known = wanted r image version page q w in
      inr (record { before = r; was = is; image = refl; version = refl; page = refl; packets_are = λ p there. or_comes p known there })))
      (λ _. same_mode m.mode refl)
    where
      or_comes : (p : ℕ) → Wanted r image version page → is_some (packet (put_packet r.packets q bytes) p) ≡ true → (is_some (packet r.packets p) ≡ true) ⊎ comes r.image r.version r.page p
      or_comes p known there =
          ⊎_elim
          (λ same. inr (subst (λ (k : ℕ). comes r.image r.version r.page k) (sym same)
          (subst (λ (k : ℕ). comes k r.version r.page q) (sym known.image_is) (subst (λ (k : ℕ). comes image k r.page q) (sym known.version_is) (subst (λ (k : ℕ). comes image version k q) (sym known.page_is) brings)))))
          (λ other. inl (sym (ap is_some (get_or-set_other r.packets q p (Some bytes) None other)) ∙ there))
          (cases_eq p q)
  packet_hears (Maintain timer) s now word image version page q bytes is brings = cond_both (concerns s image version page) _ _ Hears (λ _. same_mode m.mode refl) (λ _. same_mode m.mode refl)
  packet_hears (Transmit t) s now word image version page q bytes is brings = same_mode m.mode refl

  message_hears : (message : Message) (s : Store) (now word : ℕ)
      → ((source image version page q : ℕ) (content : List ℕ) → message ≡ Packet source image version page q content → comes image version page q) → Hears (on_message m s now word message)
  message_hears (Advert source entries order) s now word brings = advert_hears m.mode s now word source entries order refl
  message_hears (Request source to image version page want) s now word brings = request_hears s now to image version page want
  message_hears (Packet source image version page q bytes) s now word brings = packet_hears m.mode s now word image version page q bytes refl (brings source image version page q bytes refl)
  message_hears (Wide source entries order) s now word brings = advert_hears m.mode s now word source entries order refl

frame_goes_by : (bytes : List ℕ) (r : Result Message FrameFault) (m : MoteState) (s : Store) (now word : ℕ) → message_of bytes m.wide ≡ r → Hears (Brings bytes m.wide) m (by_message r m s now word)
frame_goes_by bytes (Err fault) m s now word is = same_mode (Brings bytes m.wide) m m.mode refl
frame_goes_by bytes (Ok message) m s now word is =
    cond_both (source_of message == m.id) _ _ (Hears (Brings bytes m.wide) m) (λ _. same_mode (Brings bytes m.wide) m m.mode refl)
    (λ _. message_hears (Brings bytes m.wide) m message s now word (λ source image version page q content e. (source, content, is ∙ ap Ok e)))

pub frame_goes : (m : MoteState) (s : Store) (now word : ℕ) (bytes : List ℕ) → IfReceives (λ r. IsBegun r ⊎ Continues m.mode (Brings bytes m.wide) r) (heard_of m s now word bytes).mote.mode
unfolding heard_of
frame_goes m s now word bytes = frame_goes_by bytes (message_of bytes m.wide) m s now word refl

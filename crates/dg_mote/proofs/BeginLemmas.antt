-- The trails of steps begin at the store before them.
use Rattle.std.proofs.Common.{ℕ, Bool, true, false, List, Option, Some, None, Result, Ok, Err, refl, arith}
use Rattle.std.proofs.lemmas.Bool.{cond_both}
use Rattle.std.specs.Prelude.{◌==◌, ◌&&◌, nat_le, nat_lt}
use Rattle.std.specs.FinSet as set
use Rattle.dg_nor.specs.Trail.{Trail, last, last_of, joined, resting, stepping}
use Rattle.dg_nor.proofs.TrailLemmas.{EachWorks-joined, EachWorks-resting, EachWorks-stepping}
use Rattle.dg_trickle.specs.Timer.{Timer}
use Rattle.dg_trickle.specs.Steps.{act_of, after_tick}
use Rattle.dg_trickle.specs.declared.Act.{Act}
use Rattle.dg_trickle.specs.declared.Act.TheVariants as act
use Rattle.dg_recv.specs.Steps.{ask_of}
use Rattle.dg_recv.specs.declared.Ask.{Ask}
use Rattle.dg_recv.specs.declared.Ask.TheVariants as ask
use Rattle.dg_send.specs.Steps.{serve_of}
use Rattle.dg_send.specs.declared.Serve.{Serve}
use Rattle.dg_send.specs.declared.Serve.TheVariants as serve
use Rattle.dg_bits.specs.Sets.{Numbers}
use Rattle.dg_control.specs.declared.snapshot.Order.{Order}
use Rattle.dg_object.specs.Object.{Outline}
use Rattle.dg_slot.specs.Layout.{packets}
use Rattle.dg_slot.specs.Kept.{Held}
use Rattle.dg_slot.specs.Jobs.{page_from}
use Rattle.dg_slot.specs.Fits.{may_seal}
use Rattle.dg_volume.specs.Store.{Store, held}
use Rattle.dg_volume.specs.Changes.{is_version, paged}
use Rattle.dg_volume.specs.Trails.{BeginsAt, order_trail, clear_trail, take_trail}
use Rattle.dg_volume.specs.Start.{order_waits}
use Rattle.dg_frame.specs.Grammar.{message_of}
use Rattle.dg_frame.specs.declared.Entry.{Entry}
use Rattle.dg_frame.specs.declared.Message.{Message}
use Rattle.dg_frame.specs.declared.Message.TheVariants.{Advert, Request, Packet, Wide}
use Rattle.dg_frame.specs.declared.FrameFault.{FrameFault}
use Rattle.dg_mote.specs.Model.{MoteState, Mode, Maintain, Receive, Transmit, Receiving, Sending, came, reception, MoteStep}
use Rattle.dg_mote.specs.Summary.{entry_for, is_own, ahead_in}
use Rattle.dg_mote.specs.Ticks.{clears, maintain_by, receive_by, transmit_by, mode_tick, tick_of}
use Rattle.dg_mote.specs.Adverts.{outline, better_trail, ask_trail, asks, noting, by_ahead, advert_heard, on_advert, offer}
use Rattle.dg_mote.specs.Requests.{concerns, can_serve, is_served, to_it, on_request, page_request}
use Rattle.dg_mote.specs.Packets.{is_wanted, accepted, seal_by, takes, on_packet, page_packet}
use Rattle.dg_mote.specs.Hears.{source_of, on_message, by_message, heard_of}

abbrev Begins : {A : Type 0} → Store → MoteStep A → Type 0
Begins s step = BeginsAt s step.trail

pub resting_begins : (s : Store) (n : ℕ) → BeginsAt s (resting s n)
resting_begins s n = record { first = refl; works = EachWorks-resting s n }

joined_begins : (s : Store) (t u : Trail Store) → BeginsAt s t → BeginsAt (last t) u → BeginsAt s (joined t u)
unfolding joined
joined_begins s t u a b = record { first = a.first; works = EachWorks-joined t u a.works b.works }

sealed_begins : (s next : Store) → BeginsAt (last (resting s 1)) (stepping s 1 next)
unfolding last_of
sealed_begins s next = record { first = refl; works = EachWorks-stepping s 1 next (omega arith) }

module _ (order : (s : Store) (o : Order) → BeginsAt s (order_trail s o)) (clear : (s : Store) → BeginsAt s (clear_trail s)) (take : (s : Store) (p : Outline) → BeginsAt s (take_trail s p)) where
  -- ---- ticks

  maintain_begins : (a : Act) (m : MoteState) (s : Store) → Begins s (maintain_by a m s)
  maintain_begins act.Send m s = resting_begins s 0
  maintain_begins act.Quiet m s = resting_begins s 0
  maintain_begins act.Expired m s = resting_begins s 0
  maintain_begins act.Nothing m s = resting_begins s 0

  receive_begins : (a : Ask) (m : MoteState) (r : Receiving) (s : Store) (now word : ℕ) → Begins s (receive_by a m r s now word)
  receive_begins (ask.Request want) m r s now word = resting_begins s 0
  receive_begins ask.GiveUp m r s now word = resting_begins s 0
  receive_begins ask.Wait m r s now word = resting_begins s 0

  transmit_begins : (a : Serve) (m : MoteState) (t : Sending) (s : Store) (now word : ℕ) → Begins s (transmit_by a m t s now word)
  transmit_begins (serve.Send q) m t s now word = resting_begins s 0
  transmit_begins serve.Done m t s now word = resting_begins s 0
  transmit_begins serve.Wait m t s now word = resting_begins s 0

  mode_begins : (mode : Mode) (m : MoteState) (s : Store) (now word : ℕ) → Begins s (mode_tick mode m s now word)
  mode_begins (Maintain timer) m s now word =
      cond_both (order_waits s) _ _ (Begins s) (λ _. resting_begins s 0) (λ _. maintain_begins (act_of timer now) (record m { mode = Maintain (after_tick timer now word) }) s)
  mode_begins (Receive r) m s now word = receive_begins (ask_of (reception r) now) m r s now word
  mode_begins (Transmit t) m s now word = transmit_begins (serve_of t.owed now) m t s now word

  pub tick_begins : (m : MoteState) (s : Store) (now word : ℕ) → Begins s (tick_of m s now word)
  unfolding tick_of
  tick_begins m s now word = cond_both (clears m s now) _ _ (Begins s) (λ _. clear s) (λ _. mode_begins m.mode m s now word)

  -- ---- adverts

  pub better_begins : (s : Store) (o : Order) → BeginsAt s (better_trail s o)
  unfolding better_trail
  better_begins s o = cond_both (nat_lt s.order.number o.number && nat_le 1 s.room) _ _ (BeginsAt s) (λ _. order s o) (λ _. resting_begins s 0)

  pub ask_begins : (s : Store) (i : ℕ) (e : Entry) → BeginsAt s (ask_trail s i e)
  unfolding ask_trail
  ask_begins s i e =
      let t = take_trail s (outline i e) in
      cond_both (is_version (held s i) e.version) (resting s 1) (joined t (resting (last t) 1)) (BeginsAt s) (λ _. resting_begins s 1)
      (λ _. joined_begins s t (resting (last t) 1) (take s (outline i e)) (resting_begins (last t) 1))

  noting_begins : (own : Bool) (m : MoteState) (timer : Timer) (s : Store) (now word : ℕ) → Begins s (noting m timer s now word own)
  noting_begins true m timer s now word = resting_begins s 0
  noting_begins false m timer s now word = resting_begins s 0

  pub ahead_begins : (o : Option ℕ) (m : MoteState) (timer : Timer) (s : Store) (now word source : ℕ) (entries : List Entry) (own : Bool) → Begins s (by_ahead o m s now word (offer source entries) (noting m timer s now word own))
  ahead_begins None m timer s now word source entries own = noting_begins own m timer s now word
  ahead_begins (Some i) m timer s now word source entries own =
      cond_both (asks m s now i (entry_for entries i)) _ _ (Begins s) (λ _. ask_begins s i (entry_for entries i)) (λ _. noting_begins own m timer s now word)

  advert_begins : (mode : Mode) (m : MoteState) (s : Store) (now word source : ℕ) (entries : List Entry) (o : Order) → Begins s (on_advert mode m s now word (offer source entries) o)
  unfolding advert_heard
  advert_begins (Maintain timer) m s now word source entries o =
      let t = better_trail s o in
      joined_begins s t _ (better_begins s o) (ahead_begins (ahead_in entries (last t)) m timer (last t) now word source entries (is_own entries o m.wide s))
  advert_begins (Receive r) m s now word source entries o = resting_begins s 0
  advert_begins (Transmit t) m s now word source entries o = resting_begins s 0

  -- ---- requests

  to_it_begins : (mode : Mode) (m : MoteState) (s : Store) (now image version page : ℕ) (want : Numbers) → Begins s (to_it mode m s now (page_request image version page want))
  to_it_begins (Maintain timer) m s now image version page want = cond_both (can_serve s image version page) _ _ (Begins s) (λ _. resting_begins s 0) (λ _. resting_begins s 0)
  to_it_begins (Transmit t) m s now image version page want = cond_both (is_served t image version page) _ _ (Begins s) (λ _. resting_begins s 0) (λ _. resting_begins s 0)
  to_it_begins (Receive r) m s now image version page want = resting_begins s 0

  request_begins : (m : MoteState) (s : Store) (now to image version page : ℕ) (want : Numbers) → Begins s (on_request m s now to (page_request image version page want))
  request_begins m s now to image version page want =
      cond_both (to == m.id) _ _ (Begins s) (λ _. to_it_begins m.mode m s now image version page want)
      (λ _. cond_both (concerns s image version page) _ _ (Begins s) (λ _. resting_begins s 0) (λ _. resting_begins s 0))

  -- ---- packets

  seal_begins : (o : Option Held) (m : MoteState) (r : Receiving) (s : Store) (now word : ℕ) (page : List ℕ) → Begins s (seal_by o m r s now word page)
  seal_begins None m r s now word page = resting_begins s 0
  seal_begins (Some h) m r s now word page =
      cond_both (may_seal r.image h page) _ _ (Begins s)
      (λ _. joined_begins s (resting s 1) _ (resting_begins s 1) (sealed_begins s (paged r.image page s)))
      (λ _. resting_begins s 1)

  takes_begins : (m : MoteState) (r : Receiving) (s : Store) (now word q : ℕ) (bytes : List ℕ) → Begins s (takes m r s now word q bytes)
  takes_begins m r s now word q bytes =
      let a = accepted r now q bytes in
      cond_both (set.len (came a.packets) == packets) _ _ (Begins s) (λ _. seal_begins (held s r.image) m r s now word (page_from a.packets)) (λ _. resting_begins s 1)

  packet_begins : (mode : Mode) (m : MoteState) (s : Store) (now word image version page q : ℕ) (bytes : List ℕ) → Begins s (on_packet mode m s now word (page_packet image version page q bytes))
  packet_begins (Receive r) m s now word image version page q bytes =
      cond_both (is_wanted r image version page q) _ _ (Begins s) (λ _. takes_begins m r s now word q bytes) (λ _. resting_begins s 0)
  packet_begins (Maintain timer) m s now word image version page q bytes =
      cond_both (concerns s image version page) _ _ (Begins s) (λ _. resting_begins s 0) (λ _. resting_begins s 0)
  packet_begins (Transmit t) m s now word image version page q bytes = resting_begins s 0

  -- ---- frames

  message_begins : (message : Message) (m : MoteState) (s : Store) (now word : ℕ) → Begins s (on_message m s now word message)
  message_begins (Advert source entries o) m s now word = advert_begins m.mode m s now word source entries o
  message_begins (Request source to image version page want) m s now word = request_begins m s now to image version page want
  message_begins (Packet source image version page packet bytes) m s now word = packet_begins m.mode m s now word image version page packet bytes
  message_begins (Wide source entries o) m s now word = advert_begins m.mode m s now word source entries o

  frame_begins : (r : Result Message FrameFault) (m : MoteState) (s : Store) (now word : ℕ) → Begins s (by_message r m s now word)
  frame_begins (Err fault) m s now word = resting_begins s 0
  frame_begins (Ok message) m s now word = cond_both (source_of message == m.id) _ _ (Begins s) (λ _. resting_begins s 0) (λ _. message_begins message m s now word)

  pub heard_begins : (m : MoteState) (s : Store) (now word : ℕ) (bytes : List ℕ) → Begins s (heard_of m s now word bytes)
  unfolding heard_of
  heard_begins m s now word bytes = frame_begins (message_of bytes m.wide) m s now word

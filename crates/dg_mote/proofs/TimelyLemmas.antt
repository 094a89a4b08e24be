-- The times of a mote through its steps.
use Rattle.std.proofs.Common.{◌≡◌, ◌⊎◌, ℕ, ◌+◌, ◌≤◌, Bool, true, false, not, ◌&&◌, ◌||◌, List, Option, Some, None, Result, Ok, Err, refl, sym, ◌∙◌, inl, inr, ⊎_elim, arith}
use Rattle.std.proofs.lemmas.Bool.{cond_both}
use Rattle.std.proofs.lemmas.Option.{same_Some}
use Rattle.std.specs.Prelude.{◌==◌, nat_le, nat_lt}
use Rattle.std.specs.Ordering.{nat_cmp}
use Rattle.std.specs.Cmp.{nat_cmp_total}
use Rattle.std.specs.FinMap as map
use Rattle.std.specs.FinSet as set
use Rattle.dg_trickle.specs.Timer.{Timer}
use Rattle.dg_trickle.specs.Steps.{started, after_same, after_other, after_tick, act_of, is_due, is_over}
use Rattle.dg_trickle.proofs.RunLaws.{IsRunning-begun, IsRunning-same, IsRunning-other, IsRunning-tick}
use Rattle.dg_trickle.specs.declared.Act.{Act}
use Rattle.dg_trickle.specs.declared.Act.TheVariants as act
use Rattle.dg_trickle.specs.Times.{shortest_interval}
use Rattle.dg_quiet.specs.Noted.{Moments, with_request, with_packet}
use Rattle.dg_recv.specs.Reception.{Reception}
use Rattle.dg_recv.specs.Steps.{after_ask, after_accept, ask_of}
use Rattle.dg_recv.specs.declared.Ask.{Ask}
use Rattle.dg_recv.specs.declared.Ask.TheVariants as ask
use Rattle.dg_recv.specs.Times.{next_wait, most_requests}
use Rattle.dg_send.specs.Owed.{Owed}
use Rattle.dg_send.specs.Steps.{after_next, next_by, serve_of}
use Rattle.dg_send.specs.declared.Serve.{Serve}
use Rattle.dg_send.specs.declared.Serve.TheVariants as serve
use Rattle.dg_send.specs.Times.{packet_gap}
use Rattle.dg_bits.specs.Sets.{Numbers, AllBelow, least}
use Rattle.dg_bits.proofs.SetLaws.{contains-without, contains-both}
use Rattle.dg_slot.specs.Layout.{packets}
use Rattle.dg_slot.specs.Kept.{Held}
use Rattle.dg_volume.specs.Store.{Store, held}
use Rattle.dg_volume.specs.Start.{order_waits}
use Rattle.dg_mote.specs.Model.{MoteState, Mode, Maintain, Receive, Transmit, Receiving, Sending, came, reception, begun_mote, maintains, MoteStep}
use Rattle.dg_mote.specs.Ticks.{clears, maintain_by, asked, receive_by, serving, transmit_by, mode_tick, tick_of}
use Rattle.dg_frame.specs.Grammar.{message_of}
use Rattle.dg_frame.specs.declared.Entry.{Entry}
use Rattle.dg_frame.specs.declared.Message.{Message}
use Rattle.dg_frame.specs.declared.Message.TheVariants.{Advert, Request, Packet, Wide}
use Rattle.dg_frame.specs.declared.FrameFault.{FrameFault}
use Rattle.dg_control.specs.declared.snapshot.Order.{Order}
use Rattle.dg_nor.specs.Trail.{last, resting}
use Rattle.dg_slot.specs.Jobs.{page_from}
use Rattle.dg_mote.specs.declared.mote.Heard.TheVariants.{Took}
use Rattle.dg_mote.specs.Summary.{entry_for, is_own, ahead_in}
use Rattle.dg_mote.specs.Adverts.{dropped, noting, asks, by_ahead, better_trail, advert_heard, on_advert, offer}
use Rattle.dg_mote.specs.Requests.{concerns, can_serve, is_served, to_it, on_request, page_request}
use Rattle.dg_mote.specs.Packets.{is_wanted, accepted, seal_by, takes, on_packet, page_packet}
use Rattle.dg_mote.proofs.ReadLemmas.{IsWellRead, well_read}
use Rattle.dg_mote.specs.Hears.{source_of, on_message, by_message, heard_of}
use Rattle.dg_mote.specs.declared.mote.Heard.{Heard}
use Rattle.dg_mote.specs.Timely.{ModeTimely, Timely}
use Rattle.dg_mote.specs.declared.mote.Did.{Did}

-- ---- a timer

timer_begins : (now word : ℕ) → ModeTimely (Maintain (started now word)) now
timer_begins now word = (IsRunning-begun shortest_interval now word (omega arith) (omega arith), omega arith)

timer_same : (t : Timer) (now : ℕ) → ModeTimely (Maintain t) now → ModeTimely (Maintain (after_same t)) now
timer_same t now m = (IsRunning-same t m.0, m.1)

timer_other : (t : Timer) (now word : ℕ) → ModeTimely (Maintain t) now → ModeTimely (Maintain (after_other t now word)) now
timer_other t now word m = (IsRunning-other t now word m.0, cond_both (nat_lt shortest_interval t.interval) _ t (λ x. x.begin ≤ now) (λ _. omega arith) (λ _. m.1))

pub timer_ticks : (t : Timer) (now word : ℕ) → ModeTimely (Maintain t) now → ModeTimely (Maintain (after_tick t now word)) now
timer_ticks t now word m = (
  IsRunning-tick t now word m.0,
  cond_both (is_due t now) _ _ (λ (x : Timer). x.begin ≤ now) (λ _. m.1) (λ _. cond_both (is_over t now) _ t (λ (x : Timer). x.begin ≤ now) (λ _. omega arith) (λ _. m.1)),
)

-- ---- a mote

none_got : (image : ℕ) → map.get (map.empty {K = ℕ} {X = ℕ} {R = nat_cmp}) image ≡ None
none_got image = map.get-empty nat_cmp image

none_noted : (image moment now : ℕ) → None ≡ Some moment → moment ≤ now
none_noted image moment now e = cc

pub timely_begins : (id now word : ℕ) (wide : Bool) → Timely (begun_mote id wide now word) now
timely_begins id now word wide = record { since = omega arith; requests = λ i m e. none_noted i m now (sym (none_got i) ∙ e); packets_noted = λ i m e. none_noted i m now (sym (none_got i) ∙ e); mode = timer_begins now word }

mode_later : (m : Mode) (now then : ℕ) → now ≤ then → ModeTimely m now → ModeTimely m then
mode_later (Maintain t) now then h m = (m.0, omega (arith, m.1))
mode_later (Receive r) now then h m = omega arith
mode_later (Transmit t) now then h m = (omega (arith, m.0), m.1)

pub timely_later : (m : MoteState) (now then : ℕ) → now ≤ then → Timely m now → Timely m then
timely_later m now then h t = record {
  since = omega (arith, t.since);
  requests = λ i k e. omega (arith, t.requests i k e);
  packets_noted = λ i k e. omega (arith, t.packets_noted i k e);
  mode = mode_later m.mode now then h t.mode;
}

-- the mode changes, and nothing else
timely_mode : (m : MoteState) (mode : Mode) (now : ℕ) → Timely m now → ModeTimely mode now → Timely (record m { mode = mode }) now
timely_mode m mode now t h = record { since = t.since; requests = t.requests; packets_noted = t.packets_noted; mode = h }

pub timely_maintains : (m : MoteState) (now word : ℕ) → Timely m now → Timely (maintains m now word) now
timely_maintains m now word t = timely_mode m (Maintain (started now word)) now t (timer_begins now word)

-- ---- ticks

maintain_timely : (a : Act) (m : MoteState) (s : Store) (now : ℕ) → Timely m now → Timely (maintain_by a m s).mote now
maintain_timely act.Send m s now t = t
maintain_timely act.Quiet m s now t = t
maintain_timely act.Expired m s now t = t
maintain_timely act.Nothing m s now t = t

asked_due : (r : Receiving) (now : ℕ) → r.due ≤ now + next_wait → (after_ask (reception r) now).due ≤ now + next_wait
asked_due r now h = cond_both (nat_lt now r.due) _ _ (λ (x : Reception). x.due ≤ now + next_wait) (λ _. h) (λ _. cond_both (nat_le most_requests r.tries) _ _ (λ (x : Reception). x.due ≤ now + next_wait) (λ _. h) (λ _. omega arith))

receive_timely : (a : Ask) (m : MoteState) (r : Receiving) (s : Store) (now word : ℕ) → Timely m now → r.due ≤ now + next_wait → Timely (receive_by a m r s now word).mote now
receive_timely (ask.Request want) m r s now word t h = timely_mode m (Receive (asked r now)) now t (asked_due r now h)
receive_timely ask.GiveUp m r s now word t h = timely_maintains m now word t
receive_timely ask.Wait m r s now word t h = t

left_below : (b c : Bool) → (not b && c) ≡ true → c ≡ true
left_below true c e = cc
left_below false c e = e

below_removed : (n : ℕ) (s : Numbers) (k : ℕ) → AllBelow n s → AllBelow n (set.remove s k)
below_removed n s k h q is = h q (left_below (q == k) (set.contains s q) (sym (contains-without s k q) ∙ is))

next_timely : (o : Option ℕ) (early : Bool) (owed : Owed) (now : ℕ) → (owed.due ≤ now + packet_gap) × AllBelow packets owed.left → ((next_by o early owed now).due ≤ now + packet_gap) × AllBelow packets (next_by o early owed now).left
next_timely None early owed now h = h
next_timely (Some k) true owed now h = h
next_timely (Some k) false owed now h = (omega arith, below_removed packets owed.left k h.1)

serving_timely : (m : MoteState) (t : Sending) (now word : ℕ) → Timely m now → ModeTimely (Transmit t) now → Timely (serving m t now word) now
serving_timely m t now word y h =
    let owed = after_next t.owed now in
    cond_both (set.len owed.left == 0) _ _ (λ x. Timely x now) (λ _. timely_maintains m now word y)
    (λ _. timely_mode m (Transmit (record t { owed = owed })) now y (next_timely (least t.owed.left) (nat_lt now t.owed.due) t.owed now h))

transmit_timely : (a : Serve) (m : MoteState) (t : Sending) (s : Store) (now word : ℕ) → Timely m now → ModeTimely (Transmit t) now → Timely (transmit_by a m t s now word).mote now
transmit_timely (serve.Send q) m t s now word y h = serving_timely m t now word y h
transmit_timely serve.Done m t s now word y h = y
transmit_timely serve.Wait m t s now word y h = y

tick_timely_by : (mode : Mode) (m : MoteState) (s : Store) (now word : ℕ) → Timely m now → ModeTimely mode now → Timely (mode_tick mode m s now word).mote now
tick_timely_by (Maintain t) m s now word y h =
    cond_both (order_waits s) _ _ (λ (x : MoteStep Did). Timely x.mote now) (λ _. y)
    (λ _. maintain_timely (act_of t now) (record m { mode = Maintain (after_tick t now word) }) s now (timely_mode m _ now y (timer_ticks t now word h)))
tick_timely_by (Receive r) m s now word y h = receive_timely (ask_of (reception r) now) m r s now word y h
tick_timely_by (Transmit t) m s now word y h = transmit_timely (serve_of t.owed now) m t s now word y h

pub timely_ticked : (m : MoteState) (s : Store) (now word : ℕ) → Timely m now → Timely (tick_of m s now word).mote now
unfolding tick_of
timely_ticked m s now word y = cond_both (clears m s now) _ _ (λ (x : MoteStep Did). Timely x.mote now) (λ _. y) (λ _. tick_timely_by m.mode m s now word y y.mode)

-- ---- adverts

noting_timely : (own : Bool) (m : MoteState) (t : Timer) (s : Store) (now word : ℕ) → Timely m now → ModeTimely (Maintain t) now → Timely (noting m t s now word own).mote now
noting_timely true m t s now word y h = timely_mode m (Maintain (after_same t)) now y (timer_same t now h)
noting_timely false m t s now word y h = timely_mode m (Maintain (after_other t now word)) now y (timer_other t now word h)

ahead_timely : (o : Option ℕ) (m : MoteState) (t : Timer) (s : Store) (now word source : ℕ) (entries : List Entry) (own : Bool) → Timely m now → ModeTimely (Maintain t) now → Timely (by_ahead o m s now word (offer source entries) (noting m t s now word own)).mote now
ahead_timely None m t s now word source entries own y h = noting_timely own m t s now word y h
ahead_timely (Some i) m t s now word source entries own y h =
    cond_both (asks m s now i (entry_for entries i)) _ _ (λ (x : MoteStep Heard). Timely x.mote now)
    (λ _. timely_mode m _ now y (omega arith))
    (λ _. noting_timely own m t s now word y h)

advert_timely : (m : MoteState) (t : Timer) (s : Store) (now word source : ℕ) (entries : List Entry) (order : Order) → Timely m now → ModeTimely (Maintain t) now → Timely (advert_heard m t s now word (offer source entries) order).mote now
unfolding advert_heard
advert_timely m t s now word source entries order y h =
    let u = last (better_trail s order) in ahead_timely (ahead_in entries u) m t u now word source entries (is_own entries order m.wide s) y h

on_advert_timely : (mode : Mode) (m : MoteState) (s : Store) (now word source : ℕ) (entries : List Entry) (order : Order) → Timely m now → ModeTimely mode now → Timely (on_advert mode m s now word (offer source entries) order).mote now
on_advert_timely (Maintain t) m s now word source entries order y h = advert_timely m t s now word source entries order y h
on_advert_timely (Receive r) m s now word source entries order y h = y
on_advert_timely (Transmit t) m s now word source entries order y h = y

-- ---- requests

get_noted : (x : Moments) (k now q moment : ℕ) → ((i n : ℕ) → map.get x i ≡ Some n → n ≤ now) → map.get (map.insert x k now) q ≡ Some moment → moment ≤ now
get_noted x k now q moment h e =
    let g = map.get-insert nat_cmp_total x k now q in
    cond_both _ (Some now) (map.get x q) (λ o. o ≡ Some moment → moment ≤ now)
    (λ _ f. omega (arith, same_Some now moment f))
    (λ _ f. h q moment f)
    (sym g ∙ e)

request_noted : (m : MoteState) (now image : ℕ) → Timely m now → Timely (record m { noted = with_request m.noted now image }) now
request_noted m now image y = record { since = y.since; requests = λ i k e. get_noted m.noted.requests image now i k y.requests e; packets_noted = y.packets_noted; mode = y.mode }

packet_noted : (m : MoteState) (now image : ℕ) → Timely m now → Timely (record m { noted = with_packet m.noted now image }) now
packet_noted m now image y = record { since = y.since; requests = y.requests; packets_noted = λ i k e. get_noted m.noted.packets image now i k y.packets_noted e; mode = y.mode }

or_both : (a b : Bool) → (a || b) ≡ true → (a ≡ true) ⊎ (b ≡ true)
or_both true b e = inl refl
or_both false b e = inr e

below_both : (n : ℕ) (s t : Numbers) → AllBelow n s → AllBelow n t → AllBelow n (set.union s t)
below_both n s t hs ht q is = ⊎_elim (λ e. hs q e) (λ e. ht q e) (or_both (set.contains s q) (set.contains t q) (sym (contains-both s t q) ∙ is))

to_it_timely : (mode : Mode) (m : MoteState) (s : Store) (now image version page : ℕ) (want : Numbers) → AllBelow packets want → Timely m now → ModeTimely mode now → Timely (to_it mode m s now (page_request image version page want)).mote now
to_it_timely (Maintain t) m s now image version page want below y h =
    cond_both (can_serve s image version page) _ _ (λ (x : MoteStep Heard). Timely x.mote now) (λ _. timely_mode m _ now y (omega arith, below)) (λ _. y)
to_it_timely (Transmit t) m s now image version page want below y h =
    cond_both (is_served t image version page) _ _ (λ (x : MoteStep Heard). Timely x.mote now) (λ _. timely_mode m _ now y (h.0, below_both packets t.owed.left want h.1 below)) (λ _. y)
to_it_timely (Receive r) m s now image version page want below y h = y

request_timely : (m : MoteState) (s : Store) (now to image version page : ℕ) (want : Numbers) → AllBelow packets want → Timely m now → Timely (on_request m s now to (page_request image version page want)).mote now
request_timely m s now to image version page want below y =
    cond_both (to == m.id) _ _ (λ (x : MoteStep Heard). Timely x.mote now) (λ _. to_it_timely m.mode m s now image version page want below y y.mode)
    (λ _. cond_both (concerns s image version page) _ _ (λ (x : MoteStep Heard). Timely x.mote now) (λ _. request_noted m now image y) (λ _. y))

-- ---- packets

seal_timely : (o : Option Held) (m : MoteState) (r : Receiving) (s : Store) (now word : ℕ) (page : List ℕ) → Timely m now → Timely (seal_by o m r s now word page).mote now
seal_timely None m r s now word page y = y
seal_timely (Some h) m r s now word page y = cond_both _ _ _ (λ (x : MoteStep Heard). Timely x.mote now) (λ _. timely_maintains m now word y) (λ _. timely_maintains m now word y)

accepted_due : (r : Receiving) (now q : ℕ) → r.due ≤ now + next_wait → (after_accept (reception r) now q).due ≤ now + next_wait
accepted_due r now q h =
    cond_both (set.contains (reception r).got q) (reception r) (record (reception r) { got = set.insert (reception r).got q; due = now + next_wait }) (λ (x : Reception). x.due ≤ now + next_wait) (λ _. h) (λ _. omega arith)

packet_timely : (mode : Mode) (m : MoteState) (s : Store) (now word image version page q : ℕ) (bytes : List ℕ) → Timely m now → ModeTimely mode now → Timely (on_packet mode m s now word (page_packet image version page q bytes)).mote now
packet_timely (Receive r) m s now word image version page q bytes y h =
    let a = accepted r now q bytes in
    let full = seal_by (held s r.image) m r s now word (page_from a.packets) in
    let more : MoteStep Heard = record { mote = record m { mode = Receive a }; trail = resting s 1; sent = None; answer = Took q } in
    cond_both (is_wanted r image version page q) (takes m r s now word q bytes) (dropped m s) (λ (x : MoteStep Heard). Timely x.mote now)
    (λ _. cond_both (set.len (came a.packets) == packets) full more (λ (x : MoteStep Heard). Timely x.mote now)
    (λ _. seal_timely (held s r.image) m r s now word (page_from a.packets) y)
    (λ _. timely_mode m (Receive a) now y (accepted_due r now q h)))
    (λ _. y)
packet_timely (Maintain t) m s now word image version page q bytes y h =
    cond_both (concerns s image version page) _ _ (λ (x : MoteStep Heard). Timely x.mote now) (λ _. packet_noted m now image y) (λ _. y)
packet_timely (Transmit t) m s now word image version page q bytes y h = y

-- ---- frames

message_timely : (message : Message) (m : MoteState) (s : Store) (now word : ℕ) → IsWellRead m.wide (Ok message) → Timely m now → Timely (on_message m s now word message).mote now
message_timely (Advert source entries order) m s now word fits y = on_advert_timely m.mode m s now word source entries order y y.mode
message_timely (Request source to image version page want) m s now word fits y = request_timely m s now to image version page want fits.1 y
message_timely (Packet source image version page packet bytes) m s now word fits y = packet_timely m.mode m s now word image version page packet bytes y y.mode
message_timely (Wide source entries order) m s now word fits y = on_advert_timely m.mode m s now word source entries order y y.mode

heard_timely_by : (r : Result Message FrameFault) (m : MoteState) (s : Store) (now word : ℕ) → IsWellRead m.wide r → Timely m now → Timely (by_message r m s now word).mote now
heard_timely_by (Err fault) m s now word fits y = y
heard_timely_by (Ok message) m s now word fits y =
    cond_both (source_of message == m.id) _ _ (λ (x : MoteStep Heard). Timely x.mote now) (λ _. y) (λ _. message_timely message m s now word fits y)

pub timely_heard : (m : MoteState) (s : Store) (now word : ℕ) (bytes : List ℕ) → Timely m now → Timely (heard_of m s now word bytes).mote now
unfolding heard_of
timely_heard m s now word bytes y = heard_timely_by (message_of bytes m.wide) m s now word (well_read bytes m.wide) y

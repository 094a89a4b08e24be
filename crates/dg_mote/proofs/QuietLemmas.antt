-- A mote that overheard something of an image does not begin to ask for it for a while.
use Rattle.std.proofs.Common.{◌≡◌, ◌≢◌, ℕ, ◌+◌, ◌<◌, ◌≤◌, Bool, true, false, ◌&&◌, ◌||◌, cond, List, [], ◌∷◌, Option, Some, None, Result, Ok, Err, refl, sym, ap, subst, ◌∙◌, inl, inr, arith}
use Rattle.std.specs.Prelude.{◌==◌, nat_le}
use Rattle.std.specs.List.{AllByRecursion}
use Rattle.std.proofs.lemmas.Bool.{cond_both, cases_Bool, eq-eqb, lt-leb, and_parts, false≢true}
use Rattle.std.specs.FinSet as set
use Rattle.std.specs.FinMap as map
use Rattle.std.specs.Cmp.{nat_cmp_total, unsigned_tied}
use Rattle.dg_nor.specs.Trail.{last}
use Rattle.dg_trickle.specs.Timer.{Timer}
use Rattle.dg_trickle.specs.Steps.{act_of, after_tick}
use Rattle.dg_trickle.specs.declared.Act.{Act}
use Rattle.dg_trickle.specs.declared.Act.TheVariants as act
use Rattle.dg_recv.specs.Steps.{ask_of}
use Rattle.dg_recv.specs.declared.Ask.{Ask}
use Rattle.dg_recv.specs.declared.Ask.TheVariants as ask
use Rattle.dg_send.specs.Steps.{serve_of, after_next}
use Rattle.dg_send.specs.declared.Serve.{Serve}
use Rattle.dg_send.specs.declared.Serve.TheVariants as serve
use Rattle.dg_quiet.specs.Times.{request_window, packet_window}
use Rattle.dg_quiet.specs.Noted.{Noted, Moments, is_past, may_ask, with_request, with_packet}
use Rattle.dg_bits.specs.Sets.{Numbers}
use Rattle.dg_control.specs.declared.snapshot.Order.{Order}
use Rattle.dg_slot.specs.Layout.{packets}
use Rattle.dg_slot.specs.Kept.{Held}
use Rattle.dg_slot.specs.Jobs.{page_from}
use Rattle.dg_slot.specs.Fits.{may_seal}
use Rattle.dg_volume.specs.Store.{Store, held}
use Rattle.dg_volume.specs.Changes.{is_version}
use Rattle.dg_volume.specs.Start.{order_waits}
use Rattle.dg_frame.specs.Grammar.{message_of}
use Rattle.dg_frame.specs.declared.Entry.{Entry}
use Rattle.dg_frame.specs.declared.Message.{Message}
use Rattle.dg_frame.specs.declared.Message.TheVariants.{Advert, Request, Packet, Wide}
use Rattle.dg_frame.specs.declared.FrameFault.{FrameFault}
use Rattle.dg_mote.specs.Model.{MoteState, Mode, Maintain, Receive, Transmit, Receiving, Sending, came, reception, maintains, MoteStep}
use Rattle.dg_mote.specs.Summary.{entries_of, own_order, advert_by, entry_for, is_own, ahead_in}
use Rattle.dg_mote.specs.Ticks.{clears, maintain_by, receive_by, serving, transmit_by, mode_tick, tick_of}
use Rattle.dg_mote.specs.Adverts.{better_trail, asks, noting, by_ahead, advert_heard, on_advert, offer}
use Rattle.dg_mote.specs.Requests.{concerns, can_serve, is_served, to_it, on_request, page_request}
use Rattle.dg_mote.specs.Packets.{is_wanted, accepted, seal_by, takes, on_packet, page_packet}
use Rattle.dg_mote.specs.Hears.{source_of, on_message, by_message, heard_of}
use Rattle.dg_mote.specs.Rules.{MoteEvent, Ticks, Hears, sent_while, AllBetween, NoRequest, AsksNotFor}
use Rattle.dg_mote.specs.declared.mote.Did.{Did}
use Rattle.dg_mote.specs.declared.mote.Heard.{Heard}

-- windows that forbid asking until a given time: what is noted meanwhile does not end them earlier
pub record Shuts (image from until : ℕ) (Noting : Noted → Type 0) : Type 0 where
  pub request : (n : Noted) (now i : ℕ) → from ≤ now → Noting n → Noting (with_request n now i)
  pub packet : (n : Noted) (now i : ℕ) → from ≤ now → Noting n → Noting (with_packet n now i)
  pub shut : (n : Noted) (now : ℕ) → now < until → Noting n → may_ask n now image ≡ false

-- ---- both windows

-- the image was noted at this time or later
abbrev pub IsNoted : Moments → (image from : ℕ) → Type 0
IsNoted moments image from = (moment : ℕ) × (map.get moments image ≡ Some moment) × (from ≤ moment)

pub got_noted : (x : Moments) (k now : ℕ) → map.get (map.insert x k now) k ≡ Some now
got_noted x k now = map.get-insert nat_cmp_total x k now k ∙ ap (λ b. cond b (Some now) (map.get x k)) (unsigned_tied k k ∙ eq-eqb k k refl)

noted_on : (x : Moments) (i now image from : ℕ) → from ≤ now → IsNoted x image from → IsNoted (map.insert x i now) image from
noted_on x i now image from later noted =
    let g = map.get-insert nat_cmp_total x i now image ∙ ap (λ b. cond b (Some now) (map.get x image)) (unsigned_tied image i) in
    elim (cases_Bool (image == i)) [
      | inl same ↦ (now, g ∙ ap (λ b. cond b (Some now) (map.get x image)) same, later)
      | inr other ↦ (noted.0, g ∙ ap (λ b. cond b (Some now) (map.get x image)) other ∙ noted.1, noted.2)
    ]

shut_by : (o : Option ℕ) (moment quiet now : ℕ) → o ≡ Some moment → now < moment + quiet → is_past o quiet now ≡ false
shut_by None moment quiet now is early = cc
shut_by (Some n) moment quiet now is early = lt-leb (n + quiet) now (let same : n ≡ moment = cc in omega (arith, same, early))

and_false_left : (a b : Bool) → a ≡ false → (a && b) ≡ false
and_false_left true b e = cc
and_false_left false b e = refl

and_false_right : (a b : Bool) → b ≡ false → (a && b) ≡ false
and_false_right true b e = e
and_false_right false b e = refl

pub request_shuts : (image from : ℕ) → Shuts image from (from + request_window) (λ n. IsNoted n.requests image from)
request_shuts image from =
    record {
      request = λ n now i later noted. noted_on n.requests i now image from later noted;
      packet = λ n now i later noted. noted;
      shut = λ n now early noted. and_false_left _ _ (shut_by (map.get n.requests image) noted.0 request_window now noted.1 (omega (arith, early, noted.2)));
    }

pub packet_shuts : (image from : ℕ) → Shuts image from (from + packet_window) (λ n. IsNoted n.packets image from)
packet_shuts image from =
    record {
      request = λ n now i later noted. noted;
      packet = λ n now i later noted. noted_on n.packets i now image from later noted;
      shut = λ n now early noted. and_false_right (is_past (map.get n.requests image) request_window now) _ (shut_by (map.get n.packets image) noted.0 packet_window now noted.1 (omega (arith, early, noted.2)));
    }

module _ (image from until : ℕ) (Noting : Noted → Type 0) (shuts : Shuts image from until Noting) where
  -- a mote with such windows, which does not ask for the image
  pub record IsQuiet (m : MoteState) : Type 0 where
    pub noted : Noting m.noted
    pub mode : AsksNotFor image m.mode

  -- ---- ticks

  record Stays (step : MoteStep Did) : Type 0 where
    quiet : IsQuiet step.mote
    sent : NoRequest image step.sent

  no_request : (wide : Bool) (id : ℕ) (entries : List Entry) (order : Order) → NoRequest image (Some (advert_by wide id entries order))
  no_request true id entries order = tt
  no_request false id entries order = tt

  maintain_quiet : (a : Act) (m : MoteState) (s : Store) → IsQuiet m → Stays (maintain_by a m s)
  maintain_quiet act.Send m s q = record { quiet = q; sent = no_request m.wide m.id (entries_of m.wide s) (own_order m.wide s) }
  maintain_quiet act.Quiet m s q = record { quiet = q; sent = tt }
  maintain_quiet act.Expired m s q = record { quiet = q; sent = tt }
  maintain_quiet act.Nothing m s q = record { quiet = q; sent = tt }

  receive_quiet : (a : Ask) (m : MoteState) (r : Receiving) (s : Store) (now word : ℕ) → IsQuiet m → r.image ≢ image → Stays (receive_by a m r s now word)
  receive_quiet (ask.Request want) m r s now word q other = record { quiet = record { noted = q.noted; mode = other }; sent = other }
  receive_quiet ask.GiveUp m r s now word q other = record { quiet = record { noted = q.noted; mode = tt }; sent = tt }
  receive_quiet ask.Wait m r s now word q other = record { quiet = q; sent = tt }

  serving_quiet : (m : MoteState) (t : Sending) (now word : ℕ) → IsQuiet m → IsQuiet (serving m t now word)
  serving_quiet m t now word q =
      let owed = after_next t.owed now in
      cond_both (set.len owed.left == 0) (maintains m now word) (record m { mode = Transmit (record t { owed = owed }) }) IsQuiet (λ _. record { noted = q.noted; mode = tt }) (λ _. record { noted = q.noted; mode = tt })

  transmit_quiet : (a : Serve) (m : MoteState) (t : Sending) (s : Store) (now word : ℕ) → IsQuiet m → Stays (transmit_by a m t s now word)
  transmit_quiet (serve.Send k) m t s now word q = record { quiet = serving_quiet m t now word q; sent = tt }
  transmit_quiet serve.Done m t s now word q = record { quiet = q; sent = tt }
  transmit_quiet serve.Wait m t s now word q = record { quiet = q; sent = tt }

  mode_quiet : (mode : Mode) (m : MoteState) (s : Store) (now word : ℕ) → IsQuiet m → AsksNotFor image mode → Stays (mode_tick mode m s now word)
  mode_quiet (Maintain timer) m s now word q other =
      cond_both (order_waits s) _ _ Stays (λ _. record { quiet = q; sent = tt })
      (λ _. maintain_quiet (act_of timer now) (record m { mode = Maintain (after_tick timer now word) }) s (record { noted = q.noted; mode = tt }))
  mode_quiet (Receive r) m s now word q other = receive_quiet (ask_of (reception r) now) m r s now word q other
  mode_quiet (Transmit t) m s now word q other = transmit_quiet (serve_of t.owed now) m t s now word q

  tick_quiet : (m : MoteState) (s : Store) (now word : ℕ) → IsQuiet m → Stays (tick_of m s now word)
  unfolding tick_of
  tick_quiet m s now word q = cond_both (clears m s now) _ _ Stays (λ _. record { quiet = q; sent = tt }) (λ _. mode_quiet m.mode m s now word q q.mode)

  -- ---- frames

  abbrev Hushed : MoteStep Heard → Type 0
  Hushed step = IsQuiet step.mote

  module _ (now : ℕ) (begun : from ≤ now) (early : now < until) where
    noting_quiet : (own : Bool) (m : MoteState) (timer : Timer) (s : Store) (word : ℕ) → IsQuiet m → Hushed (noting m timer s now word own)
    noting_quiet true m timer s word q = record { noted = q.noted; mode = tt }
    noting_quiet false m timer s word q = record { noted = q.noted; mode = tt }

    -- it does not ask for the image
    asks_other : (m : MoteState) (s : Store) (i : ℕ) (e : Entry) → IsQuiet m → asks m s now i e ≡ true → i ≢ image
    asks_other m s i e q yes_asks same =
        let may = (and_parts (may_ask m.noted now i) (is_version (held s i) e.version || nat_le 2 s.room) yes_asks).0 in
        false≢true (sym (shuts.shut m.noted now early q.noted) ∙ ap (may_ask m.noted now) (sym same) ∙ may)

    ahead_quiet : (o : Option ℕ) (m : MoteState) (timer : Timer) (s : Store) (word source : ℕ) (entries : List Entry) (own : Bool) → IsQuiet m → Hushed (by_ahead o m s now word (offer source entries) (noting m timer s now word own))
    ahead_quiet None m timer s word source entries own q = noting_quiet own m timer s word q
    ahead_quiet (Some i) m timer s word source entries own q =
        cond_both (asks m s now i (entry_for entries i)) _ _ Hushed
        (λ is. record { noted = q.noted; mode = asks_other m s i (entry_for entries i) q is })
        (λ _. noting_quiet own m timer s word q)

    advert_quiet : (mode : Mode) (m : MoteState) (s : Store) (word source : ℕ) (entries : List Entry) (order : Order) → IsQuiet m → Hushed (on_advert mode m s now word (offer source entries) order)
    unfolding advert_heard
    advert_quiet (Maintain timer) m s word source entries order q =
        let t = better_trail s order in ahead_quiet (ahead_in entries (last t)) m timer (last t) word source entries (is_own entries order m.wide s) q
    advert_quiet (Receive r) m s word source entries order q = q
    advert_quiet (Transmit t) m s word source entries order q = q

    to_it_quiet : (mode : Mode) (m : MoteState) (s : Store) (i version page : ℕ) (want : Numbers) → IsQuiet m → Hushed (to_it mode m s now (page_request i version page want))
    to_it_quiet (Maintain timer) m s i version page want q = cond_both (can_serve s i version page) _ _ Hushed (λ _. record { noted = q.noted; mode = tt }) (λ _. q)
    to_it_quiet (Transmit t) m s i version page want q = cond_both (is_served t i version page) _ _ Hushed (λ _. record { noted = q.noted; mode = tt }) (λ _. q)
    to_it_quiet (Receive r) m s i version page want q = q

    request_quiet : (m : MoteState) (s : Store) (to i version page : ℕ) (want : Numbers) → IsQuiet m → Hushed (on_request m s now to (page_request i version page want))
    request_quiet m s to i version page want q =
        cond_both (to == m.id) _ _ Hushed (λ _. to_it_quiet m.mode m s i version page want q)
        (λ _. cond_both (concerns s i version page) _ _ Hushed (λ _. record { noted = shuts.request m.noted now i begun q.noted; mode = q.mode }) (λ _. q))

    seal_quiet : (o : Option Held) (m : MoteState) (r : Receiving) (s : Store) (word : ℕ) (page : List ℕ) → IsQuiet m → Hushed (seal_by o m r s now word page)
    seal_quiet None m r s word page q = q
    seal_quiet (Some h) m r s word page q =
        cond_both (may_seal r.image h page) _ _ Hushed (λ _. record { noted = q.noted; mode = tt }) (λ _. record { noted = q.noted; mode = tt })

    takes_quiet : (m : MoteState) (r : Receiving) (s : Store) (word k : ℕ) (bytes : List ℕ) → IsQuiet m → r.image ≢ image → Hushed (takes m r s now word k bytes)
    takes_quiet m r s word k bytes q other =
        let a = accepted r now k bytes in
        cond_both (set.len (came a.packets) == packets) _ _ Hushed (λ _. seal_quiet (held s r.image) m r s word (page_from a.packets) q) (λ _. record { noted = q.noted; mode = other })

    packet_quiet : (mode : Mode) (m : MoteState) (s : Store) (word i version page k : ℕ) (bytes : List ℕ) → IsQuiet m → AsksNotFor image mode → Hushed (on_packet mode m s now word (page_packet i version page k bytes))
    packet_quiet (Receive r) m s word i version page k bytes q other =
        cond_both (is_wanted r i version page k) _ _ Hushed (λ _. takes_quiet m r s word k bytes q other) (λ _. q)
    packet_quiet (Maintain timer) m s word i version page k bytes q other =
        cond_both (concerns s i version page) _ _ Hushed (λ _. record { noted = shuts.packet m.noted now i begun q.noted; mode = q.mode }) (λ _. q)
    packet_quiet (Transmit t) m s word i version page k bytes q other = q

    message_quiet : (message : Message) (m : MoteState) (s : Store) (word : ℕ) → IsQuiet m → Hushed (on_message m s now word message)
    message_quiet (Advert source entries order) m s word q = advert_quiet m.mode m s word source entries order q
    message_quiet (Request source to i version page want) m s word q = request_quiet m s to i version page want q
    message_quiet (Packet source i version page packet bytes) m s word q = packet_quiet m.mode m s word i version page packet bytes q q.mode
    message_quiet (Wide source entries order) m s word q = advert_quiet m.mode m s word source entries order q

    frame_quiet : (r : Result Message FrameFault) (m : MoteState) (s : Store) (word : ℕ) → IsQuiet m → Hushed (by_message r m s now word)
    frame_quiet (Err cause) m s word q = q
    frame_quiet (Ok message) m s word q = cond_both (source_of message == m.id) _ _ Hushed (λ _. q) (λ _. message_quiet message m s word q)

    heard_quiet : (m : MoteState) (s : Store) (word : ℕ) (bytes : List ℕ) → IsQuiet m → Hushed (heard_of m s now word bytes)
    unfolding heard_of
    heard_quiet m s word bytes q = frame_quiet (message_of bytes m.wide) m s word q

  -- ---- in a row

  pub quiet_in : ((m : MoteState) (s : Store) (now word : ℕ) (bytes : List ℕ) → (heard_of m s now word bytes).sent ≡ None) → (events : List MoteEvent) (m : MoteState) (s : Store) → AllBetween from until events → IsQuiet m → AllByRecursion (NoRequest image) (sent_while events m s)
  unfolding sent_while
  quiet_in silent [] m s between q = tt
  quiet_in silent (Ticks now word ∷ rest) m s between q =
      let step = tick_of m s now word in
      let stays = tick_quiet m s now word q in
      (stays.sent, quiet_in silent rest step.mote (last step.trail) between.1 stays.quiet)
  quiet_in silent (Hears now word bytes ∷ rest) m s between q =
      let step = heard_of m s now word bytes in
      (subst (NoRequest image) (sym (silent m s now word bytes)) tt, quiet_in silent rest step.mote (last step.trail) between.1 (heard_quiet now between.0.0 between.0.1 m s word bytes q))

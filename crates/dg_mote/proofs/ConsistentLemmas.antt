-- Ticks and frames over consistent stores, whatever the frames carry.
use Rattle.std.proofs.Common.{◌≡◌, ℕ, ◌<◌, ◌≤◌, Bool, true, false, ◌&&◌, List, length, Option, Some, None, Result, Ok, Err, refl, sym, subst, arith, option_map, ◌∙◌}
use Rattle.std.specs.Prelude.{◌==◌, nat_le, nat_lt, IfOk, OnOk, OnErr}
use Rattle.std.proofs.Math.ListN.{length-set}
use Rattle.std.proofs.lemmas.Bool.{cond_both}
use Rattle.std.specs.FinSet as set
use Rattle.dg_bits.specs.Sets.{Numbers}
use Rattle.dg_nor.specs.Trail.{Trail, Leaves, last, joined, resting, stepping}
use Rattle.dg_nor.specs.Device.{Device}
use Rattle.dg_nor.specs.Through.{Through}
use Rattle.dg_nor.proofs.ThroughLemmas.{Through-joined, Through-resting, Through-stepping, Through-last, Leaves-through}
use Rattle.dg_control.specs.Store.{commit_operations}
use Rattle.dg_control.specs.declared.snapshot.Order.{Order}
use Rattle.dg_object.specs.Object.{Row, Outline}
use Rattle.dg_quiet.specs.Noted.{with_packet, with_request}
use Rattle.dg_recv.specs.Steps.{ask_of}
use Rattle.dg_recv.specs.declared.Ask.{Ask}
use Rattle.dg_recv.specs.declared.Ask.TheVariants as ask
use Rattle.dg_send.specs.Steps.{serve_of, after_next, owed_begun, after_merge}
use Rattle.dg_send.specs.declared.Serve.{Serve}
use Rattle.dg_send.specs.declared.Serve.TheVariants as serve
use Rattle.dg_slot.specs.Kept.{Held, with_page}
use Rattle.dg_slot.specs.Jobs.{page_from}
use Rattle.dg_slot.specs.Fits.{may_seal}
use Rattle.dg_slot.specs.Layout.{packets}
use Rattle.dg_trickle.specs.Timer.{Timer}
use Rattle.dg_trickle.specs.Steps.{act_of, after_tick, after_same, after_other}
use Rattle.dg_trickle.specs.declared.Act.{Act}
use Rattle.dg_trickle.specs.declared.Act.TheVariants as act
use Rattle.dg_volume.specs.Sizes.{images}
use Rattle.dg_volume.specs.Store.{Store, IsNear, held}
use Rattle.dg_volume.specs.Changes.{paged, ordered, gesture_cleared, is_version}
use Rattle.dg_volume.specs.Trails.{order_trail, clear_trail, take_trail}
use Rattle.dg_volume.specs.Start.{order_waits}
use Rattle.dg_volume.specs.Acts.{Stops}
use Rattle.dg_volume.specs.Consistent.{Consistent}
use Rattle.dg_frame.specs.Grammar.{message_of}
use Rattle.dg_frame.specs.declared.Entry.{Entry}
use Rattle.dg_frame.specs.declared.Message.{Message}
use Rattle.dg_frame.specs.declared.Message.TheVariants.{Advert, Request, Packet, Wide}
use Rattle.dg_frame.specs.declared.FrameFault.{FrameFault}
use Rattle.dg_mote.specs.Model.{MoteState, Mode, Maintain, Receive, Transmit, Receiving, Sending, came, reception, maintains, MoteStep}
use Rattle.dg_mote.specs.Summary.{entry_for, is_own, ahead_in}
use Rattle.dg_mote.specs.Ticks.{clears, maintain_by, asked, receive_by, serving, transmit_by, mode_tick, tick_of}
use Rattle.dg_mote.specs.Adverts.{outline, better_trail, ask_trail, asks, asking, noting, by_ahead, turn_behind, advert_heard, on_advert, offer}
use Rattle.dg_mote.specs.Requests.{concerns, can_serve, is_served, to_it, on_request, page_request}
use Rattle.dg_mote.specs.Packets.{is_wanted, accepted, seal_by, takes, on_packet, page_packet}
use Rattle.dg_mote.specs.Hears.{source_of, on_message, by_message, heard_of}
use Rattle.dg_mote.specs.Consistency.{AsksForKnown, StoreIsConsistent, TurnIsConsistent, ChipIsConsistent, MoteIsConsistent}
use Rattle.dg_mote.specs.Motes.{IsMote, Done}
use Rattle.dg_mote.specs.declared.mote.Mote.{Mote}
use Rattle.dg_mote.specs.declared.mote.Did.{Did}
use Rattle.dg_mote.specs.declared.mote.Heard.{Heard}
use Rattle.dg_mote.proofs.ReadLemmas.{IsWellRead, HasShape, well_read}
use Rattle.dg_mote.proofs.KeepLemmas.{through_both, through_then}
use Rattle.dg_mote.proofs.WellStores.{HasSlots, take_slots}
use Rattle.dg_mote.proofs.AdvertLemmas.{is_ahead}

-- ---- what lower crates promise

pub record ActLaws (golden : Row) : Type 0 where
  pub order : (s : Store) (o : Order) → Consistent golden s → Through (Consistent golden) (order_trail s o)
  pub clear : (s : Store) → Consistent golden s → Through (Consistent golden) (clear_trail s)
  pub take : (s : Store) (p : Outline) → 1 ≤ p.image → p.image < length s.kept → Consistent golden s → Through (Consistent golden) (take_trail s p)
  pub page : (s : Store) (image : ℕ) (h : Held) (page : List ℕ) (n : ℕ) → 1 ≤ image → image < length s.kept → held s image ≡ Some h → may_seal image h page ≡ true
      → Consistent golden s → Through (Consistent golden) (stepping s n (paged image page s))

module _ (golden : Row) (laws : ActLaws golden) (now word : ℕ) where
  abbrev P : Store → Type 0
  P = StoreIsConsistent golden

  abbrev Turns : {A : Type 0} → MoteStep A → Type 0
  Turns step = TurnIsConsistent golden step

  -- ---- stores that have their slots too

  both : (t : Trail Store) → Through (Consistent golden) t → Through HasSlots t → Through P t
  both t c p = through_then (λ s. Consistent golden s × HasSlots s) P (λ s h. record { count = h.1; consistent = h.0 }) t (through_both (Consistent golden) HasSlots t c p)

  order_way : (s : Store) (o : Order) → P s → Through P (order_trail s o)
  order_way s o p = both (order_trail s o) (laws.order s o p.consistent) (Through-stepping HasSlots s (commit_operations s.room) (ordered s o) p.count p.count)

  clear_way : (s : Store) → P s → Through P (clear_trail s)
  clear_way s p = both (clear_trail s) (laws.clear s p.consistent) (Through-stepping HasSlots s (commit_operations s.room) (gesture_cleared s) p.count p.count)

  take_way : (s : Store) (o : Outline) → 1 ≤ o.image → o.image < images → P s → Through P (take_trail s o)
  take_way s o low high p = let count = p.count in both (take_trail s o) (laws.take s o low (omega (arith, high, count)) p.consistent) (take_slots s o p.count)

  page_way : (s : Store) (image : ℕ) (h : Held) (page : List ℕ) (n : ℕ) → 1 ≤ image → image < images → held s image ≡ Some h → may_seal image h page ≡ true → P s → Through P (stepping s n (paged image page s))
  page_way s image h page n low high here may p =
      let count = p.count in
      both (stepping s n (paged image page s)) (laws.page s image h page n low (omega (arith, high, count)) here may p.consistent)
      (Through-stepping HasSlots s n (paged image page s) p.count (length-set s.kept image (option_map (λ x. with_page x page) (held s image)) ∙ p.count))

  rests : {A : Type 0} (m : MoteState) (s : Store) (n : ℕ) (sent : Option Message) (answer : A) → P s → AsksForKnown m.mode → Turns (record { mote = m; trail = resting s n; sent = sent; answer = answer })
  rests m s n sent answer p asks = record { way = Through-resting P s n p; asks = asks }

  -- ---- ticks

  module _ (s : Store) (here : P s) where
    maintain_turns : (a : Act) (m : MoteState) → AsksForKnown m.mode → Turns (maintain_by a m s)
    maintain_turns act.Send m own = rests m s 0 _ _ here own
    maintain_turns act.Quiet m own = rests m s 0 None _ here own
    maintain_turns act.Expired m own = rests m s 0 None _ here own
    maintain_turns act.Nothing m own = rests m s 0 None _ here own

    receive_turns : (a : Ask) (m : MoteState) (r : Receiving) → AsksForKnown m.mode → AsksForKnown (Receive r) → Turns (receive_by a m r s now word)
    receive_turns (ask.Request want) m r own known = rests (record m { mode = Receive (asked r now) }) s 0 _ _ here (known.0, known.1)
    receive_turns ask.GiveUp m r own known = rests (maintains m now word) s 0 None _ here tt
    receive_turns ask.Wait m r own known = rests m s 0 None _ here own

    serving_asks : (m : MoteState) (t : Sending) → AsksForKnown (serving m t now word).mode
    serving_asks m t = cond_both (set.len (after_next t.owed now).left == 0) _ _ (λ (x : MoteState). AsksForKnown x.mode) (λ _. tt) (λ _. tt)

    transmit_turns : (a : Serve) (m : MoteState) (t : Sending) → AsksForKnown m.mode → Turns (transmit_by a m t s now word)
    transmit_turns (serve.Send q) m t own = rests (serving m t now word) s 0 _ _ here (serving_asks m t)
    transmit_turns serve.Done m t own = rests m s 0 None _ here own
    transmit_turns serve.Wait m t own = rests m s 0 None _ here own

    mode_turns : (mode : Mode) (m : MoteState) → AsksForKnown m.mode → AsksForKnown mode → Turns (mode_tick mode m s now word)
    mode_turns (Maintain timer) m own known =
        cond_both (order_waits s) _ _ Turns (λ _. rests m s 0 None _ here own)
        (λ _. maintain_turns (act_of timer now) (record m { mode = Maintain (after_tick timer now word) }) tt)
    mode_turns (Receive r) m own known = receive_turns (ask_of (reception r) now) m r own known
    mode_turns (Transmit t) m own known = transmit_turns (serve_of t.owed now) m t own

    cleared_turns : (m : MoteState) (answer : Did) → AsksForKnown m.mode → Turns (record { mote = m; trail = clear_trail s; sent = None; answer = answer })
    cleared_turns m answer own = record { way = clear_way s here; asks = own }

    pub tick_consistent : (m : MoteState) → AsksForKnown m.mode → Turns (tick_of m s now word)
    unfolding tick_of
    tick_consistent m own = cond_both (clears m s now) _ _ Turns (λ _. cleared_turns m _ own) (λ _. mode_turns m.mode m own own)

  -- ---- adverts

  ask_way : (s : Store) (i : ℕ) (e : Entry) → 1 ≤ i → i < images → P s → Through P (ask_trail s i e)
  unfolding ask_trail
  ask_way s i e low high p =
      let t = take_trail s (outline i e) in
      let way = take_way s (outline i e) low high p in
      cond_both (is_version (held s i) e.version) (resting s 1) (joined t (resting (last t) 1)) (Through P)
      (λ _. Through-resting P s 1 p)
      (λ _. Through-joined P t (resting (last t) 1) way (Through-resting P (last t) 1 (Through-last P t way)))

  better_way : (s : Store) (o : Order) → P s → Through P (better_trail s o)
  unfolding better_trail
  better_way s o p = cond_both (nat_lt s.order.number o.number && nat_le 1 s.room) _ _ (Through P) (λ _. order_way s o p) (λ _. Through-resting P s 0 p)

  noting_turns : (own : Bool) (m : MoteState) (timer : Timer) (s : Store) → P s → Turns (noting m timer s now word own)
  noting_turns true m timer s p = rests (record m { mode = Maintain (after_same timer) }) s 0 None _ p tt
  noting_turns false m timer s p = rests (record m { mode = Maintain (after_other timer now word) }) s 0 None _ p tt

  module _ (source : ℕ) (entries : List Entry) (few : length entries < images) where
    asking_turns : (m : MoteState) (s : Store) (i : ℕ) (e : Entry) → 1 ≤ i → i < images → P s → Turns (asking m s now word source i e)
    asking_turns m s i e low high p = record { way = ask_way s i e low high p; asks = (low, high) }

    ahead_turns : (o : Option ℕ) (m : MoteState) (timer : Timer) (s : Store) (own : Bool) → P s → ahead_in entries s ≡ o → Turns (by_ahead o m s now word (offer source entries) (noting m timer s now word own))
    ahead_turns None m timer s own p is = noting_turns own m timer s p
    ahead_turns (Some i) m timer s own p is =
        let a = is_ahead entries s i is in
        let high = a.high in
        cond_both (asks m s now i (entry_for entries i)) _ _ Turns
        (λ _. asking_turns m s i (entry_for entries i) a.low (omega (arith, high, few)) p)
        (λ _. noting_turns own m timer s p)

    behind_turns : (t : Trail Store) (step : MoteStep Heard) → Through P t → Turns step → Turns (turn_behind t step)
    behind_turns t step way k = record { way = Through-joined P t step.trail way k.way; asks = k.asks }

    advert_turns : (mode : Mode) (m : MoteState) (s : Store) (order : Order) → P s → AsksForKnown m.mode → Turns (on_advert mode m s now word (offer source entries) order)
    unfolding advert_heard
    advert_turns (Maintain timer) m s order p own =
        let t = better_trail s order in
        let first = better_way s order p in
        behind_turns t _ first (ahead_turns (ahead_in entries (last t)) m timer (last t) (is_own entries order m.wide s) (Through-last P t first) refl)
    advert_turns (Receive r) m s order p own = rests m s 0 None _ p own
    advert_turns (Transmit t) m s order p own = rests m s 0 None _ p own

  -- ---- requests and packets

  module _ (s : Store) (here : P s) where
    to_it_turns : (mode : Mode) (m : MoteState) (image version page : ℕ) (want : Numbers) → AsksForKnown m.mode → Turns (to_it mode m s now (page_request image version page want))
    to_it_turns (Maintain timer) m image version page want own =
        cond_both (can_serve s image version page) _ _ Turns
        (λ _. rests (record m { mode = Transmit (record { image = image; version = version; page = page; owed = owed_begun now want }) }) s 0 None _ here tt)
        (λ _. rests m s 0 None _ here own)
    to_it_turns (Transmit t) m image version page want own =
        cond_both (is_served t image version page) _ _ Turns
        (λ _. rests (record m { mode = Transmit (record t { owed = after_merge t.owed want }) }) s 0 None _ here tt)
        (λ _. rests m s 0 None _ here own)
    to_it_turns (Receive r) m image version page want own = rests m s 0 None _ here own

    request_turns : (m : MoteState) (to image version page : ℕ) (want : Numbers) → AsksForKnown m.mode → Turns (on_request m s now to (page_request image version page want))
    request_turns m to image version page want own =
        cond_both (to == m.id) _ _ Turns (λ _. to_it_turns m.mode m image version page want own)
        (λ _. cond_both (concerns s image version page) _ _ Turns
        (λ _. rests (record m { noted = with_request m.noted now image }) s 0 None _ here own)
        (λ _. rests m s 0 None _ here own))

    -- a page that fits is sealed, and no other
    seal_turns : (o : Option Held) (m : MoteState) (r : Receiving) (page : List ℕ) → held s r.image ≡ o → AsksForKnown m.mode → AsksForKnown (Receive r) → Turns (seal_by o m r s now word page)
    seal_turns None m r page is own known = rests m s 0 None _ here own
    seal_turns (Some h) m r page is own known =
        cond_both (may_seal r.image h page) _ _ Turns
        (λ may. record {
          way = Through-joined P (resting s 1) (stepping s 1 (paged r.image page s)) (Through-resting P s 1 here) (page_way s r.image h page 1 known.0 known.1 is may here);
          asks = tt;
        })
        (λ _. rests (maintains m now word) s 1 None _ here tt)

    takes_turns : (m : MoteState) (r : Receiving) (q : ℕ) (bytes : List ℕ) → AsksForKnown m.mode → AsksForKnown (Receive r) → Turns (takes m r s now word q bytes)
    takes_turns m r q bytes own known =
        let then = accepted r now q bytes in
        cond_both (set.len (came then.packets) == packets) _ _ Turns
        (λ _. seal_turns (held s r.image) m r (page_from then.packets) refl own known)
        (λ _. rests (record m { mode = Receive then }) s 1 None _ here (known.0, known.1))

    packet_turns : (mode : Mode) (m : MoteState) (image version page q : ℕ) (bytes : List ℕ) → AsksForKnown m.mode → AsksForKnown mode → Turns (on_packet mode m s now word (page_packet image version page q bytes))
    packet_turns (Receive r) m image version page q bytes own known =
        cond_both (is_wanted r image version page q) _ _ Turns (λ _. takes_turns m r q bytes own known) (λ _. rests m s 0 None _ here own)
    packet_turns (Maintain timer) m image version page q bytes own known =
        cond_both (concerns s image version page) _ _ Turns
        (λ _. rests (record m { noted = with_packet m.noted now image }) s 0 None _ here own)
        (λ _. rests m s 0 None _ here own)
    packet_turns (Transmit t) m image version page q bytes own known = rests m s 0 None _ here own

    -- ---- whatever is heard

    message_turns : (message : Message) (m : MoteState) → AsksForKnown m.mode → HasShape message → Turns (on_message m s now word message)
    message_turns (Advert source entries order) m own shape = advert_turns source entries (omega (arith, shape)) m.mode m s order here own
    message_turns (Request source to image version page want) m own shape = request_turns m to image version page want own
    message_turns (Packet source image version page q bytes) m own shape = packet_turns m.mode m image version page q bytes own own
    message_turns (Wide source entries order) m own shape = advert_turns source entries (omega (arith, shape)) m.mode m s order here own

    frame_turns : (r : Result Message FrameFault) (m : MoteState) → AsksForKnown m.mode → IsWellRead m.wide r → Turns (by_message r m s now word)
    frame_turns (Err fault) m own read = rests m s 0 None _ here own
    frame_turns (Ok message) m own read =
        cond_both (source_of message == m.id) _ _ Turns (λ _. rests m s 0 None _ here own) (λ _. message_turns message m own read.1)

    pub heard_consistent : (m : MoteState) (bytes : List ℕ) → AsksForKnown m.mode → Turns (heard_of m s now word bytes)
    unfolding heard_of
    heard_consistent m bytes own = frame_turns (message_of bytes m.wide) m own (well_read bytes m.wide)

-- ---- what a stop leaves

pub consistent_room : (golden : Row) (s : Store) (room : ℕ) → StoreIsConsistent golden s → StoreIsConsistent golden (record s { room = room })
consistent_room golden s room p =
    let c = p.consistent in
    record { count = p.count; consistent = record { version = c.version; golden = c.golden; kept = c.kept; app = c.app } }

near_consistent : (golden : Row) (a s : Store) → StoreIsConsistent golden a → IsNear a s → StoreIsConsistent golden s
near_consistent golden a s p near = subst (λ (x : Store). StoreIsConsistent golden x) (sym near.same) (consistent_room golden a s.room p)

pub stopped_consistent : (golden : Row) (t : Trail Store) (k : ℕ) (s : Store) → Through (StoreIsConsistent golden) t → Leaves IsNear t k s → StoreIsConsistent golden s
stopped_consistent golden t k s way left = Leaves-through IsNear (StoreIsConsistent golden) (near_consistent golden) t k s way left

-- ---- over the bytes of a chip

-- a call that did what the rules say
pub turn_consistent : {T E : Type 0} (golden : Row) (turn : MoteState → Store → MoteStep T) → ((m : MoteState) (s : Store) → StoreIsConsistent golden s → AsksForKnown m.mode → TurnIsConsistent golden (turn m s))
    → (r : Result T E) (a b : Device) (v u : Mote) → IfOk r (λ x. (m : MoteState) (s : Store) → IsMote a.image v m s → Done (turn m s) a b u x) → OnOk r (MoteIsConsistent golden a.image v → MoteIsConsistent golden b.image u)
turn_consistent golden turn law (Ok x) a b v u done = λ here.
    let t = law here.state here.store here.consistent here.asks in
    let d = done here.state here.store here.stands in
    record {
      state = (turn here.state here.store).mote;
      store = last (turn here.state here.store).trail;
      stands = d.mote;
      consistent = Through-last (StoreIsConsistent golden) (turn here.state here.store).trail t.way;
      asks = t.asks;
    }
turn_consistent golden turn law (Err e) a b v u done = tt

-- one that was stopped
pub stop_consistent : {T E : Type 0} (golden : Row) (turn : MoteState → Store → MoteStep T) → ((m : MoteState) (s : Store) → StoreIsConsistent golden s → AsksForKnown m.mode → TurnIsConsistent golden (turn m s))
    → ((t : Trail Store) (k : ℕ) (s : Store) → Through (StoreIsConsistent golden) t → Leaves IsNear t k s → StoreIsConsistent golden s)
    → (r : Result T E) (a b : Device) (v : Mote) → OnErr r ((m : MoteState) (s : Store) → IsMote a.image v m s → Stops (turn m s).trail a b) → OnErr r (MoteIsConsistent golden a.image v → ChipIsConsistent golden b.image)
stop_consistent golden turn law stopped (Ok x) a b v stops = tt
stop_consistent golden turn law stopped (Err e) a b v stops = λ here.
    let t = law here.state here.store here.consistent here.asks in
    let leaves = (stops here.state here.store here.stands).leaves in
    record {
      store = leaves.store;
      stands = leaves.stands_for;
      consistent = stopped (turn here.state here.store).trail (stops here.state here.store here.stands).done leaves.store t.way leaves.allowed;
    }

-- if a call's answer implies P for each golden image, it implies P for all of them
pub on_each : {T E A : Type 0} (P : A → Type 0) (r : Result T E) → ((a : A) → OnOk r (P a)) → OnOk r ((a : A) → P a)
on_each P (Ok x) each = each
on_each P (Err e) each = tt

pub on_each_err : {T E A : Type 0} (P : A → Type 0) (r : Result T E) → ((a : A) → OnErr r (P a)) → OnErr r ((a : A) → P a)
on_each_err P (Ok x) each = tt
on_each_err P (Err e) each = each

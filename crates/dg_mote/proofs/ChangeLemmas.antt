-- What ticks and frames change of what the chip keeps.
use Rattle.std.proofs.Common.{◌≡◌, ◌⊎◌, ℕ, ◌<◌, ◌≤◌, Bool, true, false, ◌&&◌, ◌||◌, List, Option, Some, None, is_some, Result, Ok, refl, sym, ap, subst, ◌∙◌, inl, inr, ⊎_elim, arith, ltb-true, leb-true, eqb-true}
use Rattle.std.specs.Prelude.{◌==◌, nat_lt, nat_le, slice_set, slice_index_or}
use Rattle.std.specs.FinSet as set
use Rattle.std.proofs.lemmas.Bool.{cond_both, cases_eq, and_parts, eqb-false}
use Rattle.std.proofs.lemmas.List.{get_or-set_other, set-set, set-get_or}
use Rattle.dg_nor.specs.Trail.{Trail, last, joined, resting, stepping}
use Rattle.dg_nor.specs.Through.{Through}
use Rattle.dg_nor.proofs.TrailLemmas.{last-joined, last-resting}
use Rattle.dg_nor.proofs.ThroughLemmas.{Through-joined, Through-resting, Through-stepping, Through-last}
use Rattle.dg_trickle.specs.Timer.{Timer}
use Rattle.dg_trickle.specs.Steps.{act_of, after_tick}
use Rattle.dg_trickle.specs.declared.Act.{Act}
use Rattle.dg_trickle.specs.declared.Act.TheVariants as act
use Rattle.dg_recv.specs.Steps.{ask_of}
use Rattle.dg_recv.specs.declared.Ask.{Ask}
use Rattle.dg_recv.specs.declared.Ask.TheVariants as ask
use Rattle.dg_send.specs.Steps.{serve_of}
use Rattle.dg_send.specs.declared.Serve.{Serve}
use Rattle.dg_send.specs.declared.Serve.TheVariants as serve
use Rattle.dg_bits.specs.Sets.{Numbers}
use Rattle.dg_control.specs.Store.{commit_operations}
use Rattle.dg_control.specs.declared.snapshot.Order.{Order}
use Rattle.dg_object.specs.Object.{Outline}
use Rattle.dg_slot.specs.Layout.{packets}
use Rattle.dg_slot.specs.Kept.{Held, held_begun}
use Rattle.dg_slot.specs.Jobs.{packet, put_packet, page_from}
use Rattle.dg_slot.specs.Fits.{may_seal}
use Rattle.dg_volume.specs.Store.{Store, held}
use Rattle.dg_volume.specs.Changes.{spent, keeping, paged, ordered, gesture_cleared, is_version}
use Rattle.dg_volume.specs.Trails.{committing, order_trail, drop_by, drop_trail, open_trail, take_trail, BeginsAt}
use Rattle.dg_volume.specs.Ends.{taken}
use Rattle.dg_volume.specs.Start.{order_waits}
use Rattle.dg_frame.specs.Grammar.{message_of}
use Rattle.dg_frame.specs.declared.Entry.{Entry}
use Rattle.dg_frame.specs.declared.FrameFault.{FrameFault}
use Rattle.dg_frame.specs.declared.Message.{Message}
use Rattle.dg_frame.specs.declared.Message.TheVariants.{Request, Packet}
use Rattle.dg_mote.specs.Model.{MoteState, Mode, Maintain, Receive, Transmit, Receiving, Sending, came, reception, MoteStep}
use Rattle.dg_mote.specs.Summary.{entry_for, advert_by, is_own, advertiser_ahead, ahead_in}
use Rattle.dg_mote.specs.Ticks.{clears, maintain_by, receive_by, transmit_by, mode_tick, tick_of}
use Rattle.dg_mote.specs.Adverts.{outline, better_trail, ask_trail, asks, noting, by_ahead, advert_heard, on_advert, offer}
use Rattle.dg_mote.specs.Requests.{concerns, can_serve, is_served, to_it, page_request}
use Rattle.dg_mote.specs.Packets.{is_wanted, seal_by, on_packet, page_packet}
use Rattle.dg_mote.specs.Hears.{by_message, heard_of}
use Rattle.dg_mote.specs.Changes.{MayClear, IsBehind, TakesAdvert, Completes}
use Rattle.dg_mote.specs.declared.mote.Did.{Did}
use Rattle.dg_mote.specs.declared.mote.Heard.{Heard}
use Rattle.dg_mote.proofs.AdvertLemmas.{is_ahead}
use Rattle.dg_mote.proofs.PacketLemmas.{wanted}
use Rattle.dg_mote.proofs.KeepLemmas.{through_then}
use Rattle.dg_mote.proofs.CameLemmas.{came_all}

joined_first : (t u : Trail Store) → (joined t u).first ≡ t.first
unfolding joined
joined_first t u = refl

-- ---- ticks

abbrev Rests : {A : Type 0} → Store → MoteStep A → Type 0
Rests s step = step.trail ≡ resting s 0

maintain_rests : (a : Act) (m : MoteState) (s : Store) → Rests s (maintain_by a m s)
maintain_rests act.Send m s = refl
maintain_rests act.Quiet m s = refl
maintain_rests act.Expired m s = refl
maintain_rests act.Nothing m s = refl

receive_rests : (a : Ask) (m : MoteState) (r : Receiving) (s : Store) (now word : ℕ) → Rests s (receive_by a m r s now word)
receive_rests (ask.Request want) m r s now word = refl
receive_rests ask.GiveUp m r s now word = refl
receive_rests ask.Wait m r s now word = refl

transmit_rests : (a : Serve) (m : MoteState) (t : Sending) (s : Store) (now word : ℕ) → Rests s (transmit_by a m t s now word)
transmit_rests (serve.Send q) m t s now word = refl
transmit_rests serve.Done m t s now word = refl
transmit_rests serve.Wait m t s now word = refl

mode_rests : (mode : Mode) (m : MoteState) (s : Store) (now word : ℕ) → Rests s (mode_tick mode m s now word)
mode_rests (Maintain timer) m s now word = cond_both (order_waits s) _ _ (Rests s) (λ _. refl) (λ _. maintain_rests (act_of timer now) (record m { mode = Maintain (after_tick timer now word) }) s)
mode_rests (Receive r) m s now word = receive_rests (ask_of (reception r) now) m r s now word
mode_rests (Transmit t) m s now word = transmit_rests (serve_of t.owed now) m t s now word

pub tick_clears : (m : MoteState) (s : Store) (now word : ℕ) → Through (MayClear s) (tick_of m s now word).trail
unfolding tick_of
tick_clears m s now word =
    cond_both (clears m s now) _ _ (λ (step : MoteStep Did). Through (MayClear s) step.trail)
    (λ _. Through-stepping (MayClear s) s (commit_operations s.room) (gesture_cleared s) (inl refl) (inr refl))
    (λ _. subst (Through (MayClear s)) (sym (mode_rests m.mode m s now word)) (Through-resting (MayClear s) s 0 (inl refl)))

-- ---- requests

to_it_rests : (mode : Mode) (m : MoteState) (s : Store) (now image version page : ℕ) (want : Numbers) → Rests s (to_it mode m s now (page_request image version page want))
to_it_rests (Maintain timer) m s now image version page want = cond_both (can_serve s image version page) _ _ (λ (step : MoteStep Heard). Rests s step) (λ _. refl) (λ _. refl)
to_it_rests (Transmit t) m s now image version page want = cond_both (is_served t image version page) _ _ (λ (step : MoteStep Heard). Rests s step) (λ _. refl) (λ _. refl)
to_it_rests (Receive r) m s now image version page want = refl

request_by_rests : (m : MoteState) (s : Store) (now word source to image version page : ℕ) (want : Numbers) → Rests s (by_message (Ok (Request source to image version page want)) m s now word)
request_by_rests m s now word source to image version page want =
    cond_both (source == m.id) _ _ (λ (step : MoteStep Heard). Rests s step) (λ _. refl)
    (λ _. cond_both (to == m.id) _ _ (λ (step : MoteStep Heard). Rests s step) (λ _. to_it_rests m.mode m s now image version page want)
    (λ _. cond_both (concerns s image version page) _ _ (λ (step : MoteStep Heard). Rests s step) (λ _. refl) (λ _. refl)))

pub request_rests : (m : MoteState) (s : Store) (now word : ℕ) (bytes : List ℕ) (source to image version page : ℕ) (want : Numbers)
    → message_of bytes m.wide ≡ Ok (Request source to image version page want) → (heard_of m s now word bytes).trail ≡ resting s 0
unfolding heard_of
request_rests m s now word bytes source to image version page want is =
    subst (λ (r : Result Message FrameFault). Rests s (by_message r m s now word)) (sym is) (request_by_rests m s now word source to image version page want)

-- ---- packets

module _ (m : MoteState) (s : Store) (image version page q : ℕ) where
  abbrev Turns : Store → Type 0
  Turns t = (t ≡ s) ⊎ Completes m.mode image version page q s t

  rests_turns : (n : ℕ) → Through Turns (resting s n)
  rests_turns n = Through-resting Turns s n (inl refl)

  all_came : (r : Receiving) (bytes : List ℕ) → set.len (came (put_packet r.packets q bytes)) ≡ packets → (p : ℕ) → p < packets → (is_some (packet r.packets p) ≡ true) ⊎ (p ≡ q)
  all_came r bytes full p low =
      ⊎_elim (λ same. inr same)
      (λ other. inl (let c = came_all (put_packet r.packets q bytes) full p low in
      sym (ap is_some (get_or-set_other r.packets q p (Some bytes) None other)) ∙ ap is_some c.1))
      (cases_eq p q)

  seal_turns : (o : Option Held) (r : Receiving) (now word : ℕ) (content : List ℕ) → Completes m.mode image version page q s (paged r.image content s) → Through Turns (seal_by o m r s now word content).trail
  seal_turns None r now word content all = rests_turns 0
  seal_turns (Some h) r now word content all =
      cond_both (may_seal r.image h content) _ _ (λ (step : MoteStep Heard). Through Turns step.trail)
      (λ _. Through-joined Turns (resting s 1) (stepping s 1 (paged r.image content s)) (rests_turns 1) (Through-stepping Turns s 1 (paged r.image content s) (inl refl) (inr all)))
      (λ _. rests_turns 1)

  packet_turns : (mode : Mode) (now word : ℕ) (bytes : List ℕ) → m.mode ≡ mode → Through Turns (on_packet mode m s now word (page_packet image version page q bytes)).trail
  packet_turns (Receive r) now word bytes is =
      let ps = put_packet r.packets q bytes in
      cond_both (is_wanted r image version page q) _ _ (λ (step : MoteStep Heard). Through Turns step.trail)
      (λ w. let known = wanted r image version page q w in
      cond_both (set.len (came ps) == packets) _ _ (λ (step : MoteStep Heard). Through Turns step.trail)
      (λ full. seal_turns (held s r.image) r now word (page_from ps)
      (record {
        r = r;
        receives = is;
        image_is = known.image_is;
        version_is = known.version_is;
        page_is = known.page_is;
        all = all_came r bytes (eqb-true (set.len (came ps)) packets full);
        content = page_from ps;
        paged_is = ap (λ (i : ℕ). paged i (page_from ps) s) known.image_is;
      }))
      (λ _. rests_turns 1))
      (λ _. rests_turns 0)
  packet_turns (Maintain timer) now word bytes is = cond_both (concerns s image version page) _ _ (λ (step : MoteStep Heard). Through Turns step.trail) (λ _. rests_turns 0) (λ _. rests_turns 0)
  packet_turns (Transmit t) now word bytes is = rests_turns 0

  packet_by_turns : (now word source : ℕ) (bytes : List ℕ) → Through Turns (by_message (Ok (Packet source image version page q bytes)) m s now word).trail
  packet_by_turns now word source bytes =
      cond_both (source == m.id) _ _ (λ (step : MoteStep Heard). Through Turns step.trail) (λ _. rests_turns 0) (λ _. packet_turns m.mode now word bytes refl)

pub packet_completes : (m : MoteState) (s : Store) (now word : ℕ) (bytes : List ℕ) (source image version page q : ℕ) (content : List ℕ)
    → message_of bytes m.wide ≡ Ok (Packet source image version page q content) → Through (λ t. (t ≡ s) ⊎ Completes m.mode image version page q s t) (heard_of m s now word bytes).trail
unfolding heard_of
packet_completes m s now word bytes source image version page q content is =
    subst (λ (r : Result Message FrameFault). Through (Turns m s image version page q) (by_message r m s now word).trail) (sym is) (packet_by_turns m s image version page q now word source content)

-- ---- adverts

module _ (ends : (s : Store) (p : Outline) → last (take_trail s p) ≡ taken s p) (begins : (s : Store) (p : Outline) → BeginsAt s (take_trail s p)) (entries : List Entry) (order : Order) (s : Store) where
  abbrev TakesThere : Bool → Store → Type 0
  TakesThere stopped t = TakesAdvert entries order stopped s t

  -- a better order may have been kept, and nothing else changes
  record OrderTaken (u : Store) : Type 0 where
    pub order_is : (u.order ≡ s.order) ⊎ ((u.order ≡ order) × (s.order.number < order.number))
    pub kept : u.kept ≡ s.kept
    pub app : u.app ≡ s.app
    pub gesture : u.gesture ≡ s.gesture
    pub room : u.room ≤ s.room

  kept_better_keeps : (stopped : Bool) (u : Store) → OrderTaken u → TakesThere stopped u
  kept_better_keeps stopped u h = record {
    order_is = h.order_is;
    image = 1;
    not_golden = omega arith;
    here = held s 1;
    kept = h.kept ∙ sym (set-get_or s.kept 1 None);
    change = inl refl;
    app = h.app;
    gesture = h.gesture;
    room = h.room;
  }

  better_way : Through OrderTaken (better_trail s order)
  unfolding better_trail
  better_way =
      let same : OrderTaken s = record { order_is = inl refl; kept = refl; app = refl; gesture = refl; room = omega arith } in
      cond_both (nat_lt s.order.number order.number && nat_le 1 s.room) (order_trail s order) (resting s 0) (Through OrderTaken)
      (λ may. let low = ltb-true s.order.number order.number (and_parts (nat_lt s.order.number order.number) (nat_le 1 s.room) may).0 in
      Through-stepping OrderTaken s (commit_operations s.room) (ordered s order) same
      (record { order_is = inr (refl, low); kept = refl; app = refl; gesture = refl; room = omega arith }))
      (λ _. Through-resting OrderTaken s 0 same)

  -- ---- one image is restarted

  module _ (u : Store) (h : OrderTaken u) (i : ℕ) (low : 1 ≤ i) (behind : IsBehind (entry_for entries i) (held s i)) where
    abbrev P : Outline
    P = outline i (entry_for entries i)

    takes_to : (stopped : Bool) (t : Store) (here : Option Held) → t.kept ≡ slice_set u.kept i here → t.order ≡ u.order → t.app ≡ u.app → t.gesture ≡ u.gesture → t.room ≤ u.room
        → (here ≡ Some (held_begun P)) ⊎ ((stopped ≡ true) × (here ≡ None)) → TakesThere stopped t
    takes_to stopped t here kept order_is app gesture room how = record {
      order_is = subst (λ (o : Order). (o ≡ s.order) ⊎ ((o ≡ order) × (s.order.number < order.number))) (sym order_is) h.order_is;
      image = i;
      not_golden = low;
      here = here;
      kept = kept ∙ ap (λ (xs : List (Option Held)). slice_set xs i here) h.kept;
      change = inr (behind, how);
      app = app ∙ h.app;
      gesture = gesture ∙ h.gesture;
      room = omega (arith, room, h.room);
    }

    -- after the first commit, if any
    record Dropped (t : Store) : Type 0 where
      pub kept : (t.kept ≡ u.kept) ⊎ (t.kept ≡ slice_set u.kept i None)
      pub order_is : t.order ≡ u.order
      pub app : t.app ≡ u.app
      pub gesture : t.gesture ≡ u.gesture
      pub room : t.room ≤ u.room

    drop_way : (o : Option Held) → Through Dropped (drop_by o u i)
    drop_way None = Through-resting Dropped u 0 (record { kept = inl refl; order_is = refl; app = refl; gesture = refl; room = omega arith })
    drop_way (Some old) =
        Through-stepping Dropped u (commit_operations u.room) (keeping i None (spent u)) (record { kept = inl refl; order_is = refl; app = refl; gesture = refl; room = omega arith })
        (record { kept = inr refl; order_is = refl; app = refl; gesture = refl; room = omega arith })

    dropped_keeps_better : (t : Store) → Dropped t → TakesThere true t
    dropped_keeps_better t d =
        ⊎_elim
        (λ same. kept_better_keeps true t (record {
          order_is = subst (λ (o : Order). (o ≡ s.order) ⊎ ((o ≡ order) × (s.order.number < order.number))) (sym d.order_is) h.order_is;
          kept = same ∙ h.kept;
          app = d.app ∙ h.app;
          gesture = d.gesture ∙ h.gesture;
          room = omega (arith, d.room, h.room);
        }))
        (λ gone. takes_to true t None gone d.order_is d.app d.gesture d.room (inr (refl, refl)))
        d.kept

    begun_keeps_better : (t : Store) → Dropped t → TakesThere true (keeping i (Some (held_begun P)) (spent t))
    begun_keeps_better t d =
        takes_to true (keeping i (Some (held_begun P)) (spent t)) (Some (held_begun P))
        (⊎_elim (λ same. ap (λ (xs : List (Option Held)). slice_set xs i (Some (held_begun P))) same)
        (λ gone. ap (λ (xs : List (Option Held)). slice_set xs i (Some (held_begun P))) gone ∙ set-set u.kept i None (Some (held_begun P))) d.kept)
        d.order_is d.app d.gesture (let less = d.room in omega (arith, less)) (inl refl)

    open_way : (t : Store) → Dropped t → Through (TakesThere true) (open_trail t P)
    open_way t d =
        let next = keeping i (Some (held_begun P)) (spent t) in
        Through-joined (TakesThere true) (resting t 2) (committing t next) (Through-resting (TakesThere true) t 2 (dropped_keeps_better t d))
        (Through-stepping (TakesThere true) t (commit_operations t.room) next (dropped_keeps_better t d) (begun_keeps_better t d))

    take_way : Through (TakesThere true) (take_trail u P)
    unfolding take_trail drop_trail
    take_way =
        let t = drop_by (held u i) u i in
        let first = drop_way (held u i) in
        Through-joined (TakesThere true) t (open_trail (last t) P) (through_then Dropped (TakesThere true) dropped_keeps_better t first) (open_way (last t) (Through-last Dropped t first))

    taken_keeps_better : TakesThere false (taken u P)
    taken_keeps_better = takes_to false (taken u P) (Some (held_begun P)) refl refl refl refl (omega arith) (inl refl)

  -- ---- the whole advert

  -- the rest of the trail begins at this store, goes through such stores, and ends at one
  record Goes (u : Store) (t : Trail Store) : Type 0 where
    pub first : t.first ≡ u
    pub way : Through (TakesThere true) t
    pub ends_so : TakesThere false (last t)

  rests_goes : (u : Store) (n : ℕ) → OrderTaken u → Goes u (resting u n)
  unfolding Rattle.dg_nor.specs.Trail.last_of
  rests_goes u n h = record { first = refl; way = Through-resting (TakesThere true) u n (kept_better_keeps true u h); ends_so = kept_better_keeps false u h }

  noting_goes : (own : Bool) (m : MoteState) (timer : Timer) (u : Store) (now word : ℕ) → OrderTaken u → Goes u (noting m timer u now word own).trail
  noting_goes true m timer u now word h = rests_goes u 0 h
  noting_goes false m timer u now word h = rests_goes u 0 h

  is_behind : (e : Entry) (o : Option Held) → advertiser_ahead e o ≡ true → is_version o e.version ≡ false → IsBehind e o
  is_behind e None ahead other = record { some = leb-true 1 e.have ahead; older = tt }
  is_behind e (Some k) ahead other =
      let parts = and_parts (nat_le 1 e.have) _ ahead in
      record {
        some = leb-true 1 e.have parts.0;
        older = ⊎_elim (λ less. ltb-true k.version e.version less)
            (λ same. absurd (eqb-false k.version e.version other (sym (eqb-true e.version k.version (and_parts (e.version == k.version) _ (and_parts _ _ (and_parts _ _ same).0).0).0))))
            (either (nat_lt k.version e.version) _ parts.1);
      }
    where
      either : (a b : Bool) → (a || b) ≡ true → (a ≡ true) ⊎ (b ≡ true)
      either true b e = inl refl
      either false b e = inr e

  ask_goes : (u : Store) (i : ℕ) → OrderTaken u → 1 ≤ i → advertiser_ahead (entry_for entries i) (held u i) ≡ true → Goes u (ask_trail u i (entry_for entries i))
  unfolding ask_trail
  ask_goes u i h low ahead =
      let e = entry_for entries i in
      let p = outline i e in
      let t = take_trail u p in
      let same : held u i ≡ held s i = ap (λ (xs : List (Option Held)). slice_index_or xs i None) h.kept in
      cond_both (is_version (held u i) e.version) (resting u 1) (joined t (resting (last t) 1)) (Goes u)
      (λ _. rests_goes u 1 h)
      (λ other.
      let behind : IsBehind e (held s i) = subst (IsBehind e) same (is_behind e (held u i) ahead other) in
      let way = take_way u h i low behind in
      let at : last (joined t (resting (last t) 1)) ≡ taken u p = last-joined t (resting (last t) 1) refl ∙ last-resting (last t) 1 ∙ ends u p in
      record {
        first = joined_first t (resting (last t) 1) ∙ (begins u p).first;
        way = Through-joined (TakesThere true) t (resting (last t) 1) way (Through-resting (TakesThere true) (last t) 1 (Through-last (TakesThere true) t way));
        ends_so = subst (TakesThere false) (sym at) (taken_keeps_better u h i low behind);
      })

  ahead_goes : (o : Option ℕ) (m : MoteState) (timer : Timer) (u : Store) (now word source : ℕ) (own : Bool) → OrderTaken u
      → ((i : ℕ) → o ≡ Some i → (1 ≤ i) × (advertiser_ahead (entry_for entries i) (held u i) ≡ true)) → Goes u (by_ahead o m u now word (offer source entries) (noting m timer u now word own)).trail
  ahead_goes None m timer u now word source own h known = noting_goes own m timer u now word h
  ahead_goes (Some i) m timer u now word source own h known =
      let k = known i refl in
      cond_both (asks m u now i (entry_for entries i)) _ _ (λ (step : MoteStep Heard). Goes u step.trail)
      (λ _. ask_goes u i h k.0 k.1) (λ _. noting_goes own m timer u now word h)

  -- the trail goes through such stores, and ends at one
  abbrev Both : MoteStep Heard → Type 0
  Both step = Through (TakesThere true) step.trail × TakesThere false (last step.trail)

  same_both : Through (TakesThere true) (resting s 0) × TakesThere false (last (resting s 0))
  same_both = let g = rests_goes s 0 (record { order_is = inl refl; kept = refl; app = refl; gesture = refl; room = omega arith }) in (g.way, g.ends_so)

  advert_both : (m : MoteState) (timer : Timer) (now word source : ℕ) → Both (advert_heard m timer s now word (offer source entries) order)
  unfolding advert_heard
  advert_both m timer now word source =
      let t = better_trail s order in
      let u = last t in
      let rest = by_ahead (ahead_in entries u) m u now word (offer source entries) (noting m timer u now word (is_own entries order m.wide s)) in
      let g = ahead_goes (ahead_in entries u) m timer u now word source (is_own entries order m.wide s) (Through-last OrderTaken t better_way) (λ i e. let a = is_ahead entries u i e in (a.low, a.ahead)) in (
        Through-joined (TakesThere true) t rest.trail (through_then OrderTaken (TakesThere true) (kept_better_keeps true) t better_way) g.way,
        subst (TakesThere false) (sym (last-joined t rest.trail (sym g.first))) g.ends_so,
      )

  on_advert_both : (mode : Mode) (m : MoteState) (now word source : ℕ) → Both (on_advert mode m s now word (offer source entries) order)
  on_advert_both (Maintain timer) m now word source = advert_both m timer now word source
  on_advert_both (Receive r) m now word source = same_both
  on_advert_both (Transmit t) m now word source = same_both

  advert_by_both : (m : MoteState) (now word : ℕ) (wide : Bool) (source : ℕ) → Both (by_message (Ok (advert_by wide source entries order)) m s now word)
  advert_by_both m now word true source = cond_both (source == m.id) _ _ Both (λ _. same_both) (λ _. on_advert_both m.mode m now word source)
  advert_by_both m now word false source = cond_both (source == m.id) _ _ Both (λ _. same_both) (λ _. on_advert_both m.mode m now word source)

  pub advert_keeps_better : (m : MoteState) (now word : ℕ) (bytes : List ℕ) (wide : Bool) (source : ℕ) → message_of bytes m.wide ≡ Ok (advert_by wide source entries order)
      → Through (TakesAdvert entries order true s) (heard_of m s now word bytes).trail × TakesAdvert entries order false s (last (heard_of m s now word bytes).trail)
  unfolding heard_of
  advert_keeps_better m now word bytes wide source is = subst (λ (r : Result Message FrameFault). Both (by_message r m s now word)) (sym is) (advert_by_both m now word wide source)

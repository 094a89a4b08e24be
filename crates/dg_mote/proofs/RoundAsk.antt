-- A drained mote that hears the advert of a mote ahead of it asks for a page, and its next tick sends the request.
use Rattle.std.proofs.Common.{◌≡◌, ◌≢◌, ℕ, ◌+◌, ◌≤◌, Bool, true, false, not, ◌&&◌, cond, leb, List, length, take, get_or, Option, Some, None, IfSome, Ok, refl, sym, ap, subst, ◌∙◌, inl, inr, arith}
use Rattle.std.proofs.lemmas.Bool.{ne_eqb, le-leb, le-ltb, or_right, cases_Bool, cases_eq}
use Rattle.std.specs.List.{find}
use Rattle.std.specs.FinSet as set
use Rattle.dg_words.proofs.ListLemmas.{length-tabulate}
use Rattle.dg_nor.specs.Trail.{Trail, last, last_of, joined, resting}
use Rattle.dg_nor.proofs.TrailLemmas.{last-joined, last-resting}
use Rattle.dg_bits.specs.Sets.{below}
use Rattle.dg_bits.proofs.SetLaws.{same_numbers, contains-less, contains-below}
use Rattle.dg_trickle.specs.Timer.{Timer}
use Rattle.dg_recv.specs.Steps.{reception_begun, missing}
use Rattle.dg_recv.specs.declared.Ask.TheVariants as ask
use Rattle.dg_recv.specs.Times.{next_wait}
use Rattle.dg_control.specs.declared.snapshot.Order.{Order}
use Rattle.dg_object.specs.Object.{Row, Outline, object, profile}
use Rattle.dg_slot.specs.Layout.{packets}
use Rattle.dg_slot.specs.Kept.{Held}
use Rattle.dg_slot.specs.Jobs.{no_packets}
use Rattle.dg_volume.specs.Store.{Store, held}
use Rattle.dg_volume.specs.Changes.{ordered, is_version}
use Rattle.dg_volume.specs.Trails.{BeginsAt, order_trail, take_trail, done_of}
use Rattle.dg_volume.specs.Ends.{taken}
use Rattle.dg_volume.specs.Table.{row_at}
use Rattle.dg_volume.specs.Agreement.{Agrees, KeepsRow, HoldsRow}
use Rattle.dg_frame.specs.declared.Entry.{Entry}
use Rattle.dg_frame.specs.declared.Message.{Message}
use Rattle.dg_frame.specs.declared.Message.TheVariants.{Request}
use Rattle.dg_mote.specs.Model.{MoteState, Maintain, Receive, Receiving, MoteStep, came, reception}
use Rattle.dg_mote.specs.Summary.{entry_for, entry_by, entries_of, advertiser_ahead, ahead_in, named, own_order, advert_of, is_own}
use Rattle.dg_mote.specs.Ticks.{asked, receive_by}
use Rattle.dg_mote.specs.Adverts.{better_trail, ask_trail, outline, asks, asking, noting, by_ahead, turn_behind, advert_heard, on_advert, dropped, offer}
use Rattle.dg_mote.specs.Hears.{on_message, by_message}
use Rattle.dg_mote.specs.Effects.{tick_by, tick_effect}
use Rattle.dg_mote.specs.Spots.{Spot, SpotIsWell, pace, hears, ticked}
use Rattle.dg_mote.specs.Drained.{Drained, spare_room, HasRoom}
use Rattle.dg_mote.specs.Completing.{TookProfile, KeepsNext, AsksPage, Asked, Requested}
use Rattle.dg_mote.specs.declared.mote.Did.{Did}
use Rattle.dg_mote.proofs.RowLemmas.{few_complete}
use Rattle.dg_mote.proofs.AdvertLemmas.{no_packets-count, none_came, no_packet}
use Rattle.dg_mote.proofs.RoundTicks.{spot_of, ticked_by, tick_by_mode, not_clearing, asks_now}
use Rattle.dg_mote.proofs.RoundTake.{none_yet}
use Rattle.dg_mote.proofs.RoundNext.{found, asked_store, IsNext, next_by, can_keep_better, kept_better, same_kept_better}

-- ---- what it hears

-- it begins to ask then
abbrev receiving : (now server i page version : ℕ) → Receiving
receiving now server i page version = record { image = i; version = version; page = page; server = server; tries = (reception_begun now 0).tries; due = (reception_begun now 0).due; packets = no_packets }

-- what lower crates promise of the acts
pub record ActLaws : Type 0 where
  pub order : (s : Store) (o : Order) → last (order_trail s o) ≡ ordered s o
  pub take : (s : Store) (p : Outline) → last (take_trail s p) ≡ taken s p
  pub take_begins : (s : Store) (p : Outline) → BeginsAt s (take_trail s p)

module _ (laws : ActLaws) where
  last_better : (s : Store) (o : Order) → last (better_trail s o) ≡ kept_better s o
  unfolding better_trail
  last_better s o = by (can_keep_better s o)
    where
      by : (b : Bool) → last (cond b (order_trail s o) (resting s 0)) ≡ cond b (ordered s o) s
      by true = laws.order s o
      by false = last-resting s 0

  last_ask : (s : Store) (i : ℕ) (e : Entry) → last (ask_trail s i e) ≡ asked_store s i e
  unfolding ask_trail
  last_ask s i e = by (is_version (held s i) e.version)
    where
      t : Trail Store
      t = take_trail s (outline i e)

      by : (b : Bool) → last (cond b (resting s 1) (joined t (resting (last t) 1))) ≡ cond b s (taken s (outline i e))
      by true = last-resting s 1
      by false = last-joined t (resting (last t) 1) refl ∙ last-resting (last t) 1 ∙ laws.take s (outline i e)

  first_ask : (s : Store) (i : ℕ) (e : Entry) → (ask_trail s i e).first ≡ s
  unfolding ask_trail joined
  first_ask s i e = by (is_version (held s i) e.version)
    where
      t : Trail Store
      t = take_trail s (outline i e)

      by : (b : Bool) → (cond b (resting s 1) (joined t (resting (last t) 1))).first ≡ s
      by true = refl
      by false = (laws.take_begins s (outline i e)).first

  -- the message of another mote, of either width, is heard as an advert of its entries and its order
  hears_summary : (wide : Bool) (m : MoteState) (here : Store) (now id : ℕ) (s : Store) → id ≢ m.id
      → by_message (Ok (advert_of id wide s)) m here now 0 ≡ on_advert m.mode m here now 0 (offer id (entries_of wide s)) (own_order wide s)
  hears_summary true m here now id s other = ap (λ b. cond b (dropped m here) (on_message m here now 0 (advert_of id true s))) (ne_eqb id m.id other)
  hears_summary false m here now id s other = ap (λ b. cond b (dropped m here) (on_message m here now 0 (advert_of id false s))) (ne_eqb id m.id other)

  module _ (x : Spot) (now id : ℕ) (s : Store) (timer : Timer) where
    abbrev summary : Message
    summary = advert_of id x.mote.wide s

    abbrev entries : List Entry
    entries = entries_of x.mote.wide s

    abbrev order : Order
    order = own_order x.mote.wide s

    abbrev t : Trail Store
    t = better_trail x.store order

    abbrev own : Bool
    own = is_own entries order x.mote.wide x.store

    abbrev s1 : Store
    s1 = kept_better x.store order

    hears_advert : id ≢ x.mote.id → x.mote.mode ≡ Maintain timer → hears x now summary ≡ spot_of (turn_behind t (by_ahead (ahead_in entries s1) x.mote s1 now 0 (offer id entries) (noting x.mote timer s1 now 0 own)))
    unfolding hears advert_heard
    hears_advert other is =
        ap spot_of (
        hears_summary x.mote.wide x.mote x.store now id s other
        ∙ ap (λ k. on_advert k x.mote x.store now 0 (offer id entries) order) is
        ∙ ap (λ c. turn_behind t (by_ahead (ahead_in entries c) x.mote c now 0 (offer id entries) (noting x.mote timer c now 0 own))) (last_better x.store order))

    ahead_same : ahead_in entries s1 ≡ ahead_in entries x.store
    unfolding ahead_in
    ahead_same = ap (λ ks. find (λ i. advertiser_ahead (entry_for entries i) (get_or ks i None)) (named entries)) (same_kept_better (can_keep_better x.store order) x.store order).kept

    abbrev e_of : ℕ → Entry
    e_of i = entry_for entries i

    abbrev may : ℕ → Bool
    may i = asks x.mote s1 now i (e_of i)

    hears_ahead : (i : ℕ) → id ≢ x.mote.id → x.mote.mode ≡ Maintain timer → ahead_in entries x.store ≡ Some i
        → hears x now summary ≡ spot_of (turn_behind t (cond (may i) (asking x.mote s1 now 0 id i (e_of i)) (noting x.mote timer s1 now 0 own)))
    hears_ahead i other is a = hears_advert other is ∙ ap (λ o. spot_of (turn_behind t (by_ahead o x.mote s1 now 0 (offer id entries) (noting x.mote timer s1 now 0 own)))) (ahead_same ∙ a)

    -- it would fail to ask only if there is no room
    quiet_store : (b : Bool) → last (turn_behind t (noting x.mote timer s1 now 0 b)).trail ≡ s1
    quiet_store true = last-joined t (resting s1 0) (last_better x.store order) ∙ last-resting s1 0
    quiet_store false = last-joined t (resting s1 0) (last_better x.store order) ∙ last-resting s1 0

    does_ask : (i : ℕ) → Drained x now → id ≢ x.mote.id → x.mote.mode ≡ Maintain timer → ahead_in entries x.store ≡ Some i → HasRoom (hears x now summary) → may i ≡ true
    does_ask i d other is a room = elim (cases_Bool (may i)) [
      | inl agreed ↦ agreed
      | inr none ↦
          let same : (hears x now summary).store ≡ s1 =
          ap (λ (z : Spot). z.store) (hears_ahead i other is a ∙ ap (λ b. spot_of (turn_behind t (cond b (asking x.mote s1 now 0 id i (e_of i)) (noting x.mote timer s1 now 0 own)))) none) ∙ quiet_store own in
          let left : spare_room ≤ s1.room = subst (λ (c : Store). spare_room ≤ c.room) same room in
          λ i0. d.windows now i (omega arith) i0 && or_right (is_version (held s1 i) (e_of i).version) (leb 2 s1.room) (le-leb 2 s1.room (omega (arith, left))) i0
    ]

    abbrev asker : (i page version : ℕ) → MoteState
    asker i page version = record x.mote { mode = Receive (receiving now id i page version) }

    hears_asks : (i : ℕ) (ahead : Held) → id ≢ x.mote.id → x.mote.mode ≡ Maintain timer → ahead_in entries x.store ≡ Some i → may i ≡ true → e_of i ≡ entry_by (Some ahead)
        → let f = asked_store s1 i (entry_by (Some ahead)) in hears x now summary ≡ record { store = f; mote = asker i (done_of (held f i)) ahead.version }
    hears_asks i ahead other is a agreed same =
        hears_ahead i other is a
        ∙ ap (λ b. spot_of (turn_behind t (cond b (asking x.mote s1 now 0 id i (e_of i)) (noting x.mote timer s1 now 0 own)))) agreed
        ∙ ap (λ e. spot_of (turn_behind t (asking x.mote s1 now 0 id i e))) same
        ∙ ap (λ c. record { store = c; mote = asker i (done_of (held (last (ask_trail s1 i (entry_by (Some ahead)))) i)) ahead.version })
        (last-joined t (ask_trail s1 i (entry_by (Some ahead))) (last_better x.store order ∙ sym (first_ask s1 i (entry_by (Some ahead)))))
        ∙ ap (λ c. record { store = c; mote = asker i (done_of (held c i)) ahead.version }) (last_ask s1 i (entry_by (Some ahead)))

-- ---- it is well then

begun_row : (table : List Row) (i : ℕ) (ahead g : Held) → TookProfile ahead g → KeepsRow table i ahead → KeepsRow table i g
begun_row table i ahead g b a =
    record {
      row = a.row;
      in_table = ap (row_at table i) b.version ∙ a.in_table;
      pages = b.pages ∙ a.pages;
      crc = b.crc ∙ a.crc;
      first = b.complete ∙ sym (ap (λ xs. take (length xs) (object a.row)) b.complete);
    }

keeps_next : (table : List Row) (i : ℕ) (o : Option Held) (ahead g : Held) → KeepsNext o ahead g → IfSome o (KeepsRow table i) → KeepsRow table i ahead → KeepsRow table i g
keeps_next table i None ahead g n k a = begun_row table i ahead g n a
keeps_next table i (Some h) ahead g n k a = elim n [
  | inl same ↦ subst (KeepsRow table i) (sym same.1) k
  | inr newer ↦ begun_row table i ahead g newer.1 a
]

few_kept : (table : List Row) (i : ℕ) (h : Held) → KeepsRow table i h → length h.complete ≤ h.pages
few_kept table i h k =
    let n : length (object k.row) ≡ h.pages = length-tabulate (profile k.row).pages _ ∙ sym k.pages in
    omega (arith, few_complete table i h k, n)

asks_well : (table : List Row) (x : Spot) (now id i : ℕ) (s f : Store) (ahead : Held) → SpotIsWell table x now → Agrees table s → held s i ≡ Some ahead → 1 ≤ i → (n : IsNext x.store f i ahead)
    → SpotIsWell table (record { store = f; mote = record x.mote { mode = Receive (receiving now id i (done_of (held f i)) ahead.version) } }) now
asks_well table x now id i s f ahead w a there some n =
    let k : KeepsRow table i ahead = subst (λ o. IfSome o (KeepsRow table i)) there (a.kept i) in
    let before = w.store.agrees in
    let g : KeepsRow table i n.kept = keeps_next table i (held x.store i) ahead n.kept n.next (before.kept i) k in
    record {
      store = record {
        count = n.count ∙ w.store.count;
        agrees = record {
          golden = (before.golden.0, before.golden.1, n.others 0 (λ e. omega (arith, some, e)) ∙ before.golden.2);
          kept = λ j. elim (cases_eq j i) [
            | inl e ↦ subst (λ m. IfSome (held f m) (KeepsRow table m)) (sym e) (subst (λ o. IfSome o (KeepsRow table i)) (sym n.held_now) g)
            | inr other ↦ subst (λ o. IfSome o (KeepsRow table j)) (sym (n.others j other)) (before.kept j)
          ];
          app = subst (λ o. IfSome o (HoldsRow table)) (sym n.app) before.app;
        };
      };
      mode = record {
        not_golden = some;
        row = g.row;
        in_table = subst (λ v. row_at table i v ≡ Some g.row) n.version g.in_table;
        kept = n.kept;
        held_here = n.held_now;
        version = n.version;
        next = sym (ap done_of n.held_now);
        more = omega (arith, ap done_of n.held_now, n.less, few_kept table i ahead k, n.pages);
        count = no_packets-count;
        missing = omega (arith, none_came);
        honest = λ q bytes e. absurd (no_packet q bytes e);
      };
      timely = record { since = w.timely.since; requests = w.timely.requests; packets_noted = w.timely.packets_noted; mode = omega arith };
    }

pub asks_law : ActLaws → (table : List Row) (x : Spot) (now id : ℕ) (s : Store) (i : ℕ) → SpotIsWell table x now → Drained x now → Agrees table s → id ≢ x.mote.id
    → ahead_in (entries_of x.mote.wide s) x.store ≡ Some i → HasRoom (hears x now (advert_of id x.mote.wide s)) → (ahead : Held) × (held s i ≡ Some ahead) × Asked table x (hears x now (advert_of id x.mote.wide s)) now id i ahead
asks_law laws table x now id s i w d a other is room =
    let fo = found x.mote.wide s x.store i is in
    let ahead = fo.ahead in
    let order = own_order x.mote.wide s in
    let st = kept_better x.store order in
    let keeps = same_kept_better (can_keep_better x.store order) x.store order in
    let agreed = does_ask laws x now id s d.timer i d other d.maintains is room in
    let f = asked_store st i (entry_by (Some ahead)) in
    let same = hears_asks laws x now id s d.timer i ahead other d.maintains is agreed fo.entry in
    let held_st : (j : ℕ) → held st j ≡ held x.store j = λ j. ap (λ k. get_or k j None) keeps.kept in
    let n = next_by (held st i) st i ahead refl (omega (arith, fo.to, w.store.count, ap length keeps.kept)) (ap (advertiser_ahead (entry_by (Some ahead))) (held_st i) ∙ fo.is_ahead) in
    let nx : IsNext x.store f i ahead =
    record {
      kept = n.kept;
      held_now = n.held_now;
      next = subst (λ o. KeepsNext o ahead n.kept) (held_st i) n.next;
      version = n.version;
      pages = n.pages;
      crc = n.crc;
      less = n.less;
      others = λ j different. n.others j different ∙ held_st j;
      count = n.count ∙ ap length keeps.kept;
      app = n.app ∙ keeps.app;
      gesture = n.gesture ∙ keeps.gesture;
    } in
    let r = receiving now id i (done_of (held f i)) ahead.version in (
      ahead,
      fo.kept,
      subst (λ z. Asked table x z now id i ahead) (sym same) (record {
        kept = n.kept;
        asks = record { r = r; receives = refl; image_is = refl; version_is = sym n.version; page_is = ap done_of n.held_now; fresh = refl; held_now = n.held_now };
        server = refl;
        tries = refl;
        due = omega arith;
        next = nx.next;
        version = n.version;
        less = n.less;
        others = nx.others;
        gesture = nx.gesture ∙ d.gesture;
        id_is = refl;
        wide_is = refl;
        well = asks_well table x now id i s f ahead w a fo.kept fo.from nx;
      }),
    )

-- ---- the request

all_missing : set.difference (below packets) (came no_packets) ≡ below packets
all_missing =
    ap (set.difference (below packets)) none_yet
    ∙ same_numbers _ _ (λ q. contains-less (below packets) (below 0) q ∙ ap (λ b. set.contains (below packets) q && not b) (contains-below 0 q ∙ le-ltb q 0 (omega arith)) ∙ and_true (set.contains (below packets) q))
  where
    and_true : (b : Bool) → (b && true) ≡ b
    and_true true = refl
    and_true false = refl

pub requests_law : (x : Spot) (now server image : ℕ) (kept : Held) → (a : AsksPage x image kept) → a.r.server ≡ server → a.r.tries ≡ 0 → a.r.due ≤ now + next_wait → x.store.gesture ≡ 0
    → Requested x (ticked x (now + pace)) now image kept server
unfolding last_of tick_effect
requests_law x now server image kept a to few soon g =
    let r = a.r in
    let later = now + pace in
    let turn = tick_by_mode x later (Receive r) (not_clearing x.mote x.store later g) a.receives ∙ ap (λ k. receive_by k x.mote r x.store later 0) (asks_now r later (omega (arith, soon)) (omega (arith, few))) in
    let y : Spot = record { store = x.store; mote = record x.mote { mode = Receive (asked r later) } } in
    let same : ticked x later ≡ y = ticked_by x later (receive_by (ask.Request (missing (reception r))) x.mote r x.store later 0) turn in
    subst (λ z. Requested x z now image kept server) (sym same) (record {
      asks = record { r = asked r later; receives = refl; image_is = a.image_is; version_is = a.version_is; page_is = a.page_is; fresh = a.fresh; held_now = a.held_now };
      store = refl;
      id_is = refl;
      wide_is = refl;
      sent =
          ap (λ (s : MoteStep Did). (tick_by s.answer s later 0).sent) turn
          ∙ (λ i. Some (Request x.mote.id (to i) (a.image_is i) (a.version_is i) (a.page_is i) (set.difference (below packets) (came (a.fresh i)))))
          ∙ ap (λ w. Some (Request x.mote.id server image kept.version (length kept.complete) w)) all_missing;
    })

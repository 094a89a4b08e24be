-- A mote that serves a page sends one packet per tick, the lowest first, and then maintains.
use Rattle.std.proofs.Common.{◌≡◌, ◌≢◌, ℕ, zero, suc, ◌+◌, ◌*◌, ◌<◌, ◌≤◌, Bool, true, false, not, ◌&&◌, cond, eqb, ltb, List, [], length, map, get_or, Some, None, refl, sym, ap, subst, ◌∙◌, arith}
use Rattle.std.proofs.lemmas.Bool.{le-ltb, lt-ltb, ne_eqb, eq-eqb, both_ways}
use Rattle.std.proofs.lemmas.Bool.Decides.{nat_tests}
use Rattle.std.specs.List.{range_with_len}
use Rattle.std.specs.Ordering.{nat_cmp}
use Rattle.std.specs.FinSet as set
use Rattle.dg_bits.specs.Sets.{Numbers, below, least}
use Rattle.dg_bits.proofs.SetLaws.{same_numbers, contains-none, contains-without, contains-less, contains-below, least_is}
use Rattle.dg_send.specs.Times.{packet_gap}
use Rattle.dg_send.specs.Owed.{Owed}
use Rattle.dg_send.specs.Steps.{serve_by, next_by, after_next}
use Rattle.dg_nor.specs.Trail.{last, last_of, resting}
use Rattle.dg_volume.specs.Store.{held}
use Rattle.dg_volume.specs.Start.{complete_pages}
use Rattle.dg_frame.specs.declared.Message.{Message}
use Rattle.dg_frame.specs.declared.Message.TheVariants.{Packet, Request}
use Rattle.dg_mote.specs.Model.{MoteState, Maintain, Transmit, Sending, maintains, MoteStep}
use Rattle.dg_mote.specs.Ticks.{clears, sends_message, serving, stored, transmit_by}
use Rattle.dg_mote.specs.Effects.{Effect, on, tick_by, tick_effect}
use Rattle.dg_mote.specs.Spots.{Spot, pace, tick_at, ticked, after_ticks, mote_or, hears}
use Rattle.dg_slot.specs.Layout.{packets}
use Rattle.dg_mote.specs.Completing.{SendsEach, packet_message, ServesPage}
use Rattle.dg_mote.specs.Drained.{Drained}
use Rattle.dg_mote.specs.Hears.{on_message}
use Rattle.dg_mote.specs.Adverts.{dropped}
use Rattle.dg_mote.specs.Requests.{can_serve, to_it, overheard, page_request}
use Rattle.dg_mote.specs.declared.mote.Heard.{Heard}
use Rattle.dg_mote.specs.declared.mote.Heard.TheVariants.{Serves}
use Rattle.dg_trickle.specs.Timer.{Timer}
use Rattle.dg_slot.specs.Kept.{Held}
use Rattle.dg_volume.specs.Changes.{is_version}
use Rattle.dg_volume.specs.Trails.{done_of}
use Rattle.dg_mote.proofs.RoundTicks.{spot_of, tick_by_mode, not_clearing}

-- ---- the packets from k on

pub from : ℕ → Numbers
from k = set.difference (below packets) (below k)

in_from : (k q : ℕ) → set.contains (from k) q ≡ (ltb q packets && not (ltb q k))
unfolding from
in_from k q = contains-less (below packets) (below k) q ∙ (λ i. contains-below packets q i && not (contains-below k q i))

from_none : from 0 ≡ below packets
from_none = same_numbers _ _ (λ q. in_from 0 q ∙ all (ltb q packets) q ∙ sym (contains-below packets q))
  where
    all : (b : Bool) (q : ℕ) → (b && not (ltb q 0)) ≡ b
    all b q = grind (arith, nat_tests)

from_less : (k : ℕ) → set.remove (from k) k ≡ from (k + 1)
from_less k = same_numbers _ _ (λ q. contains-without (from k) k q ∙ ap (λ b. not (eqb q k) && b) (in_from k q) ∙ less q ∙ sym (in_from (k + 1) q))
  where
    less : (q : ℕ) → (not (eqb q k) && (ltb q packets && not (ltb q k))) ≡ (ltb q packets && not (ltb q (k + 1)))
    less q = grind (arith, nat_tests)

from_end : from packets ≡ set.empty
from_end = same_numbers _ _ (λ q. in_from packets q ∙ none q ∙ sym (contains-none q))
  where
    none : (q : ℕ) → (ltb q packets && not (ltb q packets)) ≡ false
    none q = grind (arith, nat_tests)

from_least : (k : ℕ) → k < packets → least (from k) ≡ Some k
from_least k h = least_is (from k) k (record { member = in_from k k ∙ first; no_smaller = λ q is. later q (sym (in_from k q) ∙ is) })
  where
    first : (ltb k packets && not (ltb k k)) ≡ true
    first = grind (arith, nat_tests)

    later : (q : ℕ) → (ltb q packets && not (ltb q k)) ≡ true → k ≤ q
    later q e = grind (arith, nat_tests)

from_some : (k : ℕ) → k < packets → eqb (set.len (from k)) 0 ≡ false
from_some k h = ne_eqb (set.len (from k)) 0 (λ e. both_ways (set.contains (from k) k) (ap (λ s. set.contains s k) (set.empty_of_len (from k) e) ∙ contains-none k) (in_from k k ∙ first))
  where
    first : (ltb k packets && not (ltb k k)) ≡ true
    first = grind (arith, nat_tests)

-- ---- a tick that sends

abbrev sending : (image version page : ℕ) → Owed → Sending
sending image version page owed = record { image = image; version = version; page = page; owed = owed }

tick_sends : (x : Spot) (now q : ℕ) (t : Sending) → x.mote.mode ≡ Transmit t → clears x.mote x.store now ≡ false → least t.owed.left ≡ Some q → t.owed.due ≤ now
    → tick_at x now ≡ on (sends_message (serving x.mote t now 0) x.store (Packet x.mote.id t.image t.version t.page q (stored x.store t q)))
unfolding tick_effect
tick_sends x now q t is g l due =
    ap (λ step. tick_by step.answer step now 0) (tick_by_mode x now (Transmit t) g is ∙ (λ i. transmit_by (serve_by (l i) (le-ltb now t.owed.due due i)) x.mote t x.store now 0))

after_one : (o : Owed) (now q : ℕ) → least o.left ≡ Some q → o.due ≤ now → after_next o now ≡ record { left = set.remove o.left q; due = now + packet_gap }
after_one o now q l due = λ i. next_by (l i) (le-ltb now o.due due i) o now

-- the mote after it
abbrev pub served : MoteState → Sending → (now : ℕ) → Owed → MoteState
served m t now owed = cond (eqb (set.len owed.left) 0) (maintains m now 0) (record m { mode = Transmit (record t { owed = owed }) })

pub ticked_served : (x : Spot) (now q : ℕ) (t : Sending) → x.mote.mode ≡ Transmit t → clears x.mote x.store now ≡ false → least t.owed.left ≡ Some q → t.owed.due ≤ now
    → ticked x now ≡ record { store = x.store; mote = served x.mote t now (record { left = set.remove t.owed.left q; due = now + packet_gap }) }
unfolding ticked last_of
ticked_served x now q t is g l due =
    ap (λ (e : Effect). record { store = last e.trail; mote = mote_or e.mote x.mote }) (tick_sends x now q t is g l due)
    ∙ ap (λ o. record { store = x.store; mote = served x.mote t now o }) (after_one t.owed now q l due)

-- ---- all of them

pub record Owes (k : ℕ) (x : Spot) (now image version page : ℕ) : Type 0 where
  pub owed : Owed
  pub mode : x.mote.mode ≡ Transmit (sending image version page owed)
  pub left : owed.left ≡ from k
  pub due : owed.due ≤ now + pace
  pub gesture : x.store.gesture ≡ 0

abbrev page_at : Spot → (image page : ℕ) → List ℕ
page_at x image page = get_or (complete_pages (held x.store image)) page []

module _ (image version page : ℕ) where
  abbrev told : Spot → ℕ → Message
  told x q = packet_message x.mote.id image version page (page_at x image page) q

  abbrev next_spot : Spot → (now k : ℕ) → Spot
  next_spot x now k = record { store = x.store; mote = record x.mote { mode = Transmit (sending image version page (record { left = from k; due = now + packet_gap })) } }

  sends_one : (k : ℕ) (x : Spot) (now : ℕ) → k < packets → Owes k x now image version page → (tick_at x (now + pace)).sent ≡ Some (told x k)
  sends_one k x now h o =
      ap (λ (e : Effect). e.sent) (tick_sends x (now + pace) k (sending image version page o.owed) o.mode (not_clearing x.mote x.store (now + pace) o.gesture) (ap least o.left ∙ from_least k h) o.due)

  after_step : (k : ℕ) (x : Spot) (now : ℕ) → k < packets → (o : Owes k x now image version page)
      → ticked x (now + pace) ≡ record { store = x.store; mote = served x.mote (sending image version page o.owed) (now + pace) (record { left = from (k + 1); due = now + pace + packet_gap }) }
  after_step k x now h o =
      ticked_served x (now + pace) k (sending image version page o.owed) o.mode (not_clearing x.mote x.store (now + pace) o.gesture) (ap least o.left ∙ from_least k h) o.due
      ∙ ap (λ s. record { store = x.store; mote = served x.mote (sending image version page o.owed) (now + pace) (record { left = s; due = now + pace + packet_gap }) })
      (ap (λ s. set.remove s k) o.left ∙ from_less k)

  -- one packet is left: it maintains
  after_last : (x : Spot) (now : ℕ) → Owes 47 x now image version page → ticked x (now + pace) ≡ record { store = x.store; mote = maintains x.mote (now + pace) 0 }
  after_last x now o =
      after_step 47 x now (omega arith) o
      ∙ ap (λ b. record { store = x.store; mote = cond b (maintains x.mote (now + pace) 0) (record x.mote { mode = Transmit (sending image version page (record { left = from packets; due = now + pace + packet_gap })) }) })
      (eq-eqb (set.len (from packets)) 0 (ap set.len from_end ∙ set.len-empty nat_cmp))

  -- more are left
  after_more : (k : ℕ) (x : Spot) (now : ℕ) → k + 1 < packets → Owes k x now image version page → ticked x (now + pace) ≡ next_spot x (now + pace) (k + 1)
  after_more k x now h o =
      after_step k x now (omega arith) o
      ∙ ap (λ b. record { store = x.store; mote = cond b (maintains x.mote (now + pace) 0) (record x.mote { mode = Transmit (sending image version page (record { left = from (k + 1); due = now + pace + packet_gap })) }) })
      (from_some (k + 1) h)

  owes_next : (k : ℕ) (x : Spot) (now : ℕ) → x.store.gesture ≡ 0 → Owes k (next_spot x now k) now image version page
  owes_next k x now g = record { owed = record { left = from k; due = now + packet_gap }; mode = refl; left = refl; due = omega arith; gesture = g }

  later_by : (n now : ℕ) (m : MoteState) → maintains m ((now + pace) + n * pace) 0 ≡ maintains m (now + suc n * pace) 0
  later_by n now m = ap (λ t. maintains m t 0) (omega arith)

  -- n ticks send the packets from k on, in order
  serves_from : (n k : ℕ) (x : Spot) (now : ℕ) → k + suc n ≡ packets → Owes k x now image version page
      → SendsEach (map (told x) (range_with_len k (suc n))) x now × (after_ticks (suc n) x now ≡ record { store = x.store; mote = maintains x.mote (now + suc n * pace) 0 })
  unfolding after_ticks SendsEach
  serves_from zero k x now e o =
      let last_one : k ≡ 47 = omega arith in
      let o47 : Owes 47 x now image version page = subst (λ j. Owes j x now image version page) last_one o in
      ((sends_one k x now (omega arith) o, tt), after_last x now o47 ∙ ap (λ t. record { store = x.store; mote = maintains x.mote t 0 }) (omega arith))
  serves_from (suc n) k x now e o =
      let y = next_spot x (now + pace) (k + 1) in
      let same : ticked x (now + pace) ≡ y = after_more k x now (omega arith) o in
      let rest = serves_from n (k + 1) y (now + pace) (omega arith) (owes_next (k + 1) x (now + pace) o.gesture) in (
        (sends_one k x now (omega arith) o, subst (λ z. SendsEach (map (told x) (range_with_len (k + 1) (suc n))) z (now + pace)) (sym same) rest.0),
        ap (λ z. after_ticks (suc n) z (now + pace)) same ∙ rest.1 ∙ ap (λ m. record { store = x.store; mote = m }) (later_by (suc n) now x.mote),
      )

-- ---- a request comes to a mote that maintains

hears_request : (x : Spot) (now sender image page : ℕ) (h : Held) (timer : Timer) → sender ≢ x.mote.id → x.mote.mode ≡ Maintain timer → held x.store image ≡ Some h → page < length h.complete
    → hears x now (Request sender x.mote.id image h.version page (below packets))
    ≡ record { store = x.store; mote = record x.mote { mode = Transmit (sending image h.version page (record { left = below packets; due = now })) } }
unfolding hears last_of
hears_request x now sender image page h timer other is kept less =
    ap spot_of (
    ap (λ b. cond b (dropped x.mote x.store) (on_message x.mote x.store now 0 message)) (ne_eqb sender x.mote.id other)
    ∙ ap (λ b. cond b (to_it x.mote.mode x.mote x.store now (page_request image h.version page (below packets))) (overheard x.mote x.store now image h.version page)) (eq-eqb x.mote.id x.mote.id refl)
    ∙ ap (λ k. to_it k x.mote x.store now (page_request image h.version page (below packets))) is
    ∙ ap (λ b. cond b serves (dropped x.mote x.store)) can)
  where
    message : Message
    message = Request sender x.mote.id image h.version page (below packets)

    serves : MoteStep Heard
    serves = record { mote = record x.mote { mode = Transmit (sending image h.version page (record { left = below packets; due = now })) }; trail = resting x.store 0; sent = None; answer = Serves image page }

    can : can_serve x.store image h.version page ≡ true
    can = ap (λ o. is_version o h.version && ltb page (done_of o)) kept ∙ (λ i. eq-eqb h.version h.version refl i && lt-ltb page (length h.complete) less i)

pub serves_all : (x : Spot) (now sender image page : ℕ) (h : Held) → Drained x now → sender ≢ x.mote.id → held x.store image ≡ Some h → page < length h.complete
    → ServesPage x (hears x now (Request sender x.mote.id image h.version page (below packets))) now image h.version page (get_or h.complete page [])
serves_all x now sender image page h d other kept less =
    let y : Spot = record { store = x.store; mote = record x.mote { mode = Transmit (sending image h.version page (record { left = below packets; due = now })) } } in
    let same = hears_request x now sender image page h d.timer other d.maintains kept less in
    let owes : Owes 0 y now image h.version page = record { owed = record { left = below packets; due = now }; mode = refl; left = sym from_none; due = omega arith; gesture = d.gesture } in
    let all = serves_from image h.version page 47 0 y now (omega arith) owes in
    let bytes : get_or (complete_pages (held x.store image)) page [] ≡ get_or h.complete page [] = ap (λ o. get_or (complete_pages o) page []) kept in
    record {
      sends = subst (λ z. SendsEach (map (packet_message x.mote.id image h.version page (get_or h.complete page [])) (range_with_len 0 packets)) z now) (sym same)
          (subst (λ b. SendsEach (map (packet_message x.mote.id image h.version page b) (range_with_len 0 packets)) y now) bytes all.0);
      ends = ap (λ z. after_ticks packets z now) same ∙ all.1;
    }

-- A frame whose answer is quiet changes neither what is kept nor the order.
use Rattle.std.proofs.Common.{◌≡◌, ℕ, Bool, true, false, cond, List, refl, ap, sym, subst, arith}
use Rattle.std.specs.Prelude.{◌≤◌, ◌&&◌, ◌||◌, ◌==◌, nat_le, Option, Some, None, Result, Ok, Err}
use Rattle.std.proofs.lemmas.Bool.{cond_both, le-ltb, and_parts, eqb-true}
use Rattle.std.specs.List.{list_all}
use Rattle.dg_nor.specs.Trail.{last, joined, resting, stepping}
use Rattle.dg_nor.specs.Through.{Through}
use Rattle.dg_nor.proofs.ThroughLemmas.{Through-joined, Through-resting, Through-last}
use Rattle.dg_trickle.specs.Timer.{Timer}
use Rattle.dg_control.specs.declared.snapshot.Order.{Order}
use Rattle.std.specs.FinSet as set
use Rattle.dg_slot.specs.Layout.{packets}
use Rattle.dg_slot.specs.Jobs.{page_from}
use Rattle.dg_slot.specs.Fits.{may_seal}
use Rattle.dg_volume.specs.Changes.{paged}
use Rattle.dg_slot.specs.Kept.{Held}
use Rattle.dg_volume.specs.Store.{Store, held}
use Rattle.dg_volume.specs.Trails.{order_trail}
use Rattle.dg_frame.specs.Sizes.{narrow_images}
use Rattle.dg_frame.specs.Grammar.{message_of}
use Rattle.dg_frame.specs.Ranges.{no_order}
use Rattle.dg_frame.specs.declared.Entry.{Entry}
use Rattle.dg_frame.specs.declared.FrameFault.{FrameFault}
use Rattle.dg_frame.specs.declared.Message.{Message}
use Rattle.dg_frame.specs.declared.Message.TheVariants.{Advert, Request, Packet, Wide}
use Rattle.dg_bits.specs.Sets.{Numbers}
use Rattle.dg_mote.specs.Model.{MoteState, Mode, Maintain, Receive, Transmit, Receiving, came, maintains, MoteStep}
use Rattle.dg_mote.specs.Summary.{is_own, own_order, same_order, same_entry, entry_for, entry_by, named, ahead_in}
use Rattle.dg_mote.specs.Adverts.{better_trail, asks, asking, noting, by_ahead, advert_heard, dropped, on_advert, offer}
use Rattle.dg_mote.specs.Requests.{overheard, to_it, on_request, page_request}
use Rattle.dg_mote.specs.Packets.{is_wanted, accepted, seal_by, takes, on_packet, page_packet}
use Rattle.dg_mote.specs.Hears.{source_of, on_message, by_message, heard_of}
use Rattle.dg_mote.specs.declared.mote.Heard.{Heard}
use Rattle.dg_mote.specs.declared.mote.Heard.TheVariants.{Asks, Sealed, Bad}
use Rattle.dg_world.specs.inner.OutcomeEndings.{SameReport, LeavesChip}
use Rattle.dg_world.proofs.StartLemmas.{same_report}

asks_other : (i : ℕ) (answer : Heard) {p : ℕ} → answer ≡ Asks i p → LeavesChip answer → ⊥
asks_other i answer e is = subst LeavesChip e is

sealed_other : (i p : ℕ) → LeavesChip (Sealed i p) → ⊥
sealed_other i p is = is

-- an answer that is quiet comes with a trail of stores with the same report
abbrev IsCalm : Store → MoteStep Heard → Type 0
IsCalm s outcome = LeavesChip outcome.answer → Through (SameReport s) outcome.trail

module _ (s : Store) where
  rests : (n : ℕ) → Through (SameReport s) (resting s n)
  rests n = Through-resting (SameReport s) s n (same_report s)

  -- ---- adverts

  -- the order that a mote sends is not better than the one that it keeps
  told_order : (wide : Bool) → (own_order wide s).number ≤ s.order.number
  unfolding own_order
  told_order wide = cond_both (wide || nat_le s.order.image narrow_images) s.order no_order (λ (o : Order). o.number ≤ s.order.number) (λ _. omega arith) (λ _. omega arith)

  not_better : (entries : List Entry) (order : Order) (wide : Bool) → is_own entries order wide s ≡ true → order.number ≤ s.order.number
  unfolding is_own
  not_better entries order wide own =
      let told = own_order wide s in
      let parts = and_parts (list_all (λ i. same_entry (entry_for entries i) (entry_by (held s i))) (named entries)) (same_order order told) own in
      let two = and_parts ((order.number == told.number) && (order.image == told.image)) (order.version == told.version) parts.1 in
      let same = eqb-true order.number told.number (and_parts (order.number == told.number) (order.image == told.image) two.0).0 in
      omega (arith, same, told_order wide)

  own_rests : (entries : List Entry) (order : Order) (wide : Bool) → is_own entries order wide s ≡ true → Through (SameReport s) (better_trail s order)
  unfolding better_trail
  own_rests entries order wide own =
      let same = not_better entries order wide own in
      subst (Through (SameReport s)) (sym (ap (λ (b : Bool). cond (b && nat_le 1 s.room) (order_trail s order) (resting s 0)) (le-ltb s.order.number order.number (omega (arith, same))))) (rests 0)

  -- what holds of an advert that is heard after this
  abbrev IsOwn : Store → Bool → MoteStep Heard → Type 0
  IsOwn x own outcome = LeavesChip outcome.answer → (own ≡ true) × (outcome.trail ≡ resting x 0)

  noting_own : (m : MoteState) (timer : Timer) (x : Store) (now word : ℕ) (own : Bool) → IsOwn x own (noting m timer x now word own)
  noting_own m timer x now word true = λ is. (refl, refl)
  noting_own m timer x now word false = λ is. absurd is

  ahead_own : (o : Option ℕ) (m : MoteState) (timer : Timer) (x : Store) (now word source : ℕ) (entries : List Entry) (own : Bool) → IsOwn x own (by_ahead o m x now word (offer source entries) (noting m timer x now word own))
  ahead_own None m timer x now word source entries own = noting_own m timer x now word own
  ahead_own (Some i) m timer x now word source entries own =
      cond_both (asks m x now i (entry_for entries i)) (asking m x now word source i (entry_for entries i)) (noting m timer x now word own) (IsOwn x own)
      (λ _. λ is. absurd (asks_other i (asking m x now word source i (entry_for entries i)).answer refl is)) (λ _. noting_own m timer x now word own)

  advert_calm : (m : MoteState) (timer : Timer) (now word source : ℕ) (entries : List Entry) (order : Order) → IsCalm s (advert_heard m timer s now word (offer source entries) order)
  unfolding advert_heard
  advert_calm m timer now word source entries order = λ is.
      let t = better_trail s order in
      let x = last t in
      let h = ahead_own (ahead_in entries x) m timer x now word source entries (is_own entries order m.wide s) is in
      let first = own_rests entries order m.wide h.0 in
      Through-joined (SameReport s) t _ first (subst (Through (SameReport s)) (sym h.1) (Through-resting (SameReport s) x 0 (Through-last (SameReport s) t first)))

  on_advert_calm : (mode : Mode) (m : MoteState) (now word source : ℕ) (entries : List Entry) (order : Order) → IsCalm s (on_advert mode m s now word (offer source entries) order)
  on_advert_calm (Maintain timer) m now word source entries order = advert_calm m timer now word source entries order
  on_advert_calm (Receive r) m now word source entries order = λ is. rests 0
  on_advert_calm (Transmit t) m now word source entries order = λ is. rests 0

  -- ---- requests and packets

  to_it_calm : (mode : Mode) (m : MoteState) (now image version page : ℕ) (want : Numbers) → IsCalm s (to_it mode m s now (page_request image version page want))
  to_it_calm (Maintain timer) m now image version page want = cond_both _ _ _ (IsCalm s) (λ _. λ is. rests 0) (λ _. λ is. rests 0)
  to_it_calm (Transmit t) m now image version page want = cond_both _ _ _ (IsCalm s) (λ _. λ is. rests 0) (λ _. λ is. rests 0)
  to_it_calm (Receive r) m now image version page want = λ is. rests 0

  overheard_calm : (m : MoteState) (now image version page : ℕ) → IsCalm s (overheard m s now image version page)
  overheard_calm m now image version page = cond_both _ _ _ (IsCalm s) (λ _. λ is. rests 0) (λ _. λ is. rests 0)

  on_request_calm : (m : MoteState) (now to image version page : ℕ) (want : Numbers) → IsCalm s (on_request m s now to (page_request image version page want))
  on_request_calm m now to image version page want =
      cond_both (to == m.id) (to_it m.mode m s now (page_request image version page want)) (overheard m s now image version page) (IsCalm s)
      (λ _. to_it_calm m.mode m now image version page want) (λ _. overheard_calm m now image version page)

  seal_calm : (o : Option Held) (m : MoteState) (r : Receiving) (now word : ℕ) (page : List ℕ) → IsCalm s (seal_by o m r s now word page)
  seal_calm None m r now word page = λ is. rests 0
  seal_calm (Some h) m r now word page =
      let sealed : MoteStep Heard = record { mote = maintains m now word; trail = joined (resting s 1) (stepping s 1 (paged r.image page s)); sent = None; answer = Sealed r.image r.page } in
      let bad : MoteStep Heard = record { mote = maintains m now word; trail = resting s 1; sent = None; answer = Bad r.image r.page } in
      cond_both (may_seal r.image h page) sealed bad (IsCalm s) (λ _. λ is. absurd (sealed_other r.image r.page is)) (λ _. λ is. rests 1)

  takes_calm : (m : MoteState) (r : Receiving) (now word q : ℕ) (bytes : List ℕ) → IsCalm s (takes m r s now word q bytes)
  takes_calm m r now word q bytes =
      let a = accepted r now q bytes in
      cond_both (set.len (came a.packets) == packets) (seal_by (held s r.image) m r s now word (page_from a.packets)) _ (IsCalm s)
      (λ _. seal_calm (held s r.image) m r now word (page_from a.packets)) (λ _. λ is. rests 1)

  on_packet_calm : (mode : Mode) (m : MoteState) (now word image version page q : ℕ) (bytes : List ℕ) → IsCalm s (on_packet mode m s now word (page_packet image version page q bytes))
  on_packet_calm (Receive r) m now word image version page q bytes =
      cond_both (is_wanted r image version page q) (takes m r s now word q bytes) (dropped m s) (IsCalm s) (λ _. takes_calm m r now word q bytes) (λ _. λ is. rests 0)
  on_packet_calm (Maintain timer) m now word image version page q bytes = cond_both _ _ _ (IsCalm s) (λ _. λ is. rests 0) (λ _. λ is. rests 0)
  on_packet_calm (Transmit t) m now word image version page q bytes = λ is. rests 0

  -- ---- frames

  message_calm : (message : Message) (m : MoteState) (now word : ℕ) → IsCalm s (on_message m s now word message)
  message_calm (Advert source entries order) m now word = on_advert_calm m.mode m now word source entries order
  message_calm (Request source to image version page want) m now word = on_request_calm m now to image version page want
  message_calm (Packet source image version page packet bytes) m now word = on_packet_calm m.mode m now word image version page packet bytes
  message_calm (Wide source entries order) m now word = on_advert_calm m.mode m now word source entries order

  by_message_calm : (r : Result Message FrameFault) (m : MoteState) (now word : ℕ) → IsCalm s (by_message r m s now word)
  by_message_calm (Err fault) m now word = λ is. rests 0
  by_message_calm (Ok message) m now word =
      cond_both (source_of message == m.id) (dropped m s) (on_message m s now word message) (IsCalm s) (λ _. λ is. rests 0) (λ _. message_calm message m now word)

  pub heard_calm : (m : MoteState) (now word : ℕ) (bytes : List ℕ) → IsCalm s (heard_of m s now word bytes)
  unfolding heard_of
  heard_calm m now word bytes = by_message_calm (message_of bytes m.wide) m now word

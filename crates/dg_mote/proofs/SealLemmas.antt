-- Pages that came in honest packets are sealed.
use Rattle.std.proofs.Common.{◌≡◌, ℕ, ◌<◌, Bool, true, false, List, [], length, Option, Some, None, Result, Ok, Err, refl, sym, ap, subst, ◌∙◌, arith}
use Rattle.std.specs.Prelude.{◌==◌, slice_index_or}
use Rattle.std.proofs.lemmas.Bool.{cond_both, eqb-true, false≢true}
use Rattle.std.specs.FinSet as set
use Rattle.dg_trickle.specs.Timer.{Timer}
use Rattle.dg_bits.specs.Sets.{Numbers}
use Rattle.dg_control.specs.declared.snapshot.Order.{Order}
use Rattle.dg_nor.specs.Trail.{last}
use Rattle.dg_object.specs.Object.{Row, IsRow, object}
use Rattle.dg_slot.specs.Layout.{packets}
use Rattle.dg_slot.specs.Kept.{Held}
use Rattle.dg_slot.specs.Jobs.{page_from}
use Rattle.dg_slot.specs.Fits.{may_seal}
use Rattle.dg_volume.specs.Store.{Store, held, held_to}
use Rattle.dg_volume.specs.Table.{row_at, IsTable}
use Rattle.dg_frame.specs.Grammar.{message_of}
use Rattle.dg_frame.specs.declared.Entry.{Entry}
use Rattle.dg_frame.specs.declared.Message.{Message}
use Rattle.dg_frame.specs.declared.Message.TheVariants.{Advert, Request, Packet, Wide}
use Rattle.dg_frame.specs.declared.FrameFault.{FrameFault}
use Rattle.dg_mote.specs.Model.{MoteState, Mode, Maintain, Receive, Transmit, Receiving, came, MoteStep}
use Rattle.dg_mote.specs.Summary.{entry_for, is_own, ahead_in}
use Rattle.dg_mote.specs.Agreement.{ReceivesRow, ModeAgrees, HonestMessage, IsHonest}
use Rattle.dg_mote.specs.Adverts.{better_trail, asks, noting, by_ahead, advert_heard, on_advert, offer}
use Rattle.dg_mote.specs.Requests.{concerns, can_serve, is_served, to_it, on_request, page_request}
use Rattle.dg_mote.specs.Packets.{is_wanted, accepted, seal_by, takes, on_packet, page_packet}
use Rattle.dg_mote.specs.Hears.{source_of, on_message, by_message, heard_of}
use Rattle.dg_mote.specs.Well.{StoreIsWell}
use Rattle.dg_mote.specs.declared.mote.Heard.{Heard}
use Rattle.dg_mote.specs.declared.mote.Heard.TheVariants.{Refused, Dropped, Noted, Same, Other, Asks, Serves, Merged, Took, Sealed, Bad}
use Rattle.dg_mote.proofs.HeardLemmas.{honest_read}
use Rattle.dg_mote.proofs.RowLemmas.{same_row}
use Rattle.dg_mote.proofs.PacketLemmas.{AreOf, put_are_of, makes_page, wanted, PageLaws, ReceivesPage, receives_page}
use Rattle.dg_volume.specs.Filling.{packet_of}

abbrev NotBad : Heard → Type 0
NotBad (Refused cause) = Unit {0}
NotBad Dropped = Unit {0}
NotBad Noted = Unit {0}
NotBad Same = Unit {0}
NotBad Other = Unit {0}
NotBad (Asks image page) = Unit {0}
NotBad (Serves image page) = Unit {0}
NotBad Merged = Unit {0}
NotBad (Took packet) = Unit {0}
NotBad (Sealed image page) = Unit {0}
NotBad (Bad image page) = ⊥

abbrev Fine : MoteStep Heard → Type 0
Fine step = NotBad step.answer

noting_fine : (own : Bool) (m : MoteState) (timer : Timer) (s : Store) (now word : ℕ) → Fine (noting m timer s now word own)
noting_fine true m timer s now word = tt
noting_fine false m timer s now word = tt

ahead_fine : (o : Option ℕ) (m : MoteState) (timer : Timer) (s : Store) (now word source : ℕ) (entries : List Entry) (own : Bool) → Fine (by_ahead o m s now word (offer source entries) (noting m timer s now word own))
ahead_fine None m timer s now word source entries own = noting_fine own m timer s now word
ahead_fine (Some i) m timer s now word source entries own = cond_both (asks m s now i (entry_for entries i)) _ _ Fine (λ _. tt) (λ _. noting_fine own m timer s now word)

advert_fine : (mode : Mode) (m : MoteState) (s : Store) (now word source : ℕ) (entries : List Entry) (order : Order) → Fine (on_advert mode m s now word (offer source entries) order)
unfolding advert_heard
advert_fine (Maintain timer) m s now word source entries order =
    let u = last (better_trail s order) in ahead_fine (ahead_in entries u) m timer u now word source entries (is_own entries order m.wide s)
advert_fine (Receive r) m s now word source entries order = tt
advert_fine (Transmit t) m s now word source entries order = tt

to_it_fine : (mode : Mode) (m : MoteState) (s : Store) (now image version page : ℕ) (want : Numbers) → Fine (to_it mode m s now (page_request image version page want))
to_it_fine (Maintain timer) m s now image version page want = cond_both (can_serve s image version page) _ _ Fine (λ _. tt) (λ _. tt)
to_it_fine (Transmit t) m s now image version page want = cond_both (is_served t image version page) _ _ Fine (λ _. tt) (λ _. tt)
to_it_fine (Receive r) m s now image version page want = tt

request_fine : (m : MoteState) (s : Store) (now to image version page : ℕ) (want : Numbers) → Fine (on_request m s now to (page_request image version page want))
request_fine m s now to image version page want =
    cond_both (to == m.id) _ _ Fine (λ _. to_it_fine m.mode m s now image version page want) (λ _. cond_both (concerns s image version page) _ _ Fine (λ _. tt) (λ _. tt))

module _ (table : List Row) (is_table : IsTable table) (laws : PageLaws table) (fits : (row : Row) (n : ℕ) → IsRow row → n < length (object row) → may_seal row.image (held_to row n) (slice_index_or (object row) n []) ≡ true)
    (s : Store) (well : StoreIsWell table s) (now word : ℕ) where
  seal_fine : (o : Option Held) (m : MoteState) (r : Receiving) (page : List ℕ) (row : Row) → IsRow row → held s r.image ≡ o → ReceivesPage table s r row → page ≡ slice_index_or (object row) r.page [] → Fine (seal_by o m r s now word page)
  seal_fine None m r page row is here p same = tt
  seal_fine (Some h) m r page row is here p same =
      let twice : Some h ≡ Some (held_to row r.page) = sym here ∙ ap (held s) (sym p.image_is) ∙ p.kept in
      let kept : h ≡ held_to row r.page = cc in
      let may : may_seal r.image h page ≡ true = (λ i. may_seal (sym p.image_is i) (kept i) (same i)) ∙ fits row r.page is p.more in
      cond_both (may_seal r.image h page) _ _ Fine (λ _. tt) (λ not_sealed. absurd (false≢true (sym not_sealed ∙ may)))

  takes_fine : (m : MoteState) (r : Receiving) (q : ℕ) (bytes : List ℕ) → (a : ReceivesRow table s r) → bytes ≡ packet_of (slice_index_or (object a.row) r.page []) q → Fine (takes m r s now word q bytes)
  takes_fine m r q bytes a is =
      let after = accepted r now q bytes in
      let p = receives_page table is_table laws s well now word r a in
      let row_of = laws.rows.row table r.image r.version a.row is_table a.in_table in
      let are : AreOf (slice_index_or (object a.row) r.page []) after.packets = put_are_of (slice_index_or (object a.row) r.page []) r.packets q bytes a.honest is in
      cond_both (set.len (came after.packets) == packets) _ _ Fine
      (λ full. seal_fine (held s r.image) m r (page_from after.packets) a.row row_of refl p
      (makes_page laws.whole (slice_index_or (object a.row) r.page []) after.packets (laws.long a.row r.page row_of (omega (arith, p.more, laws.count a.row))) are (eqb-true (set.len (came after.packets)) packets full)))
      (λ _. tt)

  packet_fine : (mode : Mode) (m : MoteState) (source image version page q : ℕ) (bytes : List ℕ) → HonestMessage table (Ok (Packet source image version page q bytes)) → ModeAgrees table s mode → Fine (on_packet mode m s now word (page_packet image version page q bytes))
  packet_fine (Receive r) m source image version page q bytes honest a =
      cond_both (is_wanted r image version page q) _ _ Fine
      (λ is.
      let w = wanted r image version page q is in
      let same : honest.0 ≡ a.row = same_row table r.image r.version honest.0 a.row ((λ i. row_at table (w.image_is i) (w.version_is i)) ∙ honest.1) a.in_table in
      takes_fine m r q bytes a (honest.3 ∙ (λ i. packet_of (slice_index_or (object (same i)) (sym w.page_is i) []) q)))
      (λ _. tt)
  packet_fine (Maintain timer) m source image version page q bytes honest a = cond_both (concerns s image version page) _ _ Fine (λ _. tt) (λ _. tt)
  packet_fine (Transmit t) m source image version page q bytes honest a = tt

  message_fine : (message : Message) (m : MoteState) → ModeAgrees table s m.mode → HonestMessage table (Ok message) → Fine (on_message m s now word message)
  message_fine (Advert source entries order) m own honest = advert_fine m.mode m s now word source entries order
  message_fine (Request source to image version page want) m own honest = request_fine m s now to image version page want
  message_fine (Packet source image version page q bytes) m own honest = packet_fine m.mode m source image version page q bytes honest own
  message_fine (Wide source entries order) m own honest = advert_fine m.mode m s now word source entries order

  frame_fine : (r : Result Message FrameFault) (m : MoteState) → ModeAgrees table s m.mode → HonestMessage table r → Fine (by_message r m s now word)
  frame_fine (Err cause) m own honest = tt
  frame_fine (Ok message) m own honest = cond_both (source_of message == m.id) _ _ Fine (λ _. tt) (λ _. message_fine message m own honest)

  pub heard_fine : (m : MoteState) (bytes : List ℕ) → ModeAgrees table s m.mode → IsHonest table bytes → (image page : ℕ) → (heard_of m s now word bytes).answer ≡ Bad image page → ⊥
  unfolding heard_of
  heard_fine m bytes own honest image page e = subst NotBad e (frame_fine (message_of bytes m.wide) m own (honest_read table m.wide bytes (message_of bytes m.wide) refl honest))

-- Packets that are heard over agreeing stores.
use Rattle.std.proofs.Common.{Ok, ◌≡◌, ℕ, ◌<◌, ◌≤◌, min, true, not, ◌&&◌, List, [], length, Option, Some, None, IfSome, is_some, sym, ap, subst, ◌∙◌, inl, inr, arith}
use Rattle.std.specs.Prelude.{◌==◌, slice_index_or}
use Rattle.std.proofs.Math.ListN.{length-set}
use Rattle.std.proofs.lemmas.Bool.{cond_both, and_parts, eqb-true, eqb-false, cases_eq, cases_lt}
use Rattle.std.proofs.lemmas.Option.{same_Some}
use Rattle.std.proofs.lemmas.List.{get_or-set_same, get_or-set_other, get_or_past, length-take}
use Rattle.std.proofs.lemmas.List.FromFn.{get_or-map-range_with_len}
use Rattle.std.specs.FinSet as set
use Rattle.dg_nor.specs.Trail.{joined, resting, stepping}
use Rattle.dg_nor.proofs.ThroughLemmas.{Through-joined, Through-resting, Through-stepping}
use Rattle.dg_object.specs.Object.{Row, IsRow, object, profile}
use Rattle.dg_object.specs.Sizes.{page_size}
use Rattle.dg_quiet.specs.Noted.{with_packet}
use Rattle.dg_slot.specs.Layout.{packets}
use Rattle.dg_slot.specs.Kept.{Held}
use Rattle.dg_slot.specs.Jobs.{Packets, packet, put_packet, page_from, packets_of}
use Rattle.dg_slot.specs.Fits.{may_seal}
use Rattle.dg_volume.specs.Sizes.{images}
use Rattle.dg_volume.specs.Store.{Store, held, held_to}
use Rattle.dg_volume.specs.Changes.{paged}
use Rattle.dg_volume.specs.Table.{row_at, IsTable}
use Rattle.dg_volume.specs.Agreement.{Agrees}
use Rattle.dg_volume.specs.Ends.{KeepsPagesOf}
use Rattle.dg_mote.specs.Model.{MoteState, Mode, Maintain, Receive, Transmit, Receiving, came, maintains}
use Rattle.dg_mote.specs.Agreement.{ReceivesRow, ModeAgrees, HonestMessage}
use Rattle.dg_mote.specs.Requests.{concerns}
use Rattle.dg_mote.specs.Packets.{is_wanted, accepted, seal_by, takes, on_packet, page_packet}
use Rattle.dg_mote.specs.Well.{StoreIsWell}
use Rattle.dg_mote.specs.declared.mote.Heard.{Heard}
use Rattle.dg_frame.specs.declared.Message.TheVariants.{Packet}
use Rattle.dg_mote.proofs.RowLemmas.{TableLaws, kept_within, row_own, same_row}
use Rattle.dg_mote.proofs.CameLemmas.{came_few, came_all, same_page}
use Rattle.dg_mote.proofs.KeepLemmas.{Keeps, rests}
use Rattle.dg_volume.specs.Filling.{packet_of}

-- ---- packets that are the row's

-- those that came are those of the page
abbrev pub AreOf : List ℕ → Packets → Type 0
AreOf page ps = (q : ℕ) (bytes : List ℕ) → packet ps q ≡ Some bytes → bytes ≡ packet_of page q

pub put_are_of : (page : List ℕ) (ps : Packets) (q : ℕ) (bytes : List ℕ) → AreOf page ps → bytes ≡ packet_of page q → AreOf page (put_packet ps q bytes)
put_are_of page ps q bytes before new k came e =
    elim (cases_eq k q) [
      | inl same ↦ elim (cases_lt q (length ps)) [
        | inl within ↦
            let there : packet (put_packet ps q bytes) k ≡ Some bytes = ap (packet (put_packet ps q bytes)) same ∙ get_or-set_same ps q (Some bytes) None within in
            same_Some came bytes (sym e ∙ there) ∙ new ∙ ap (packet_of page) (sym same)
        | inr past ↦
            let nothing : packet (put_packet ps q bytes) k ≡ None = get_or_past (put_packet ps q bytes) k None (omega (arith, past, same, length-set ps q (Some bytes))) in
            cc
      ]
      | inr other ↦ before k came (sym (get_or-set_other ps q k (Some bytes) None other) ∙ e)
    ]

-- if all came they make up the page
pub makes_page : ((page : List ℕ) → length page ≡ page_size → page_from (packets_of page) ≡ page) → (page : List ℕ) (ps : Packets) → length page ≡ page_size → AreOf page ps → set.len (came ps) ≡ packets → page_from ps ≡ page
makes_page law page ps size are full =
    same_page ps (packets_of page) (λ q less.
    let there = came_all ps full q less in
    there.1 ∙ ap Some (are q there.0 there.1) ∙ sym (get_or-map-range_with_len (λ k. Some (packet_of page k)) 0 packets q q None less (omega arith)))
    ∙ law page size

-- ---- the packet that is wanted

pub record Wanted (r : Receiving) (image version page : ℕ) : Type 0 where
  pub image_is : r.image ≡ image
  pub version_is : r.version ≡ version
  pub page_is : r.page ≡ page

pub wanted : (r : Receiving) (image version page q : ℕ) → is_wanted r image version page q ≡ true → Wanted r image version page
wanted r image version page q e =
    let all = and_parts ((r.image == image) && (r.version == version) && (r.page == page)) (not (is_some (packet r.packets q))) e in
    let three = and_parts ((r.image == image) && (r.version == version)) (r.page == page) all.0 in
    let two = and_parts (r.image == image) (r.version == version) three.0 in
    record { image_is = eqb-true r.image image two.0; version_is = eqb-true r.version version two.1; page_is = eqb-true r.page page three.1 }

-- ---- what lower crates promise

pub record PageLaws (table : List Row) : Type 0 where
  pub rows : TableLaws
  pub next : (s : Store) (row : Row) (n : ℕ) → 1 ≤ row.image → row.image < images → row_at table row.image row.version ≡ Some row → held s row.image ≡ Some (held_to row n) → n < length (object row)
      → StoreIsWell table s → StoreIsWell table (paged row.image (slice_index_or (object row) n []) s)
  pub kept : (s : Store) (row : Row) → row_at table row.image row.version ≡ Some row → Agrees table s → IfSome (held s row.image) (KeepsPagesOf row)
  pub whole : (page : List ℕ) → length page ≡ page_size → page_from (packets_of page) ≡ page
  pub count : (row : Row) → length (object row) ≡ (profile row).pages
  pub long : (row : Row) (p : ℕ) → IsRow row → p < (profile row).pages → length (slice_index_or (object row) p []) ≡ page_size

-- the kept pages of the image that is received are the row's first ones
pub record ReceivesPage (table : List Row) (s : Store) (r : Receiving) (row : Row) : Type 0 where
  pub in_table : row_at table row.image row.version ≡ Some row
  pub image_is : row.image ≡ r.image
  pub version_is : row.version ≡ r.version
  pub kept : held s row.image ≡ Some (held_to row r.page)
  pub more : r.page < length (object row)
  pub packets_are : AreOf (slice_index_or (object row) r.page []) r.packets

module _ (table : List Row) (is_table : IsTable table) (laws : PageLaws table) (s : Store) (well : StoreIsWell table s) (now word : ℕ) where
  pub receives_page : (r : Receiving) → (a : ReceivesRow table s r) → ReceivesPage table s r a.row
  receives_page r a =
      let ids = laws.rows.image_version table r.image r.version a.row a.in_table in
      let own = row_own laws.rows table r.image r.version a.row a.in_table in
      let here : held s a.row.image ≡ Some a.kept = ap (held s) ids.0 ∙ a.held_here in
      let kept : KeepsPagesOf a.row a.kept = subst (λ (o : Option Held). IfSome o (KeepsPagesOf a.row)) here (laws.kept s a.row own well.agrees) in
      let to = kept (a.version ∙ sym ids.1) in
      let count : length a.kept.complete ≡ min to.0 (length (object a.row)) = ap (λ (h : Held). length h.complete) to.2 ∙ length-take to.0 (object a.row) in
      let n : to.0 ≡ r.page = omega (arith, count, to.1, a.next) in
      let pages : a.kept.pages ≡ (profile a.row).pages = ap (λ (h : Held). h.pages) to.2 in
      record {
        in_table = own;
        image_is = ids.0;
        version_is = ids.1;
        kept = here ∙ ap Some to.2 ∙ ap (λ k. Some (held_to a.row k)) n;
        more = omega (arith, a.more, pages, laws.count a.row);
        packets_are = a.honest;
      }

  sealed_keeps : (m : MoteState) (r : Receiving) (h : Held) (answer : Heard) (page : List ℕ) (row : Row) → 1 ≤ r.image → r.image < images → ReceivesPage table s r row → page ≡ slice_index_or (object row) r.page []
      → Keeps (StoreIsWell table) table (record { mote = maintains m now word; trail = joined (resting s 1) (stepping s 1 (paged r.image page s)); sent = None; answer = answer })
  sealed_keeps m r h answer page row low high p is =
      let next : StoreIsWell table (paged row.image (slice_index_or (object row) r.page []) s) = laws.next s row r.page (omega (arith, low, p.image_is)) (omega (arith, high, p.image_is)) p.in_table p.kept p.more well in
      let same : StoreIsWell table (paged r.image page s) = subst (λ (c : Store). StoreIsWell table c) (λ i. paged (p.image_is i) (sym is i) s) next in
      record {
        way = Through-joined (StoreIsWell table) (resting s 1) (stepping s 1 (paged r.image page s)) (Through-resting (StoreIsWell table) s 1 well) (Through-stepping (StoreIsWell table) s 1 (paged r.image page s) well same);
        mode = tt;
        sent = tt;
      }

  seal_keeps : (o : Option Held) (m : MoteState) (r : Receiving) (page : List ℕ) (row : Row) → ModeAgrees table s m.mode → 1 ≤ r.image → r.image < images → ReceivesPage table s r row → page ≡ slice_index_or (object row) r.page []
      → Keeps (StoreIsWell table) table (seal_by o m r s now word page)
  seal_keeps None m r page row own low high p is = rests (StoreIsWell table) table m s 0 None _ well own tt
  seal_keeps (Some h) m r page row own low high p is =
      cond_both (may_seal r.image h page) _ _ (Keeps (StoreIsWell table) table)
      (λ _. sealed_keeps m r h _ page row low high p is)
      (λ _. rests (StoreIsWell table) table (maintains m now word) s 1 None _ well tt tt)

  takes_keeps : (m : MoteState) (r : Receiving) (q : ℕ) (bytes : List ℕ) → ModeAgrees table s m.mode → (a : ReceivesRow table s r) → bytes ≡ packet_of (slice_index_or (object a.row) r.page []) q
      → Keeps (StoreIsWell table) table (takes m r s now word q bytes)
  takes_keeps m r q bytes own a is =
      let then = accepted r now q bytes in
      let p = receives_page r a in
      let are : AreOf (slice_index_or (object a.row) r.page []) then.packets = put_are_of (slice_index_or (object a.row) r.page []) r.packets q bytes a.honest is in
      let high : r.image < images = omega (arith, kept_within s r.image a.kept a.held_here, well.count) in
      cond_both (set.len (came then.packets) == packets) _ _ (Keeps (StoreIsWell table) table)
      (λ full. seal_keeps (held s r.image) m r (page_from then.packets) a.row own a.not_golden high p
      (makes_page laws.whole (slice_index_or (object a.row) r.page []) then.packets
      (laws.long a.row r.page (laws.rows.row table r.image r.version a.row is_table a.in_table) (omega (arith, p.more, laws.count a.row))) are (eqb-true (set.len (came then.packets)) packets full)))
      (λ some. rests (StoreIsWell table) table (record m { mode = Receive then }) s 1 None _ well
      (record {
        not_golden = a.not_golden;
        row = a.row;
        in_table = a.in_table;
        kept = a.kept;
        held_here = a.held_here;
        version = a.version;
        next = a.next;
        more = a.more;
        count = length-set r.packets q (Some bytes) ∙ a.count;
        missing = omega (arith, came_few then.packets, eqb-false (set.len (came then.packets)) packets some);
        honest = are;
      }) tt)

  pub packet_keeps : (mode : Mode) (m : MoteState) (source image version page q : ℕ) (bytes : List ℕ) → HonestMessage table (Ok (Packet source image version page q bytes)) → ModeAgrees table s m.mode → ModeAgrees table s mode
      → Keeps (StoreIsWell table) table (on_packet mode m s now word (page_packet image version page q bytes))
  packet_keeps (Receive r) m source image version page q bytes honest own a =
      cond_both (is_wanted r image version page q) _ _ (Keeps (StoreIsWell table) table)
      (λ is.
      let w = wanted r image version page q is in
      let same : honest.0 ≡ a.row = same_row table r.image r.version honest.0 a.row ((λ i. row_at table (w.image_is i) (w.version_is i)) ∙ honest.1) a.in_table in
      takes_keeps m r q bytes own a (honest.3 ∙ (λ i. packet_of (slice_index_or (object (same i)) (sym w.page_is i) []) q)))
      (λ _. rests (StoreIsWell table) table m s 0 None _ well own tt)
  packet_keeps (Maintain timer) m source image version page q bytes honest own a =
      cond_both (concerns s image version page) _ _ (Keeps (StoreIsWell table) table)
      (λ _. rests (StoreIsWell table) table (record m { noted = with_packet m.noted now image }) s 0 None _ well own tt)
      (λ _. rests (StoreIsWell table) table m s 0 None _ well own tt)
  packet_keeps (Transmit t) m source image version page q bytes honest own a = rests (StoreIsWell table) table m s 0 None _ well own tt

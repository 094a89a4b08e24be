-- What a well mote sends is read back unchanged.
use Rattle.std.proofs.Common.{◌≡◌, ◌≢◌, ℕ, zero, suc, ◌+◌, ◌*◌, ◌<◌, ◌≤◌, ◌^◌, Bool, true, false, not, ◌&&◌, List, [], length, map, Option, Some, None, IfSome, MatchOption, All, Ok, refl, sym, ap, subst, ◌∙◌, inl, inr, ⊎_elim, arith}
use Rattle.std.specs.Prelude.{nat_lt, nat_le, slice_index_or}
use Rattle.std.proofs.lemmas.Bool.{cond_both, cases_lt, lt-ltb, ltb-true, leb-true, false≢true}
use Rattle.std.proofs.lemmas.List.{get_or_past}
use Rattle.std.proofs.lemmas.List.Elements.{All-from_get_or}
use Rattle.std.specs.List.{AllByRecursion, range_with_len}
use Rattle.dg_control.specs.declared.snapshot.Order.{Order}
use Rattle.std.specs.FinSet as set
use Rattle.dg_words.specs.Cells.{AreBytes}
use Rattle.dg_words.proofs.CellLemmas.{length-part, get_or-part}
use Rattle.dg_base.specs.Crc.{crc_of}
use Rattle.dg_bits.specs.Sets.{AllBelow, IsLeast, below, least}
use Rattle.dg_bits.proofs.SetLaws.{contains-none, contains-less, contains-below, least_cases}
use Rattle.dg_trickle.specs.Steps.{act_of, after_tick}
use Rattle.dg_trickle.specs.declared.Act.{Act}
use Rattle.dg_trickle.specs.declared.Act.TheVariants as act
use Rattle.dg_recv.specs.Times.{most_requests}
use Rattle.dg_recv.specs.Steps.{ask_of, missing}
use Rattle.dg_recv.specs.declared.Ask.{Ask}
use Rattle.dg_recv.specs.declared.Ask.TheVariants as ask
use Rattle.dg_send.specs.Steps.{serve_by, serve_of}
use Rattle.dg_object.specs.Sizes.{page_size, most_pages}
use Rattle.dg_object.specs.Object.{Row, IsRow, pages_for, page_of_row, descriptor_page, object, profile}
use Rattle.dg_slot.specs.Layout.{packets, packet_size}
use Rattle.dg_slot.specs.Kept.{Held}
use Rattle.dg_volume.specs.Store.{Store, held}
use Rattle.dg_volume.specs.Start.{order_waits, complete_pages}
use Rattle.dg_volume.specs.Table.{IsTable}
use Rattle.dg_volume.specs.Agreement.{KeepsRow}
use Rattle.dg_frame.specs.Sizes.{last_packet, narrow_images, wide_images, known_images}
use Rattle.dg_frame.specs.Grammar.{message_of, in_range}
use Rattle.dg_frame.specs.Ranges.{IsInRange, EntryInRange, PageInRange, OrderInRange, no_order}
use Rattle.dg_frame.specs.Spelling.{frame_of, FitsTypes, EntryFitsTypes}
use Rattle.dg_frame.specs.declared.Message.{Message}
use Rattle.dg_frame.specs.declared.Message.TheVariants.{Request, Packet}
use Rattle.dg_mote.specs.Model.{MoteState, Mode, Maintain, Receive, Transmit, NamesKnown, Receiving, Sending, came, reception, MoteStep}
use Rattle.dg_mote.specs.Summary.{no_entry, entry_by, entries_of, own_order, advert_of}
use Rattle.dg_mote.specs.Ticks.{clears, maintain_by, receive_by, stored, transmit_by, mode_tick, tick_of}
use Rattle.dg_mote.specs.Timely.{ModeTimely}
use Rattle.dg_mote.specs.Agreement.{ReceivesRow, Serves, ModeAgrees}
use Rattle.dg_mote.specs.Well.{StoreIsWell}
use Rattle.dg_mote.specs.Hears.{source_of}
use Rattle.dg_mote.specs.Speaking.{OrderFits, ServerFits, IsSaid}
use Rattle.dg_mote.specs.declared.mote.Did.{Did}
use Rattle.dg_mote.proofs.RowLemmas.{TableLaws, keeps_row, few_complete, complete_page}
use Rattle.dg_mote.proofs.CameLemmas.{came_below, full_of}
use Rattle.dg_mote.proofs.KeepLemmas.{entry_is, length_entries}
use Rattle.dg_volume.specs.Filling.{packet_of}

-- what lower crates promise of rows and frames
pub record SpellLaws : Type 0 where
  pub rows : TableLaws
  pub some : (row : Row) → IsRow row → 2 ≤ pages_for (length row.bytes)
  pub most : (row : Row) → IsRow row → pages_for (length row.bytes) ≤ most_pages
  pub count : (row : Row) → length (object row) ≡ pages_for (length row.bytes)
  pub page : (row : Row) (p : ℕ) → p < pages_for (length row.bytes) → slice_index_or (object row) p [] ≡ page_of_row row p
  pub long : (row : Row) (p : ℕ) → IsRow row → length (page_of_row row p) ≡ page_size
  pub bytes : (row : Row) (p : ℕ) → IsRow row → AreBytes (page_of_row row p)
  pub first : (row : Row) → page_of_row row 0 ≡ descriptor_page row
  pub crc : (bytes : List ℕ) → All (λ b. b < 256) bytes → crc_of bytes < 2 ^ 16
  pub ranges : (wide : Bool) (m : Message) → IsInRange wide m → in_range wide m ≡ true
  pub written : (wide : Bool) (m : Message) → FitsTypes m → in_range wide m ≡ true → message_of (frame_of m) wide ≡ Ok m

-- the order that a mote of this width advertises
order_told : (wide : Bool) (s : Store) → OrderFits s.order → OrderFits (own_order wide s) × OrderInRange (known_images wide) (own_order wide s)
unfolding own_order
order_told true s fits = (fits, fits.in_range)
order_told false s fits =
    cond_both (nat_le s.order.image narrow_images) s.order no_order (λ (o : Order). OrderFits o × OrderInRange narrow_images o)
    (λ few. (fits, ⊎_elim (λ none. inl none) (λ some. inr (record { number = some.number; image = leb-true s.order.image narrow_images few; version = some.version })) fits.in_range))
    (λ _. (record { in_range = inl refl; number = omega arith; version = omega arith }, inl refl))

-- ---- rows

all_bytes : (xs : List ℕ) → AreBytes xs → All (λ b. b < 256) xs
all_bytes xs bytes = All-from_get_or (λ b. b < 256) xs 0 (λ k _. bytes k)

module _ (laws : SpellLaws) where
  said : (id : ℕ) (wide : Bool) (message : Message) → source_of message ≡ id → FitsTypes message → IsInRange wide message → IsSaid id wide message
  said id wide message source fits range = record { source = source; fits = fits; is_read = laws.written wide message fits (laws.ranges wide message range) }

  crc_small : (row : Row) → IsRow row → (profile row).crc < 2 ^ 16
  crc_small row is = laws.crc (descriptor_page row) (all_bytes (descriptor_page row) (subst AreBytes (laws.first row) (laws.bytes row 0 is)))

  module _ (table : List Row) (is_table : IsTable table) (s : Store) (w : StoreIsWell table s) (id : ℕ) (small : id < 2 ^ 16) (wide : Bool) where
    -- ---- the mote's own advert

    entry_in : (i : ℕ) (o : Option Held) → IfSome o (KeepsRow table i) → EntryInRange (entry_by o)
    entry_in i None k = inl refl
    entry_in i (Some h) k =
        let is = laws.rows.row table i h.version k.row is_table k.in_table in
        let ids = laws.rows.image_version table i h.version k.row k.in_table in
        inr (record {
          version = omega (arith, is.version, ids.1);
          pages = omega (arith, laws.some k.row is, k.pages);
          most = omega (arith, laws.most k.row is, k.pages);
          have = omega (arith, few_complete table i h k, laws.count k.row, k.pages);
        })

    entry_small : (i : ℕ) (o : Option Held) → IfSome o (KeepsRow table i) → EntryFitsTypes (entry_by o)
    entry_small i None k = record { version = omega arith; crc = omega arith }
    entry_small i (Some h) k =
        let is = laws.rows.row table i h.version k.row is_table k.in_table in
        let ids = laws.rows.image_version table i h.version k.row k.in_table in
        record { version = omega (arith, is.version_fits, ids.1); crc = omega (arith, k.crc, crc_small k.row is) }

    entries_in : All EntryInRange (entries_of wide s)
    entries_in =
        All-from_get_or EntryInRange (entries_of wide s) no_entry (λ k less.
        subst EntryInRange (sym (entry_is wide s (k + 1) (omega arith) (omega (arith, less, length_entries wide s))) ∙ ap (λ n. slice_index_or (entries_of wide s) n no_entry) (omega arith)) (entry_in (k + 1) (held s (k + 1)) (w.agrees.kept (k + 1))))

    entries_small : (n a : ℕ) → AllByRecursion EntryFitsTypes (map (λ i. entry_by (held s i)) (range_with_len a n))
    entries_small zero a = tt
    entries_small (suc n) a = (entry_small a (held s a) (w.agrees.kept a), entries_small n (a + 1))

    advert_said : OrderFits s.order → IsSaid id wide (advert_of id wide s)
    advert_said order = let told = order_told wide s order in said id wide (advert_of id wide s) (advert_source wide) (advert_fits_types wide told.0) (advert_in_range wide told.0 told.1 entries_in)
      where
        advert_source : (x : Bool) → source_of (advert_of id x s) ≡ id
        advert_source true = refl
        advert_source false = refl

        advert_fits_types : (x : Bool) → OrderFits (own_order x s) → FitsTypes (advert_of id x s)
        advert_fits_types true o = (small, refl, entries_small wide_images 1, o.number, o.version)
        advert_fits_types false o = (small, refl, entries_small narrow_images 1, o.number, o.version)

        advert_in_range : (x : Bool) → OrderFits (own_order x s) → OrderInRange (known_images x) (own_order x s) → All EntryInRange (entries_of x s) → IsInRange x (advert_of id x s)
        advert_in_range true o range entries = (refl, (entries, range))
        advert_in_range false o range entries = (entries, range)

    -- ---- pages

    page_in : (image page : ℕ) (h : Held) → (k : KeepsRow table image h) → held s image ≡ Some h → (1 ≤ image) × (image ≤ known_images wide) → page < length (object k.row) → PageInRange (known_images wide) image h.version page
    page_in image page h k here named less =
        let is = laws.rows.row table image h.version k.row is_table k.in_table in
        let ids = laws.rows.image_version table image h.version k.row k.in_table in
        record {
          first = named.0;
          last = named.1;
          of_version = omega (arith, is.version, ids.1);
          in_object = omega (arith, less, laws.count k.row, laws.most k.row is);
        }

    version_small : (image : ℕ) (h : Held) → (k : KeepsRow table image h) → h.version < 2 ^ 32
    version_small image h k =
        let is = laws.rows.row table image h.version k.row is_table k.in_table in
        let ids = laws.rows.image_version table image h.version k.row k.in_table in
        omega (arith, is.version_fits, ids.1)

    -- ---- a request

    missing_some : (r : Receiving) → set.len (came r.packets) < packets → missing (reception r) ≢ set.empty
    missing_some r few none =
        let all : (q : ℕ) → q < packets → set.contains (came r.packets) q ≡ true =
        λ q less. no_missing (set.contains (came r.packets) q) (sym (ap (λ b. b && not (set.contains (came r.packets) q)) (contains-below packets q ∙ lt-ltb q packets less)) ∙ sym (contains-less (below packets) (came r.packets) q) ∙ ap (λ u. set.contains u q) none ∙ contains-none q) in
        absurd (omega (arith, few, full_of packets (came r.packets) (came_below r.packets) all))
      where
        no_missing : (b : Bool) → (true && not b) ≡ false → b ≡ true
        no_missing true e = refl
        no_missing false e = absurd (false≢true (sym e))

    missing_below : (r : Receiving) → AllBelow (last_packet + 1) (missing (reception r))
    missing_below r q is = in_below q (set.contains (below packets) q) (not (set.contains (came r.packets) q)) (contains-below packets q) (sym (contains-less (below packets) (came r.packets) q) ∙ is)
      where
        in_below : (q : ℕ) (a b : Bool) → a ≡ nat_lt q packets → (a && b) ≡ true → q < last_packet + 1
        in_below q true b e both = ltb-true q packets (sym e)
        in_below q false b e both = cc

    request_said : (r : Receiving) → ReceivesRow table s r → (r.server < 2 ^ 16) × NamesKnown wide (Receive r) → IsSaid id wide (Request id r.server r.image r.version r.page (missing (reception r)))
    request_said r a fits =
        let k = keeps_row table s r.image a.kept w.agrees a.held_here in
        let range = page_in r.image r.page a.kept k a.held_here fits.1 (omega (arith, a.more, k.pages, laws.count k.row)) in
        said id wide (Request id r.server r.image r.version r.page (missing (reception r))) refl
        (small, fits.0, omega (arith, a.version, version_small r.image a.kept k), missing_below r)
        (subst (λ v. PageInRange (known_images wide) r.image v r.page) a.version range, missing_some r a.missing)

    -- ---- a packet

    packet_long : (page : List ℕ) (q : ℕ) → length page ≡ page_size → q < packets → length (packet_of page q) ≡ packet_size
    packet_long page q long less = length-part page (packet_size * q) packet_size (omega (arith, long, less))

    part_bytes : (page : List ℕ) (q : ℕ) → length page ≡ page_size → q < packets → AreBytes page → AreBytes (packet_of page q)
    part_bytes page q long less bytes k =
        ⊎_elim
        (λ within. omega (arith, get_or-part page (packet_size * q) packet_size k 0 within, bytes (packet_size * q + k)))
        (λ past. omega (arith, get_or_past (packet_of page q) k 0 (omega (arith, packet_long page q long less, past))))
        (cases_lt k packet_size)

    packet_said : (t : Sending) (q : ℕ) → Serves s t → NamesKnown wide (Transmit t) → q < packets → IsSaid id wide (Packet id t.image t.version t.page q (stored s t q))
    packet_said t q v named less =
        let k = keeps_row table s t.image v.kept w.agrees v.held_here in
        let is = laws.rows.row table t.image v.kept.version k.row is_table k.in_table in
        let there : t.page < length (object k.row) = omega (arith, v.complete, few_complete table t.image v.kept k) in
        let page : slice_index_or (complete_pages (held s t.image)) t.page [] ≡ page_of_row k.row t.page =
        ap (λ (o : Option Held). slice_index_or (complete_pages o) t.page []) v.held_here ∙ complete_page table t.image t.page v.kept k v.complete ∙ laws.page k.row t.page (omega (arith, there, laws.count k.row)) in
        let long = laws.long k.row t.page is in
        let same : stored s t q ≡ packet_of (page_of_row k.row t.page) q = ap (λ (xs : List ℕ). packet_of xs q) page in
        said id wide (Packet id t.image t.version t.page q (stored s t q)) refl
        (small, omega (arith, v.version, version_small t.image v.kept k), ap length same ∙ packet_long (page_of_row k.row t.page) q long less, subst AreBytes (sym same) (part_bytes (page_of_row k.row t.page) q long less (laws.bytes k.row t.page is)))
        (subst (λ x. PageInRange (known_images wide) t.image x t.page) v.version (page_in t.image t.page v.kept k v.held_here named there), omega (arith, less))

    -- ---- ticks

    maintain_said : (a : Act) (m : MoteState) → m.id ≡ id → m.wide ≡ wide → OrderFits s.order → IfSome (maintain_by a m s).sent (IsSaid id wide)
    maintain_said act.Send m same alike order = subst (λ n. IsSaid id wide (advert_of n m.wide s)) (sym same) (subst (λ w. IsSaid id wide (advert_of id w s)) (sym alike) (advert_said order))
    maintain_said act.Quiet m same alike order = tt
    maintain_said act.Expired m same alike order = tt
    maintain_said act.Nothing m same alike order = tt

    receive_said : (m : MoteState) (r : Receiving) (now word : ℕ) → m.id ≡ id → ReceivesRow table s r → (r.server < 2 ^ 16) × NamesKnown wide (Receive r) → IfSome (receive_by (ask_of (reception r) now) m r s now word).sent (IsSaid id wide)
    receive_said m r now word same a fits =
        let P : Ask → Type 0 = λ x. IfSome (receive_by x m r s now word).sent (IsSaid id wide) in
        cond_both (nat_lt now r.due) ask.Wait _ P (λ _. tt)
        (λ _. cond_both (nat_le most_requests r.tries) ask.GiveUp (ask.Request (missing (reception r))) P (λ _. tt)
        (λ _. subst (λ n. IsSaid id wide (Request n r.server r.image r.version r.page (missing (reception r)))) (sym same) (request_said r a fits)))

    transmit_said : (m : MoteState) (t : Sending) (now word : ℕ) → m.id ≡ id → Serves s t → NamesKnown wide (Transmit t) → AllBelow packets t.owed.left → IfSome (transmit_by (serve_of t.owed now) m t s now word).sent (IsSaid id wide)
    transmit_said m t now word same v named all = by_least (least t.owed.left) (nat_lt now t.owed.due) (least_cases t.owed.left)
      where
        by_least : (o : Option ℕ) (early : Bool) → MatchOption o (t.owed.left ≡ set.empty) (IsLeast t.owed.left) → IfSome (transmit_by (serve_by o early) m t s now word).sent (IsSaid id wide)
        by_least None early l = tt
        by_least (Some q) true l = tt
        by_least (Some q) false l = subst (λ n. IsSaid id wide (Packet n t.image t.version t.page q (stored s t q))) (sym same) (packet_said t q v named (all q l.member))

    mode_said : (mode : Mode) (m : MoteState) (now word : ℕ) → m.id ≡ id → m.wide ≡ wide → OrderFits s.order → ModeAgrees table s mode → ModeTimely mode now → ServerFits mode × NamesKnown wide mode → IfSome (mode_tick mode m s now word).sent (IsSaid id wide)
    mode_said (Maintain timer) m now word same alike order a timely fits =
        cond_both (order_waits s) _ _ (λ (x : MoteStep Did). IfSome x.sent (IsSaid id wide)) (λ _. tt)
        (λ _. maintain_said (act_of timer now) (record m { mode = Maintain (after_tick timer now word) }) same alike order)
    mode_said (Receive r) m now word same alike order a timely fits = receive_said m r now word same a fits
    mode_said (Transmit t) m now word same alike order a timely fits = transmit_said m t now word same a fits.1 timely.1

    pub tick_said : (m : MoteState) (now word : ℕ) → m.id ≡ id → m.wide ≡ wide → OrderFits s.order → ModeAgrees table s m.mode → ModeTimely m.mode now → ServerFits m.mode × NamesKnown wide m.mode → IfSome (tick_of m s now word).sent (IsSaid id wide)
    unfolding tick_of
    tick_said m now word same alike order a timely fits =
        cond_both (clears m s now) _ _ (λ (x : MoteStep Did). IfSome x.sent (IsSaid id wide)) (λ _. tt) (λ _. mode_said m.mode m now word same alike order a timely fits)

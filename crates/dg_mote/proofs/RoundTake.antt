-- A mote that asks takes the packets of a page in order, and has one more page.
use Rattle.std.proofs.Common.{◌≡◌, ◌≢◌, ℕ, zero, suc, ◌+◌, ◌*◌, ◌<◌, Bool, true, false, not, ◌&&◌, cond, eqb, ltb, List, [], length, map, take, get_or, Some, None, is_some, refl, sym, ap, subst, ◌∙◌, arith}
use Rattle.std.proofs.lemmas.Bool.{eq-eqb, ne_eqb, le-ltb, lt-ltb}
use Rattle.std.proofs.lemmas.Option.{same_Some}
use Rattle.std.proofs.lemmas.List.{length-set}
use Rattle.std.specs.List.{range_with_len}
use Rattle.std.specs.Ordering.{nat_cmp}
use Rattle.std.specs.Cmp.{nat_cmp_total}
use Rattle.std.specs.FinSet as set
use Rattle.dg_bits.specs.Sets.{below}
use Rattle.dg_bits.proofs.SetLaws.{contains-below, below_more, below_none}
use Rattle.dg_nor.specs.Trail.{last_of, joined, delayed, resting, stepping}
use Rattle.dg_object.specs.Object.{Row, object, profile}
use Rattle.dg_slot.specs.Layout.{packets, page_size}
use Rattle.dg_slot.specs.Kept.{Held}
use Rattle.dg_slot.specs.Fits.{may_seal}
use Rattle.dg_slot.specs.Jobs.{Packets, packet, put_packet, page_from, packets_of, no_packets}
use Rattle.dg_volume.specs.Store.{held}
use Rattle.dg_volume.specs.Changes.{paged}
use Rattle.dg_volume.specs.Table.{row_at}
use Rattle.dg_volume.specs.Agreement.{KeepsRow}
use Rattle.dg_volume.specs.RowLaws.{RowsFit}
use Rattle.dg_frame.specs.declared.Message.{Message}
use Rattle.dg_frame.specs.declared.Message.TheVariants.{Packet}
use Rattle.dg_mote.specs.Model.{Receive, Receiving, MoteStep, came, maintains}
use Rattle.dg_mote.specs.Hears.{on_message}
use Rattle.dg_mote.specs.Adverts.{dropped}
use Rattle.dg_mote.specs.Packets.{is_wanted, takes, accepted, seal_by, on_packet, page_packet}
use Rattle.dg_mote.specs.Agreement.{ReceivesRow, ModeAgrees}
use Rattle.dg_mote.specs.Spots.{Spot, SpotIsWell, pace, hears, hears_all}
use Rattle.dg_mote.specs.Completing.{packet_message, AsksPage}
use Rattle.dg_mote.specs.declared.mote.Heard.{Heard}
use Rattle.dg_mote.specs.declared.mote.Heard.TheVariants.{Took, Sealed, Bad}
use Rattle.dg_mote.proofs.RowLemmas.{keeps_row, same_row}
use Rattle.dg_mote.proofs.CameLemmas.{came_has}
use Rattle.dg_mote.proofs.PacketLemmas.{AreOf, put_are_of, makes_page}
use Rattle.dg_mote.proofs.FillLemmas.{came_put}
use Rattle.dg_mote.proofs.AdvertLemmas.{no_packets-count, none_came, no_packet}
use Rattle.dg_mote.proofs.RoundTicks.{spot_of}
use Rattle.dg_volume.specs.Filling.{packet_of}

-- ---- the packets that came

len_of_below : (n : ℕ) → set.len (below n) ≡ n
len_of_below zero = ap set.len below_none ∙ set.len-empty nat_cmp
len_of_below (suc n) =
    let e : suc n ≡ n + 1 = omega arith in
    ap (λ k. set.len (below k)) e ∙ ap set.len (sym (below_more n)) ∙ set.len-insert nat_cmp_total (below n) n
    ∙ ap (λ b. cond b (set.len (below n)) (set.len (below n) + 1)) (contains-below n n ∙ le-ltb n n (omega arith))
    ∙ ap (λ k. k + 1) (len_of_below n) ∙ sym e

pub none_yet : came no_packets ≡ below 0
none_yet = set.empty_of_len (came no_packets) none_came ∙ sym below_none

-- the next one is missing
missing_next : (ps : Packets) (n : ℕ) → n < packets → came ps ≡ below n → is_some (packet ps n) ≡ false
missing_next ps n h are =
    by_bool (is_some (packet ps n)) (ltb n packets) (lt-ltb n packets h) (sym (came_has ps n) ∙ ap (λ s. set.contains s n) are ∙ contains-below n n ∙ le-ltb n n (omega arith))
  where
    by_bool : (a b : Bool) → b ≡ true → (a && b) ≡ false → a ≡ false
    by_bool false b t e = refl
    by_bool true b t e = absurd (both t e)
      where
        both : b ≡ true → b ≡ false → ⊥
        both t e = cc

-- with it the first n + 1 came
came_next : (ps : Packets) (n : ℕ) (bytes : List ℕ) → n < packets → length ps ≡ packets → came ps ≡ below n → came (put_packet ps n bytes) ≡ below (n + 1)
came_next ps n bytes h count are = came_put ps n bytes h count ∙ ap (λ s. set.insert s n) are ∙ below_more n

-- ---- a packet is heard

hears_packet : (x : Spot) (now sender q : ℕ) (r : Receiving) (bytes : List ℕ) → sender ≢ x.mote.id → x.mote.mode ≡ Receive r → is_some (packet r.packets q) ≡ false
    → hears x now (Packet sender r.image r.version r.page q bytes) ≡ spot_of (takes x.mote r x.store now 0 q bytes)
unfolding hears
hears_packet x now sender q r bytes other is missing =
    ap spot_of (
    ap (λ b. cond b (dropped x.mote x.store) (on_message x.mote x.store now 0 (Packet sender r.image r.version r.page q bytes))) (ne_eqb sender x.mote.id other)
    ∙ ap (λ k. on_packet k x.mote x.store now 0 (page_packet r.image r.version r.page q bytes)) is
    ∙ ap (λ b. cond b (takes x.mote r x.store now 0 q bytes) (dropped x.mote x.store)) wanted)
  where
    wanted : is_wanted r r.image r.version r.page q ≡ true
    wanted = λ i. ((eq-eqb r.image r.image refl i && eq-eqb r.version r.version refl i) && eq-eqb r.page r.page refl i) && not (missing i)

module _ (whole : (page : List ℕ) → length page ≡ page_size → page_from (packets_of page) ≡ page) (sender image version number : ℕ) (page : List ℕ) where
  -- it asks for the page, and its first n packets came
  record Fills (n : ℕ) (x : Spot) : Type 0 where
    r : Receiving
    receives : x.mote.mode ≡ Receive r
    image_is : r.image ≡ image
    version_is : r.version ≡ version
    page_is : r.page ≡ number
    count : length r.packets ≡ packets
    came_are : came r.packets ≡ below n
    are : AreOf page r.packets

  abbrev says : ℕ → Message
  says q = packet_message sender image version number page q

  abbrev with_one : Receiving → (now n : ℕ) → Receiving
  with_one r now n = accepted r now n (packet_of page n)

  abbrev part : (x : Spot) → Receiving → (now n : ℕ) → MoteStep Heard
  part x r now n = record { mote = record x.mote { mode = Receive (with_one r now n) }; trail = resting x.store 1; sent = None; answer = Took n }

  -- it is one that it wants, and the page is sealed if it was the last one
  heard_one : (n : ℕ) (x : Spot) (now : ℕ) → n < packets → sender ≢ x.mote.id → (f : Fills n x)
      → hears x now (says n) ≡ spot_of (cond (eqb (n + 1) packets) (seal_by (held x.store f.r.image) x.mote f.r x.store now 0 (page_from (with_one f.r now n).packets)) (part x f.r now n))
  heard_one n x now h other f =
      (λ i. hears x now (Packet sender (sym f.image_is i) (sym f.version_is i) (sym f.page_is i) n (packet_of page n)))
      ∙ hears_packet x now sender n f.r (packet_of page n) other f.receives (missing_next f.r.packets n h f.came_are)
      ∙ ap (λ k. spot_of (cond (eqb k packets) (seal_by (held x.store f.r.image) x.mote f.r x.store now 0 (page_from (with_one f.r now n).packets)) (part x f.r now n)))
      (ap set.len (came_next f.r.packets n (packet_of page n) h f.count f.came_are) ∙ len_of_below (n + 1))

  heard_more : (n : ℕ) (x : Spot) (now : ℕ) → n + 1 < packets → sender ≢ x.mote.id → (f : Fills n x)
      → hears x now (says n) ≡ record { store = x.store; mote = record x.mote { mode = Receive (with_one f.r now n) } }
  unfolding last_of
  heard_more n x now h other f =
      heard_one n x now (omega (arith, h)) other f
      ∙ ap (λ b. spot_of (cond b (seal_by (held x.store f.r.image) x.mote f.r x.store now 0 (page_from (with_one f.r now n).packets)) (part x f.r now n))) (ne_eqb (n + 1) packets (λ e. omega (arith, h, e)))

  fills_more : (n : ℕ) (x : Spot) (now : ℕ) → n < packets → (f : Fills n x) → Fills (n + 1) (record { store = x.store; mote = record x.mote { mode = Receive (with_one f.r now n) } })
  fills_more n x now h f = record {
    r = with_one f.r now n;
    receives = refl;
    image_is = f.image_is;
    version_is = f.version_is;
    page_is = f.page_is;
    count = length-set f.r.packets n (Some (packet_of page n)) ∙ f.count;
    came_are = came_next f.r.packets n (packet_of page n) h f.count f.came_are;
    are = put_are_of page f.r.packets n (packet_of page n) f.are refl;
  }

  heard_last : (n : ℕ) (x : Spot) (now : ℕ) (h : Held) → n + 1 ≡ packets → sender ≢ x.mote.id → (f : Fills n x) → held x.store image ≡ Some h → may_seal image h page ≡ true → length page ≡ page_size
      → hears x now (says n) ≡ record { store = paged image page x.store; mote = maintains x.mote now 0 }
  unfolding last_of joined delayed fills_more
  heard_last n x now h last_one other f kept fits size =
      let next = fills_more n x now (omega (arith, last_one)) f in
      let ps = (with_one f.r now n).packets in
      let made : page_from ps ≡ page = makes_page whole page ps size next.are (ap set.len next.came_are ∙ len_of_below (n + 1) ∙ last_one) in
      heard_one n x now (omega (arith, last_one)) other f
      ∙ ap (λ b. spot_of (cond b (seal_by (held x.store f.r.image) x.mote f.r x.store now 0 (page_from ps)) (part x f.r now n))) (eq-eqb (n + 1) packets last_one)
      ∙ (λ i. spot_of (seal_by (held x.store (f.image_is i)) x.mote (record f.r { image = f.image_is i }) x.store now 0 (made i)))
      ∙ ap (λ o. spot_of (seal_by o x.mote (record f.r { image = image }) x.store now 0 page)) kept
      ∙ ap (λ b. spot_of (cond b (record { mote = maintains x.mote now 0; trail = joined (resting x.store 1) (stepping x.store 1 (paged image page x.store)); sent = None; answer = Sealed image f.r.page })
      (record { mote = maintains x.mote now 0; trail = resting x.store 1; sent = None; answer = Bad image f.r.page }))) fits

  -- the m + 1 that are still to come
  takes_from : (m n : ℕ) (x : Spot) (now : ℕ) (h : Held) → n + suc m ≡ packets → sender ≢ x.mote.id → Fills n x → held x.store image ≡ Some h → may_seal image h page ≡ true → length page ≡ page_size
      → hears_all (map says (range_with_len n (suc m))) x now ≡ record { store = paged image page x.store; mote = maintains x.mote (now + suc m * pace) 0 }
  unfolding hears_all
  takes_from zero n x now h e other f kept fits size =
      heard_last n x (now + pace) h (omega (arith, e)) other f kept fits size
      ∙ ap (λ t. record { store = paged image page x.store; mote = maintains x.mote t 0 }) (omega arith)
  takes_from (suc m) n x now h e other f kept fits size =
      let y : Spot = record { store = x.store; mote = record x.mote { mode = Receive (with_one f.r (now + pace) n) } } in
      ap (λ z. hears_all (map says (range_with_len (n + 1) (suc m))) z (now + pace)) (heard_more n x (now + pace) (omega (arith, e)) other f)
      ∙ takes_from m (n + 1) y (now + pace) h (omega (arith, e)) other (fills_more n x (now + pace) (omega (arith, e)) f) kept fits size
      ∙ ap (λ t. record { store = paged image page x.store; mote = maintains x.mote t 0 }) (omega arith)

  -- all of them
  takes_all : (x : Spot) (now : ℕ) (h : Held) → sender ≢ x.mote.id → Fills 0 x → held x.store image ≡ Some h → may_seal image h page ≡ true → length page ≡ page_size
      → hears_all (map says (range_with_len 0 packets)) x now ≡ record { store = paged image page x.store; mote = maintains x.mote (now + packets * pace) 0 }
  takes_all x now h other f kept fits size = takes_from 47 0 x now h (omega arith) other f kept fits size

pub takes_page : ((page : List ℕ) → length page ≡ page_size → page_from (packets_of page) ≡ page) → (table : List Row) → RowsFit table → (x : Spot) (now sender image : ℕ) (kept : Held) (row : Row) → SpotIsWell table x now → AsksPage x image kept → sender ≢ x.mote.id
    → row_at table image kept.version ≡ Some row
    → hears_all (map (packet_message sender image kept.version (length kept.complete) (get_or (object row) (length kept.complete) [])) (range_with_len 0 packets)) x now
    ≡ record { store = paged image (get_or (object row) (length kept.complete) []) x.store; mote = maintains x.mote (now + packets * pace) 0 }
takes_page whole table rows x now sender image kept row w a other in_table =
    let page = get_or (object row) (length kept.complete) [] in
    let agrees : ReceivesRow table x.store a.r = subst (ModeAgrees table x.store) a.receives w.mode in
    let equal : agrees.kept ≡ kept = same_Some agrees.kept kept (sym agrees.held_here ∙ ap (held x.store) a.image_is ∙ a.held_now) in
    let less : length kept.complete < kept.pages = subst (λ (g : Held). length g.complete < g.pages) equal (omega (arith, agrees.next, agrees.more)) in
    let k : KeepsRow table image kept = keeps_row table x.store image kept w.store.agrees a.held_now in
    let same : k.row ≡ row = same_row table image kept.version k.row row k.in_table in_table in
    let fits = rows image row kept in_table (k.pages ∙ ap (λ (r : Row). (profile r).pages) same) (k.crc ∙ ap (λ (r : Row). (profile r).crc) same) (k.first ∙ ap (λ (r : Row). take (length kept.complete) (object r)) same) less in
    takes_all whole sender image kept.version (length kept.complete) page x now kept other
    (record {
      r = a.r;
      receives = a.receives;
      image_is = a.image_is;
      version_is = a.version_is;
      page_is = a.page_is;
      count = ap length a.fresh ∙ no_packets-count;
      came_are = ap came a.fresh ∙ none_yet;
      are = λ q bytes there. absurd (no_packet q bytes (ap (λ (ps : Packets). packet ps q) (sym a.fresh) ∙ there));
    }) a.held_now fits.0 fits.1

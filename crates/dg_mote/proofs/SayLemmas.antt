-- What a mote sends fits into frames.
use Rattle.std.proofs.Common.{◌≡◌, ◌≢◌, ℕ, zero, suc, ◌+◌, ◌<◌, ◌≤◌, Bool, true, false, not, ◌&&◌, ◌||◌, List, map, length, Option, Some, None, IfSome, IsTrue, refl, sym, ap, subst, ◌∙◌, arith, cond, get_or, inl, inr, [], ◌∷◌}
use Rattle.std.proofs.lemmas.Bool.{cond_both, cond-true, cond-false, false≢true, cases_lt, lt-ltb, and_from}
use Rattle.std.proofs.lemmas.Bool.Decides.{nat_tests}
use Rattle.std.proofs.lemmas.List.{get_or_past}
use Rattle.std.specs.List.{list_all, range_with_len}
use Rattle.std.specs.Prelude.{nat_le, nat_lt, slice_index_or}
use Rattle.std.specs.Ordering.{nat_cmp}
use Rattle.std.specs.FinSet as set
use Rattle.dg_bits.specs.Sets.{Numbers, below, AllBelow}
use Rattle.dg_bits.proofs.SetLaws.{contains-below, contains-less}
use Rattle.dg_control.specs.Ranges.{order_fits}
use Rattle.dg_control.specs.declared.snapshot.Order.{Order}
use Rattle.dg_control.proofs.PlaceLemmas.{in_range as snapshot_in_range}
use Rattle.dg_words.proofs.ListLemmas.{get_or-tabulate}
use Rattle.dg_nor.specs.Chip.{sector}
use Rattle.dg_recv.specs.Reception.{Reception}
use Rattle.dg_recv.specs.declared.Ask.TheVariants as Ask
use Rattle.dg_recv.specs.Times.{most_requests}
use Rattle.dg_recv.specs.Steps.{missing, ask_of}
use Rattle.dg_slot.specs.Layout.{packets, most_pages, page_sector}
use Rattle.dg_slot.specs.Kept.{Held, KeepsImage}
use Rattle.dg_slot.specs.Pages.{page_in, packet_in, slot_pages}
use Rattle.dg_slot.specs.Jobs.{outline_of_slot, done_of_slot, slot_of}
use Rattle.dg_slot.specs.declared.states.PageJob.{PageJob}
use Rattle.dg_volume.specs.Sizes.{images}
use Rattle.dg_volume.specs.Store.{Store, held}
use Rattle.dg_volume.specs.Told.{told, told_held}
use Rattle.dg_volume.specs.Stands.{Mounted, IsMounted, kept_at, snapshot_of}
use Rattle.dg_volume.specs.declared.volume.Volume.{Volume}
use Rattle.dg_volume.specs.Start.{complete_pages}
use Rattle.dg_volume.proofs.CompareLemmas.{packet_same}
use Rattle.dg_volume.proofs.LendingLemmas.{KeptFits, kept_fits}
use Rattle.dg_frame.specs.Sizes.{narrow_images, wide_images, known_images}
use Rattle.dg_frame.specs.Ranges.{no_order}
use Rattle.dg_frame.specs.Grammar.{entry_fits, order_in_frame, in_range}
use Rattle.dg_frame.specs.declared.Entry.{Entry}
use Rattle.dg_frame.specs.declared.Message.TheVariants.{Advert, Request, Packet, Wide}
use Rattle.dg_mote.specs.Model.{Receive, Transmit, NamesKnown, Receiving, Sending, came, reception}
use Rattle.dg_mote.specs.Summary.{entry_by, entries_of, own_order, advert_of}
use Rattle.dg_mote.specs.Ticks.{stored}
use Rattle.dg_mote.specs.Agreement.{Serves}
use Rattle.dg_mote.specs.Motes.{Receives}
use Rattle.dg_mote.proofs.CameLemmas.{came_below, full_of}

-- ---- an advert

entry_of_kept : (h : Held) → KeptFits (told_held h) → entry_fits (entry_by (Some h)) ≡ true
entry_of_kept h fits =
    let a = fits.some_version in
    let b = fits.some_pages in
    let c = fits.most_pages in
    let d = fits.within in
    grind (arith, nat_tests)

entry_by_fits : (c : List ℕ) (v : Volume) (i : ℕ) (o : Option Held) → i < images → IsMounted c v → kept_at v i ≡ told o → entry_fits (entry_by o) ≡ true
entry_by_fits c v i None known m is = refl
entry_by_fits c v i (Some h) known m is = entry_of_kept h (kept_fits c v i (told_held h) known m is)

held_fits : (c : List ℕ) (v : Volume) (s : Store) (i : ℕ) → i < images → Mounted c v s → entry_fits (entry_by (held s i)) ≡ true
held_fits c v s i known m = entry_by_fits c v i (held s i) known (s, m) (m.tells.kept i known (λ h. h))

-- the order that a mote of this width advertises
pub order_told : (wide : Bool) (s : Store) → wide || nat_le s.order.image narrow_images ≡ true → own_order wide s ≡ s.order
unfolding own_order
order_told wide s e = cond-true (wide || nat_le s.order.image narrow_images) s.order no_order e

pub order_untold : (wide : Bool) (s : Store) → wide || nat_le s.order.image narrow_images ≡ false → own_order wide s ≡ no_order
unfolding own_order
order_untold wide s e = cond-false (wide || nat_le s.order.image narrow_images) s.order no_order e

told_images : (wide : Bool) (o : Order) → IsTrue (order_fits o) → wide || nat_le o.image narrow_images ≡ true → order_in_frame (known_images wide) o ≡ true
told_images true o fits few = grind (arith, nat_tests)
told_images false o fits few = grind (arith, nat_tests)

none_told : (wide : Bool) → order_in_frame (known_images wide) no_order ≡ true
none_told true = refl
none_told false = refl

order_fits_frame : (wide : Bool) (s : Store) → IsTrue (order_fits s.order) → order_in_frame (known_images wide) (own_order wide s) ≡ true
unfolding own_order
order_fits_frame wide s fits =
    cond_both (wide || nat_le s.order.image narrow_images) s.order no_order (λ (o : Order). order_in_frame (known_images wide) o ≡ true) (told_images wide s.order fits) (λ _. none_told wide)

order_fits_here : (c : List ℕ) (v : Volume) (wide : Bool) (s : Store) → Mounted c v s → order_in_frame (known_images wide) (own_order wide s) ≡ true
order_fits_here c v wide s m = order_fits_frame wide s (subst (λ (o : Order). IsTrue (order_fits o)) m.tells.says.order (snapshot_in_range (snapshot_of v)).order)

entries_fit : (c : List ℕ) (v : Volume) (s : Store) (n a : ℕ) → a + n ≤ images → Mounted c v s → list_all entry_fits (map (λ i. entry_by (held s i)) (range_with_len a n)) ≡ true
entries_fit c v s zero a within m = refl
entries_fit c v s (suc n) a within m = and_from _ _ (held_fits c v s a (omega (arith, within)) m) (entries_fit c v s n (a + 1) (omega (arith, within)) m)

pub advert_fits : (c : List ℕ) (v : Volume) (wide : Bool) (s : Store) (id : ℕ) → Mounted c v s → in_range wide (advert_of id wide s) ≡ true
unfolding in_range
advert_fits c v true s id m = and_from _ _ (entries_fit c v s wide_images 1 (omega arith) m) (order_fits_here c v true s m)
advert_fits c v false s id m = and_from _ _ (entries_fit c v s narrow_images 1 (omega arith) m) (order_fits_here c v false s m)

pub narrow_same : (s : Store) (a b c : Entry) → a ≡ entry_by (held s 1) → b ≡ entry_by (held s 2) → c ≡ entry_by (held s 3) → a ∷ b ∷ c ∷ [] ≡ entries_of false s
narrow_same s a b c x y z = λ i. x i ∷ y i ∷ z i ∷ []

pub wide_same : (s : Store) (a b c d e f : Entry) → a ≡ entry_by (held s 1) → b ≡ entry_by (held s 2) → c ≡ entry_by (held s 3) → d ≡ entry_by (held s 4) → e ≡ entry_by (held s 5) → f ≡ entry_by (held s 6)
    → a ∷ b ∷ c ∷ d ∷ e ∷ f ∷ [] ≡ entries_of true s
wide_same s a b c d e f x y z u v w = λ i. x i ∷ y i ∷ z i ∷ u i ∷ v i ∷ w i ∷ []

pub wide_said : (id : ℕ) (wide : Bool) (s : Store) (entries : List Entry) (o : Order) → wide ≡ true → entries ≡ entries_of true s → o ≡ own_order wide s → Wide id entries o ≡ advert_of id wide s
wide_said id true s entries o is e f = λ i. Wide id (e i) (f i)
wide_said id false s entries o is e f = absurd (false≢true is)

pub narrow_said : (id : ℕ) (wide : Bool) (s : Store) (entries : List Entry) (o : Order) → wide ≡ false → entries ≡ entries_of false s → o ≡ own_order wide s → Advert id entries o ≡ advert_of id wide s
narrow_said id true s entries o is e f = absurd (false≢true (sym is))
narrow_said id false s entries o is e f = λ i. Advert id (e i) (f i)

-- ---- a request

-- a set with fewer numbers lacks one
both_left : (a b : Bool) → a ≡ true → a && not b ≡ false → b ≡ true
both_left true true e f = refl
both_left true false e f = cc
both_left false b e f = cc

pub some_missing : (n : ℕ) (s : Numbers) → AllBelow n s → set.len s < n → set.len (set.difference (below n) s) ≢ 0
some_missing n s low few none =
    let empty = set.empty_of_len (set.difference (below n) s) none in
    let all : (q : ℕ) → q < n → set.contains s q ≡ true =
    λ q h. both_left (set.contains (below n) q) (set.contains s q) (contains-below n q ∙ lt-ltb q n h) (sym (contains-less (below n) s q) ∙ ap (λ t. set.contains t q) empty ∙ set.contains-empty nat_cmp q) in
    omega (arith, full_of n s low all, few)

asked_by : (x y : Bool) (a want : Numbers) → Ask.Request want ≡ cond x Ask.Wait (cond y Ask.GiveUp (Ask.Request a)) → want ≡ a
asked_by true y a want e = cc
asked_by false true a want e = cc
asked_by false false a want e = cc

asked_for : (r : Reception) (now : ℕ) (want : Numbers) → Ask.Request want ≡ ask_of r now → want ≡ missing r
asked_for r now want is = asked_by (nat_lt now r.due) (nat_le most_requests r.tries) (missing r) want is

request_in_range : (wide : Bool) (id to image version page : ℕ) (want : Numbers) → 1 ≤ image → image ≤ known_images wide → 1 ≤ version → page < most_pages → set.len want ≢ 0 → in_range wide (Request id to image version page want) ≡ true
unfolding in_range
request_in_range true id to image version page want a b c d some = grind (arith, nat_tests)
request_in_range false id to image version page want a b c d some = grind (arith, nat_tests)

pub request_fits : (c : List ℕ) (v : Volume) (s : Store) (job : PageJob) (r : Receiving) (wide : Bool) (id to version now : ℕ) (asking : Reception) (want : Numbers) → NamesKnown wide (Receive r) → Receives c v s job r → version ≡ r.version → asking ≡ reception r → Ask.Request want ≡ ask_of asking now
    → in_range wide (Request id to (outline_of_slot (slot_of job)).image version (done_of_slot (slot_of job)) want) ≡ true
request_fits c v s job r wide id to version now asking want named receives of_version asks is =
    let o = slot_of job in
    let high = named.1 in
    let real = o.profile.real_version in
    let few = o.profile.few_pages in
    let opens = receives.stands.slot.opens in
    let more = receives.stands.more in
    let gaps : set.len (missing (reception r)) ≢ 0 = some_missing packets (came r.packets) (came_below r.packets) receives.missing in
    request_in_range wide id to (outline_of_slot o).image version (done_of_slot o) want
    (omega (arith, receives.not_golden, receives.image)) (omega (arith, high, receives.image)) (omega (arith, real, opens.version, receives.version, of_version)) (omega (arith, few, opens.done, opens.pages, more))
    (subst (λ (w : Numbers). set.len w ≢ 0) (sym (asked_for (reception r) now want (is ∙ ap (λ a. ask_of a now) asks))) gaps)

-- ---- a packet

-- a page that is served, as it is on the chip
pub record StandsIn (c : List ℕ) (s : Store) (t : Sending) : Type 0 where
  pub known_image : t.image < images
  pub known_page : t.page < most_pages
  pub some_version : 1 ≤ t.version
  pub stands : (q : ℕ) → q < packets → packet_in c (page_sector t.image t.page) q ≡ stored s t q

known_held : (s : Store) (i : ℕ) (h : Held) → length s.kept ≡ images → held s i ≡ Some h → i < images
known_held s i h count is = elim (cases_lt i images) [
  | inl less ↦ less
  | inr past ↦ let none : held s i ≡ None = get_or_past s.kept i None (omega (arith, count, past)) in cc
]

pub served_stands : (c : List ℕ) (v : Volume) (s : Store) (t : Sending) → Mounted c v s → Serves s t → StandsIn c s t
served_stands c v s t m serves =
    let h = serves.kept in
    let count = m.stands.contains.count in
    let known = known_held s t.image h count serves.held_here in
    let keeps : KeepsImage c t.image h = subst (λ (o : Option Held). IfSome o (KeepsImage c t.image)) serves.held_here (m.stands.contains.kept t.image known) in
    let fits = kept_fits c v t.image (told_held h) known (s, m) (m.tells.kept t.image known (λ x. x) ∙ ap told serves.held_here) in
    let page = slice_index_or (complete_pages (held s t.image)) t.page [] in
    let pages : complete_pages (held s t.image) ≡ slot_pages c t.image (length h.complete) = ap complete_pages serves.held_here ∙ keeps.stored in
    let here : page_in c (page_sector t.image t.page) ≡ page =
    sym (ap (λ (ps : List (List ℕ)). get_or ps t.page []) pages ∙ get_or-tabulate (length h.complete) t.page (λ p. page_in c (page_sector t.image p)) [] serves.complete) in
    record {
      known_image = known;
      known_page = omega (arith, serves.complete, fits.within, fits.most_pages);
      some_version = omega (arith, fits.some_version, serves.version);
      stands = λ q less. packet_same (sector c (page_sector t.image t.page)) page q less here;
    }

packet_in_range : (wide : Bool) (id image version page q : ℕ) (bytes : List ℕ) → 1 ≤ image → image ≤ known_images wide → 1 ≤ version → page < most_pages → q < packets → in_range wide (Packet id image version page q bytes) ≡ true
unfolding in_range
packet_in_range true id image version page q bytes a b c d e = grind (arith, nat_tests)
packet_in_range false id image version page q bytes a b c d e = grind (arith, nat_tests)

-- the message of a packet that is read from the page on the chip
pub record PacketSays (c : List ℕ) (s : Store) (t : Sending) (image version page q : ℕ) : Type 0 where
  pub known_page : page < most_pages
  pub fits : (wide : Bool) (id : ℕ) → NamesKnown wide (Transmit t) → in_range wide (Packet id image version page q (packet_in c (page_sector image page) q)) ≡ true
  pub is : (id own : ℕ) → id ≡ own → Packet id image version page q (packet_in c (page_sector image page) q) ≡ Packet own t.image t.version t.page q (stored s t q)

pub packet_says : (c : List ℕ) (v : Volume) (s : Store) (t : Sending) (image version page q : ℕ) → image ≡ t.image → version ≡ t.version → page ≡ t.page → Mounted c v s → Serves s t → q < packets → PacketSays c s t image version page q
packet_says c v s t image version page q of_image of_version of_page m serves less =
    let x = served_stands c v s t m serves in
    let known : page < most_pages = omega (arith, x.known_page, of_page) in
    record {
      known_page = known;
      fits = λ wide id named. packet_in_range wide id image version page q (packet_in c (page_sector image page) q) (omega (arith, serves.not_golden, of_image)) (omega (arith, named.1, of_image)) (omega (arith, x.some_version, of_version)) known less;
      is = λ id own e. λ i. Packet (e i) (of_image i) (of_version i) (of_page i) q (((λ j. packet_in c (page_sector (of_image j) (of_page j)) q) ∙ x.stands q less) i);
    }

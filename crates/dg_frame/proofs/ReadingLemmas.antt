-- The grammar determines the ranges and the causes of refusals.
use Rattle.std.proofs.Common.{◌≡◌, ◌≢◌, ℕ, ◌-◌, ◌≤◌, Bool, true, false, ◌&&◌, not, Decides, List, length, take, Option, Some, None, Result, Ok, Err, refl, sym, ap, ◌∙◌, subst, arith}
use Rattle.std.specs.Prelude.{All, ◌==◌, nat_le, nat_lt, slice_index}
use Rattle.std.specs.List.{list_all}
use Rattle.std.specs.FinSet as set
use Rattle.std.proofs.lemmas.Bool.{and_parts, cond_both, cond-true, cond-false, ltb-true, ltb-false, lt-ltb, le-ltb, eqb-true, eqb-false, eq-eqb, ne_eqb, not-true, not-false, not_from_true, not_from_false, false_from_ne_true}
use Rattle.std.proofs.lemmas.Option.{same_Some}
use Rattle.std.proofs.lemmas.Bool.Decides.{Decides-eqb, Decides-and, Decides-or, Decides-like, Decides-by_and, Decides-not, nat_tests, not_from_Decides}
use Rattle.dg_base.specs.Crc.{crc_of}
use Rattle.dg_control.specs.declared.snapshot.Order.{Order}
use Rattle.dg_bits.specs.Sets.{Numbers}
use Rattle.dg_frame.specs.Sizes.{shortest, advert_kind, request_kind, packet_kind, wide_kind, advert_frame_size, request_frame_size, packet_frame_size, wide_frame_size, narrow_images, wide_images, known_images, last_page, last_packet, fewest_pages, most_pages}
use Rattle.dg_frame.specs.Grammar.{half_at, advert_in, request_in, packet_in_frame, wide_in, kind_of, by_kind, ranged, message_of, in_range, entry_fits, order_in_frame, page_fits}
use Rattle.dg_frame.specs.Ranges.{EntryInRange, OrderInRange, PageInRange, IsInRange}
use Rattle.dg_frame.specs.Readings.{IsOfKind, IsChecked, IsReading}
use Rattle.dg_frame.specs.declared.Entry.{Entry}
use Rattle.dg_frame.specs.declared.Message.{Message}
use Rattle.dg_frame.specs.declared.Message.TheVariants.{Advert, Request, Packet, Wide}
use Rattle.dg_frame.specs.declared.FrameFault.{FrameFault}
use Rattle.dg_frame.specs.declared.FrameFault.TheVariants.{Short, Kind, Length, Check, Range}

-- ---- ranges

Decides-le : (a b : ℕ) → Decides (nat_le a b) (a ≤ b)
Decides-le a b = grind (arith, nat_tests)

pub entry_decides : (e : Entry) → Decides (entry_fits e) (EntryInRange e)
entry_decides e =
    Decides-or _ _
    (Decides-like _ (λ h. λ i. record { version = h.0.0.0 i; pages = h.0.0.1 i; have = h.0.1 i; crc = h.1 i }) (λ h. (((ap (λ (x : Entry). x.version) h, ap (λ (x : Entry). x.pages) h), ap (λ (x : Entry). x.have) h), ap (λ (x : Entry). x.crc) h))
    (Decides-and _ _ (Decides-and _ _ (Decides-and _ _ (Decides-eqb e.version 0) (Decides-eqb e.pages 0)) (Decides-eqb e.have 0)) (Decides-eqb e.crc 0)))
    (Decides-like _ (λ h. record { version = h.0.0.0; pages = h.0.0.1; most = h.0.1; have = h.1 }) (λ h. (((h.version, h.pages), h.most), h.have))
    (Decides-and _ _ (Decides-and _ _ (Decides-and _ _ (Decides-le 1 e.version) (Decides-le fewest_pages e.pages)) (Decides-le e.pages most_pages)) (Decides-le e.have e.pages)))

pub order_decides : (images : ℕ) (o : Order) → Decides (order_in_frame images o) (OrderInRange images o)
order_decides images o =
    Decides-or _ _
    (Decides-like _ (λ h. λ i. record { number = h.0.0 i; image = h.0.1 i; version = h.1 i }) (λ h. ((ap (λ (x : Order). x.number) h, ap (λ (x : Order). x.image) h), ap (λ (x : Order). x.version) h))
    (Decides-and _ _ (Decides-and _ _ (Decides-eqb o.number 0) (Decides-eqb o.image 0)) (Decides-eqb o.version 0)))
    (Decides-like _ (λ h. record { number = h.0.0; image = h.0.1; version = h.1 }) (λ h. ((h.number, h.image), h.version))
    (Decides-and _ _ (Decides-and _ _ (Decides-le 1 o.number) (Decides-le o.image images)) (Decides-le 1 o.version)))

pub page_decides : (images image version page : ℕ) → Decides (page_fits images image version page) (PageInRange images image version page)
page_decides images image version page =
    Decides-like _ (λ h. record { first = h.0.0.0; last = h.0.0.1; of_version = h.0.1; in_object = h.1 }) (λ h. (((h.first, h.last), h.of_version), h.in_object))
    (Decides-and _ _ (Decides-and _ _ (Decides-and _ _ (Decides-le 1 image) (Decides-le image images)) (Decides-le 1 version)) (Decides-le page last_page))

some_decides : (s : Numbers) → Decides (not (set.len s == 0)) (s ≢ set.empty)
some_decides s =
    Decides-not _
    (Decides-like _ (λ h. set.empty_of_len s h) (λ e. ap (λ t. set.len t) e ∙ set.len-empty _) (Decides-eqb (set.len s) 0))

entries_decide : (es : List Entry) → Decides (list_all entry_fits es) (All EntryInRange es)
entries_decide es = Decides-by_and entry_fits EntryInRange (list_all entry_fits) entry_decides refl (λ _ _. refl) es

pub ranges : (wide : Bool) (m : Message) → Decides (in_range wide m) (IsInRange wide m)
unfolding in_range
ranges wide (Advert source entries order) = Decides-and _ _ (entries_decide entries) (order_decides narrow_images order)
ranges wide (Request source to image version page want) = Decides-and _ _ (page_decides (known_images wide) image version page) (some_decides want)
ranges wide (Packet source image version page packet bytes) = Decides-and _ _ (page_decides (known_images wide) image version page) (Decides-le packet last_packet)
ranges wide (Wide source entries order) = Decides-and wide _ (λ e. e, λ e. e) (Decides-and _ _ (entries_decide entries) (order_decides wide_images order))

-- what is in the ranges of a reader is in those of a wide one
pub known_more : (wide : Bool) → known_images wide ≤ wide_images
known_more true = omega arith
known_more false = omega arith

page_wider : (wide : Bool) (image version page : ℕ) → PageInRange (known_images wide) image version page → PageInRange (known_images true) image version page
page_wider wide image version page h = record { first = h.first; last = omega (arith, h.last, known_more wide); of_version = h.of_version; in_object = h.in_object }

wider_ranges : (wide : Bool) (m : Message) → IsInRange wide m → IsInRange true m
wider_ranges wide (Advert source entries order) h = h
wider_ranges wide (Request source to image version page want) h = (page_wider wide image version page h.0, h.1)
wider_ranges wide (Packet source image version page packet bytes) h = (page_wider wide image version page h.0, h.1)
wider_ranges wide (Wide source entries order) h = (refl, h.1)

pub wider_range : (wide : Bool) (m : Message) → in_range wide m ≡ true → in_range true m ≡ true
wider_range wide m h = (ranges true m).1 (wider_ranges wide m ((ranges wide m).0 h))

-- ---- kinds

-- what holds of each row of the table holds of a kind that is found
pub by_kinds : (wide : Bool) (n : ℕ) (P : (ℕ × (List ℕ → Message)) → Type 0) → (n ≡ advert_kind → P (advert_frame_size, advert_in)) → (n ≡ request_kind → P (request_frame_size, request_in))
    → (n ≡ packet_kind → P (packet_frame_size, packet_in_frame)) → (wide ≡ true → n ≡ wide_kind → P (wide_frame_size, wide_in)) → (k : ℕ × (List ℕ → Message)) → kind_of wide n ≡ Some k → P k
by_kinds wide n P a r p w =
    let Q : Option (ℕ × (List ℕ → Message)) → Type 0 = λ o. (k : ℕ × (List ℕ → Message)) → o ≡ Some k → P k in
    cond_both (n == advert_kind) _ _ Q (λ e k q. subst P (same_Some _ k q) (a (eqb-true _ _ e)))
    (λ _. cond_both (n == request_kind) _ _ Q (λ e k q. subst P (same_Some _ k q) (r (eqb-true _ _ e)))
    (λ _. cond_both (n == packet_kind) _ _ Q (λ e k q. subst P (same_Some _ k q) (p (eqb-true _ _ e)))
    (λ _. cond_both (wide && (n == wide_kind)) _ _ Q (λ e k q. let parts = and_parts wide (n == wide_kind) e in subst P (same_Some _ k q) (w parts.0 (eqb-true _ _ parts.1))) (λ _ k q. absurd cc))))

-- a narrow reader's kinds are those of a wide one too
kind_is : (n m : ℕ) (size : ℕ) (fields : List ℕ → Message) → n ≡ m → kind_of true m ≡ Some (size, fields) → kind_of true n ≡ Some (size, fields)
kind_is n m size fields e k = ap (kind_of true) e ∙ k

wider_kind : (wide : Bool) (n : ℕ) (k : ℕ × (List ℕ → Message)) → kind_of wide n ≡ Some k → kind_of true n ≡ Some k
wider_kind wide n k =
    by_kinds wide n (λ x. kind_of true n ≡ Some x)
    (λ e. kind_is n advert_kind advert_frame_size advert_in e refl)
    (λ e. kind_is n request_kind request_frame_size request_in e refl)
    (λ e. kind_is n packet_kind packet_frame_size packet_in_frame e refl)
    (λ _ e. kind_is n wide_kind wide_frame_size wide_in e refl)
    k

-- ---- causes

ranged_reads : (b : List ℕ) (wide : Bool) (size : ℕ) (fields : List ℕ → Message) → IsOfKind b wide size fields → length b ≡ size → IsChecked b → IsReading b wide (ranged wide (fields b))
ranged_reads b wide size fields k l c =
    cond_both (in_range wide (fields b)) _ _ (IsReading b wide)
    (λ e. (size, fields, k, l, c, (ranges wide (fields b)).0 e, refl))
    (λ e. (size, fields, k, l, c, not_from_Decides _ (ranges wide (fields b)) e))

row_reads : (b : List ℕ) (wide : Bool) (size : ℕ) (fields : List ℕ → Message) → IsOfKind b wide size fields → IsReading b wide (by_kind b wide (Some (size, fields)))
row_reads b wide size fields k =
    cond_both (not (length b == size)) _ _ (IsReading b wide)
    (λ e. (size, fields, k, eqb-false _ _ (not-true _ e)))
    (λ e. cond_both (not (half_at b (length b - 2) == crc_of (take (length b - 2) b))) _ _ (IsReading b wide)
    (λ d. (size, fields, k, eqb-true _ _ (not-false _ e), eqb-false _ _ (not-true _ d)))
    (λ d. ranged_reads b wide size fields k (eqb-true _ _ (not-false _ e)) (eqb-true _ _ (not-false _ d))))

kind_reads : (b : List ℕ) (wide : Bool) (o : Option (ℕ × (List ℕ → Message))) → shortest ≤ length b → kind_of wide (slice_index b 0) ≡ o → IsReading b wide (by_kind b wide o)
kind_reads b wide None h e = (h, e)
kind_reads b wide (Some k) h e = row_reads b wide k.0 k.1 (record { least = h; kind = e })

pub reads : (b : List ℕ) (wide : Bool) → IsReading b wide (message_of b wide)
unfolding message_of
reads b wide = cond_both (nat_lt (length b) shortest) _ _ (IsReading b wide) (λ e. ltb-true _ _ e) (λ e. kind_reads b wide (kind_of wide (slice_index b 0)) (ltb-false _ _ e) refl)

long_enough : (b : List ℕ) (wide : Bool) → shortest ≤ length b → message_of b wide ≡ by_kind b wide (kind_of wide (slice_index b 0))
unfolding message_of
long_enough b wide h = cond-false _ _ _ (le-ltb (length b) shortest h)

by_row : (b : List ℕ) (wide : Bool) (size : ℕ) (fields : List ℕ → Message) → IsOfKind b wide size fields → message_of b wide ≡ by_kind b wide (Some (size, fields))
by_row b wide size fields k = long_enough b wide k.least ∙ ap (by_kind b wide) k.kind

by_fields : (b : List ℕ) (wide : Bool) (size : ℕ) (fields : List ℕ → Message) → IsOfKind b wide size fields → length b ≡ size → IsChecked b → message_of b wide ≡ ranged wide (fields b)
by_fields b wide size fields k l c =
    by_row b wide size fields k ∙ cond-false _ _ _ (not_from_true _ (eq-eqb _ _ l)) ∙ cond-false _ _ _ (not_from_true _ (eq-eqb _ _ c))

pub is_read : (b : List ℕ) (wide : Bool) (r : Result Message FrameFault) → IsReading b wide r → message_of b wide ≡ r
unfolding message_of
is_read b wide (Err Short) h = cond-true _ _ _ (lt-ltb (length b) shortest h)
is_read b wide (Err Kind) h = long_enough b wide h.0 ∙ ap (by_kind b wide) h.1
is_read b wide (Err Length) h = by_row b wide h.0 h.1 h.2 ∙ cond-true _ _ _ (not_from_false _ (ne_eqb _ _ h.3))
is_read b wide (Err Check) h = by_row b wide h.0 h.1 h.2 ∙ cond-false _ _ _ (not_from_true _ (eq-eqb _ _ h.3)) ∙ cond-true _ _ _ (not_from_false _ (ne_eqb _ _ h.4))
is_read b wide (Err Range) h = by_fields b wide h.0 h.1 h.2 h.3 h.4 ∙ cond-false _ _ _ (false_from_ne_true _ (λ e. h.5 ((ranges wide (h.1 b)).0 e)))
is_read b wide (Ok m) h = by_fields b wide h.0 h.1 h.2 h.3 h.4 ∙ ap (ranged wide) (sym h.6) ∙ cond-true _ _ _ ((ranges wide m).1 h.5)

-- what a reader answers that follows the grammar
pub read_as : (b : List ℕ) (wide : Bool) (r : Result Message FrameFault) → r ≡ message_of b wide → IsReading b wide r
read_as b wide r e = subst (IsReading b wide) (sym e) (reads b wide)

-- what a narrow reader reads, a wide one reads too
wider_reading : (b : List ℕ) (wide : Bool) (m : Message) → IsReading b wide (Ok m) → IsReading b true (Ok m)
wider_reading b wide m h = (h.0, h.1, record { least = h.2.least; kind = wider_kind wide (slice_index b 0) (h.0, h.1) h.2.kind }, h.3, h.4, wider_ranges wide m h.5, h.6)

pub wider : (b : List ℕ) (m : Message) → message_of b false ≡ Ok m → message_of b true ≡ Ok m
wider b m e = is_read b true (Ok m) (wider_reading b false m (subst (IsReading b false) e (reads b false)))

-- and it reads no wide adverts
pub no_wide : (b : List ℕ) (source : ℕ) (entries : List Entry) (order : Order) → message_of b false ≡ Ok (Wide source entries order) → ⊥
no_wide b source entries order e = known (subst (IsReading b false) e (reads b false)).5.0
  where
    known : false ≡ true → ⊥
    known e = cc

-- A message that is written is read back, and one that was read is spelled by the same bytes.
use Rattle.std.proofs.Common.{◌≡◌, ℕ, suc, zero, ◌+◌, ◌-◌, ◌*◌, ◌^◌, ◌<◌, ◌≤◌, Bool, true, List, [], ◌∷◌, ◌++◌, length, take, drop, map, get_or, Some, Ok, refl, sym, ap, ◌∙◌, subst, arith, append_assoc, ⊎_elim}
use Rattle.std.specs.Prelude.{◌&&◌, slice_index, nat_le}
use Rattle.std.specs.List.{AllByRecursion, flat_map, list_all, range_with_len}
use Rattle.std.specs.Int.{to_be_bytes, from_be_bytes, w16, w32}
use Rattle.std.proofs.lemmas.Bool.{and_parts, leb-true}
use Rattle.std.proofs.lemmas.List.{length-map, take_at, drop_at, length-append, length-take-le, length-take, length-drop, get_or-drop, drop-drop, drop_more}
use Rattle.std.proofs.lemmas.Nat.{be_bytes_2, be_bytes_4, from_be_bytes-to_be_bytes_2, from_be_bytes-to_be_bytes_4}
use Rattle.dg_words.specs.Cells.{AreBytes, part}
use Rattle.dg_words.proofs.ByteLemmas.{AreBytes-nil, AreBytes-cons, AreBytes-append, AreBytes-take, AreBytes-drop, AreBytes-high_first, All-from_AreBytes}
use Rattle.dg_words.proofs.CellLemmas.{part-append-part, part_whole}
use Rattle.dg_base.specs.Crc.{crc_of}
use Rattle.dg_base.proofs.CrcLemmas.{crc_more-lt}
use Rattle.dg_bits.specs.Sets.{Numbers, AllBelow}
use Rattle.dg_bits.specs.ByteForm.{byte_form, byte_of, numbers_of}
use Rattle.dg_bits.proofs.ByteFormLaws.{unmarked_past, AllBelow-packed, length-byte_form, numbers_of-byte_form, byte_form-numbers_of, byte_of-fits}
use Rattle.dg_control.specs.Snapshot.{order_bytes}
use Rattle.dg_control.specs.declared.snapshot.Order.{Order}
use Rattle.dg_frame.specs.Sizes.{advert_kind, request_kind, packet_kind, wide_kind, shortest, narrow_images, wide_images, known_images, entry_places, first_entry, order_place, entry_size, order_size, set_bytes, packet_size, last_packet, advert_frame_size, request_frame_size, packet_frame_size, wide_frame_size}
use Rattle.dg_frame.specs.Grammar.{half_at, word_in, entry_in_frame, order_at, entries_in, advert_in, request_in, packet_in_frame, wide_in, kind_of, in_range, entry_fits, order_in_frame, page_fits}
use Rattle.dg_frame.specs.Ranges.{TellsVersion, NamesImage, OrderInRange, IsInRange}
use Rattle.dg_frame.specs.Readings.{IsChecked, IsReading}
use Rattle.dg_frame.specs.Spelling.{entry_bytes, advert_bytes, unchecked, frame_of, EntryFitsTypes, AdvertFits, FitsTypes}
use Rattle.dg_frame.specs.declared.Entry.{Entry}
use Rattle.dg_frame.specs.declared.Message.{Message}
use Rattle.dg_frame.specs.declared.Message.TheVariants.{Advert, Request, Packet, Wide}
use Rattle.dg_frame.proofs.ReadingLemmas.{entry_decides, order_decides, page_decides, known_more, ranges, by_kinds}

-- ---- numbers that were read

half_small : (b : List ℕ) (p : ℕ) → AreBytes b → half_at b p < 2 ^ 16
half_small b p h = let t = AreBytes-take 2 (drop p b) (AreBytes-drop p b h) in omega (arith, t 0, t 1)

word_small : (b : List ℕ) (p : ℕ) → AreBytes b → word_in b p < 2 ^ 32
word_small b p h = let t = AreBytes-take 4 (drop p b) (AreBytes-drop p b h) in omega (arith, t 0, t 1, t 2, t 3)

length_piece : (b : List ℕ) (p n : ℕ) → p + n ≤ length b → length (take n (drop p b)) ≡ n
length_piece b p n h = length-take-le n (drop p b) (omega (arith, length-drop p b))

-- ---- parts that were read are written again

half_part : (b : List ℕ) (p : ℕ) → AreBytes b → p + 2 ≤ length b → to_be_bytes w16 (half_at b p) ≡ part b p 2
unfolding part
half_part b p h l = be_bytes_2 (take 2 (drop p b)) (half_at b p) (length_piece b p 2 l) (AreBytes-take 2 (drop p b) (AreBytes-drop p b h)) refl

word_part : (b : List ℕ) (p : ℕ) → AreBytes b → p + 4 ≤ length b → to_be_bytes w32 (word_in b p) ≡ part b p 4
unfolding part
word_part b p h l = be_bytes_4 (take 4 (drop p b)) (word_in b p) (length_piece b p 4 l) (AreBytes-take 4 (drop p b) (AreBytes-drop p b h)) refl

-- a byte before a part
byte_before : (b xs : List ℕ) (p q n : ℕ) → p + suc n ≤ length b → p + 1 ≡ q → xs ≡ part b q n → slice_index b p ∷ xs ≡ part b p (suc n)
unfolding part
byte_before b xs p q n l e x =
    ap (λ ys. slice_index b p ∷ ys) (x ∙ ap (λ r. take n (drop r b)) (sym e)) ∙ sym (ap (take (suc n)) (drop_more b p 0 (omega arith)))

-- a part after a part
part_behind : (b xs ys : List ℕ) (p m q n k : ℕ) → xs ≡ part b p m → ys ≡ part b q n → p + m ≡ q → m + n ≡ k → p + k ≤ length b → xs ++ ys ≡ part b p k
part_behind b xs ys p m q n k x y e f l =
    ap (λ zs. zs ++ ys) x ∙ ap (λ zs. part b p m ++ zs) (y ∙ ap (λ r. part b r n) (sym e)) ∙ part-append-part b p m n (omega arith) ∙ ap (part b p) f

entry_part : (b : List ℕ) (p : ℕ) → AreBytes b → p + 8 ≤ length b → entry_bytes (entry_in_frame b p) ≡ part b p 8
entry_part b p h l =
    part_behind b _ _ p 4 (p + 4) 4 8 (word_part b p h (omega arith))
    (byte_before b _ (p + 4) (p + 5) 3 (omega arith) (omega arith) (byte_before b _ (p + 5) (p + 6) 2 (omega arith) (omega arith) (half_part b (p + 6) h (omega arith))))
    refl refl l

order_part : (b : List ℕ) (p : ℕ) → AreBytes b → p + 9 ≤ length b → order_bytes (order_at b p) ≡ part b p 9
order_part b p h l =
    part_behind b _ _ p 4 (p + 4) 5 9 (word_part b p h (omega arith))
    (byte_before b _ (p + 4) (p + 5) 4 (omega arith) (omega arith) (word_part b (p + 5) h (omega arith)))
    refl refl l

no_part : (b : List ℕ) (p : ℕ) → [] ≡ part b p 0
unfolding part
no_part b p = refl

entries_part : (b : List ℕ) (p n : ℕ) → AreBytes b → p + 8 * n ≤ length b → flat_map entry_bytes (map (entry_in_frame b) (entry_places p n)) ≡ part b p (8 * n)
entries_part b p zero h l = no_part b p
entries_part b p (suc n) h l =
    part_behind b _ _ p 8 (p + 8) (8 * n) (8 * suc n) (entry_part b p h (omega arith)) (entries_part b (p + 8) n h (omega arith)) refl (omega arith) l

set_part : (b : List ℕ) (p : ℕ) → AreBytes b → p + set_bytes ≤ length b → byte_form set_bytes (numbers_of (take set_bytes (drop p b))) ≡ part b p set_bytes
unfolding part
set_part b p h l = byte_form-numbers_of (take set_bytes (drop p b)) set_bytes (length_piece b p set_bytes l) (λ k _. AreBytes-take set_bytes (drop p b) (AreBytes-drop p b h) k)

piece_part : (b : List ℕ) (p n : ℕ) → take n (drop p b) ≡ part b p n
unfolding part
piece_part b p n = refl

-- kind and source
head_part : (b : List ℕ) (kind : ℕ) → AreBytes b → 3 ≤ length b → slice_index b 0 ≡ kind → kind ∷ to_be_bytes w16 (half_at b 1) ≡ part b 0 3
head_part b kind h l e = ap (λ x. x ∷ to_be_bytes w16 (half_at b 1)) (sym e) ∙ byte_before b _ 0 1 2 (omega arith) refl (half_part b 1 h (omega arith))

-- an advert of n images
advert_part : (b : List ℕ) (kind n : ℕ) → AreBytes b → length b ≡ order_place n + order_size + 2 → slice_index b 0 ≡ kind
    → advert_bytes kind (half_at b 1) (entries_in n b) (order_at b (order_place n)) ≡ part b 0 (order_place n + order_size)
unfolding entries_in
advert_part b kind n h l e =
    let p = order_place n in
    part_behind b _ _ 0 p p 9 (p + 9)
    (part_behind b _ _ 0 3 3 (8 * n) p (head_part b kind h (omega (arith, l)) e) (entries_part b 3 n h (omega (arith, l))) refl refl (omega (arith, l)))
    (order_part b p h (omega (arith, l))) (omega arith) refl (omega (arith, l))

request_part : (b : List ℕ) → AreBytes b → length b ≡ request_frame_size → slice_index b 0 ≡ request_kind → unchecked (request_in b) ≡ part b 0 17
request_part b h l e =
    part_behind b _ _ 0 10 10 7 17
    (part_behind b _ _ 0 5 5 5 10
    (part_behind b _ _ 0 3 3 2 5 (head_part b request_kind h (omega arith) e) (half_part b 3 h (omega arith)) refl refl (omega arith))
    (byte_before b _ 5 6 4 (omega arith) refl (word_part b 6 h (omega arith))) refl refl (omega arith))
    (byte_before b _ 10 11 6 (omega arith) refl (set_part b 11 h (omega arith))) refl refl (omega arith)

packet_part : (b : List ℕ) → AreBytes b → length b ≡ packet_frame_size → slice_index b 0 ≡ packet_kind → unchecked (packet_in_frame b) ≡ part b 0 33
packet_part b h l e =
    part_behind b _ _ 0 8 8 25 33
    (part_behind b _ _ 0 3 3 5 8 (head_part b packet_kind h (omega arith) e) (byte_before b _ 3 4 4 (omega arith) refl (word_part b 4 h (omega arith))) refl refl (omega arith))
    (byte_before b _ 8 9 24 (omega arith) refl (byte_before b _ 9 10 23 (omega arith) refl (piece_part b 10 23))) refl refl (omega arith)

-- the fields that were read of a frame are spelled by the bytes before its CRC
abbrev SpellsAgain : List ℕ → (ℕ × (List ℕ → Message)) → Type 0
SpellsAgain b k = length b ≡ k.0 → unchecked (k.1 b) ≡ part b 0 (k.0 - 2)

spelled_again : (b : List ℕ) (wide : Bool) (k : ℕ × (List ℕ → Message)) → AreBytes b → kind_of wide (slice_index b 0) ≡ Some k → SpellsAgain b k
spelled_again b wide k h =
    by_kinds wide (slice_index b 0) (SpellsAgain b) (λ e l. advert_part b advert_kind narrow_images h l e) (λ e l. request_part b h l e) (λ e l. packet_part b h l e)
    (λ _ e l. advert_part b wide_kind wide_images h l e) k

front_part : (b : List ℕ) (n : ℕ) → part b 0 n ≡ take n b
unfolding part
front_part b n = refl

-- the bytes before the CRC, and the CRC
with_check : (b u : List ℕ) (n : ℕ) → AreBytes b → length b ≡ n + 2 → u ≡ part b 0 n → half_at b n ≡ crc_of (take n b) → b ≡ u ++ to_be_bytes w16 (crc_of u)
with_check b u n h l e c =
    let same : crc_of u ≡ half_at b n = ap crc_of (e ∙ front_part b n) ∙ sym c in
    sym (part_behind b u (to_be_bytes w16 (crc_of u)) 0 n n 2 (n + 2) e (ap (to_be_bytes w16) same ∙ half_part b n h (omega arith)) (omega arith) refl (omega arith) ∙ part_whole b (n + 2) l)

pub spelled : (b : List ℕ) (wide : Bool) (m : Message) → AreBytes b → IsReading b wide (Ok m) → b ≡ frame_of m
unfolding frame_of
spelled b wide m h r =
    let size = r.0 in
    let k = r.2 in
    let u : unchecked m ≡ part b 0 (size - 2) = ap unchecked r.6 ∙ spelled_again b wide (size, r.1) h k.kind r.3 in
    let long : length b ≡ (size - 2) + 2 = omega (arith, r.3, k.least) in
    let at : length b - 2 ≡ size - 2 = omega (arith, r.3) in
    with_check b (unchecked m) (size - 2) h long u (ap (half_at b) (sym at) ∙ r.4 ∙ ap (λ n. crc_of (take n b)) at)

-- ---- what was read fits the types

length_places : (at n : ℕ) → length (entry_places at n) ≡ n
length_places at zero = refl
length_places at (suc n) = ap suc (length_places (at + entry_size) n)

entries_fit : (b ps : List ℕ) → AreBytes b → AllByRecursion EntryFitsTypes (map (entry_in_frame b) ps)
entries_fit b [] h = tt
entries_fit b (p ∷ ps) h = (record { version = word_small b p h; crc = half_small b (p + 6) h }, entries_fit b ps h)

set_small : (xs : List ℕ) → AllBelow (last_packet + 1) (numbers_of (take set_bytes xs))
set_small xs = AllBelow-packed (last_packet + 1) (take set_bytes xs) _ refl (λ n far. unmarked_past (take set_bytes xs) n (omega (arith, length-take set_bytes xs)))

abbrev FitsAgain : List ℕ → (ℕ × (List ℕ → Message)) → Type 0
FitsAgain b k = length b ≡ k.0 → FitsTypes (k.1 b)

advert_fits : (b : List ℕ) (n : ℕ) → AreBytes b → AdvertFits n (half_at b 1) (entries_in n b) (order_at b (order_place n))
unfolding entries_in
advert_fits b n h =
    (half_small b 1 h, length-map (entry_places first_entry n) (entry_in_frame b) ∙ length_places first_entry n, entries_fit b (entry_places first_entry n) h, word_small b (order_place n) h, word_small b (order_place n + 5) h)

read_fits : (b : List ℕ) (wide : Bool) (k : ℕ × (List ℕ → Message)) → AreBytes b → kind_of wide (slice_index b 0) ≡ Some k → FitsAgain b k
read_fits b wide k h =
    by_kinds wide (slice_index b 0) (FitsAgain b)
    (λ _ l. advert_fits b narrow_images h)
    (λ _ l. (half_small b 1 h, half_small b 3 h, word_small b 6 h, set_small (drop 11 b)))
    (λ _ l. (half_small b 1 h, word_small b 4 h, length_piece b 10 23 (omega arith), AreBytes-take 23 (drop 10 b) (AreBytes-drop 10 b h)))
    (λ _ _ l. advert_fits b wide_images h)
    k

pub fits : (b : List ℕ) (wide : Bool) (m : Message) → AreBytes b → IsReading b wide (Ok m) → FitsTypes m
fits b wide m h r = subst FitsTypes (sym r.6) (read_fits b wide (r.0, r.1) h r.2.kind r.3)

-- ---- what was written is read back

head_bytes : (kind source : ℕ) → kind < 256 → AreBytes (kind ∷ to_be_bytes w16 source)
head_bytes kind source h = AreBytes-cons kind (to_be_bytes w16 source) h (AreBytes-high_first 2 source)

entry_are_bytes : (e : Entry) → entry_fits e ≡ true → AreBytes (entry_bytes e)
entry_are_bytes e h =
    let p : e.pages < 256 = pages_small e h in
    let q : e.have < 256 = have_small e h in
    AreBytes-append (to_be_bytes w32 e.version) (e.pages ∷ e.have ∷ to_be_bytes w16 e.crc) (AreBytes-high_first 4 e.version)
    (AreBytes-cons e.pages (e.have ∷ to_be_bytes w16 e.crc) p (AreBytes-cons e.have (to_be_bytes w16 e.crc) q (AreBytes-high_first 2 e.crc)))
  where
    pages_small : (e : Entry) → entry_fits e ≡ true → e.pages < 256
    pages_small e h = ⊎_elim (λ u. omega (arith, ap (λ (x : Entry). x.pages) u)) (λ (t : TellsVersion e). omega (arith, t.most)) ((entry_decides e).0 h)

    have_small : (e : Entry) → entry_fits e ≡ true → e.have < 256
    have_small e h = ⊎_elim (λ u. omega (arith, ap (λ (x : Entry). x.have) u)) (λ (t : TellsVersion e). omega (arith, t.most, t.have)) ((entry_decides e).0 h)

entries_are_bytes : (es : List Entry) → list_all entry_fits es ≡ true → AreBytes (flat_map entry_bytes es)
entries_are_bytes [] h = AreBytes-nil
entries_are_bytes (e ∷ es) h =
    let both = and_parts (entry_fits e) (list_all entry_fits es) h in
    AreBytes-append (entry_bytes e) (flat_map entry_bytes es) (entry_are_bytes e both.0) (entries_are_bytes es both.1)

order_are_bytes : (images : ℕ) (o : Order) → images < 256 → OrderInRange images o → AreBytes (order_bytes o)
order_are_bytes images o few h =
    let small : o.image < 256 = ⊎_elim (λ u. omega (arith, ap (λ (x : Order). x.image) u)) (λ (t : NamesImage images o). omega (arith, t.image, few)) h in
    AreBytes-append (to_be_bytes w32 o.number) (o.image ∷ to_be_bytes w32 o.version) (AreBytes-high_first 4 o.number) (AreBytes-cons o.image (to_be_bytes w32 o.version) small (AreBytes-high_first 4 o.version))

each_byte : (f : ℕ → ℕ) (xs : List ℕ) → ((x : ℕ) → f x < 256) → AreBytes (map f xs)
each_byte f [] h = AreBytes-nil
each_byte f (x ∷ xs) h = AreBytes-cons (f x) (map f xs) (h x) (each_byte f xs h)

set_are_bytes : (s : Numbers) → AreBytes (byte_form set_bytes s)
unfolding byte_form
set_are_bytes s = each_byte (byte_of s) (range_with_len 0 set_bytes) (byte_of-fits s)

number_bytes : (n byte : ℕ) → byte < 256 → AreBytes (byte ∷ to_be_bytes w32 n)
number_bytes n byte h = AreBytes-cons byte (to_be_bytes w32 n) h (AreBytes-high_first 4 n)

advert_are_bytes : (kind images source : ℕ) (entries : List Entry) (order : Order) → kind < 256 → images < 256 → (list_all entry_fits entries && order_in_frame images order) ≡ true
    → AreBytes (advert_bytes kind source entries order)
advert_are_bytes kind images source entries order small few h =
    let both = and_parts (list_all entry_fits entries) (order_in_frame images order) h in
    AreBytes-append ((kind ∷ to_be_bytes w16 source) ++ flat_map entry_bytes entries) (order_bytes order)
    (AreBytes-append (kind ∷ to_be_bytes w16 source) (flat_map entry_bytes entries) (head_bytes kind source small) (entries_are_bytes entries both.0))
    (order_are_bytes images order few ((order_decides images order).0 both.1))

unchecked_bytes : (wide : Bool) (m : Message) → FitsTypes m → in_range wide m ≡ true → AreBytes (unchecked m)
unfolding in_range
unchecked_bytes wide (Advert source entries order) f h = advert_are_bytes advert_kind narrow_images source entries order (omega arith) (omega arith) h
unchecked_bytes wide (Request source to image version page want) f h =
    let both = and_parts (page_fits (known_images wide) image version page) _ h in
    let p = (page_decides (known_images wide) image version page).0 both.0 in
    AreBytes-append ((request_kind ∷ to_be_bytes w16 source) ++ to_be_bytes w16 to ++ image ∷ to_be_bytes w32 version) (page ∷ byte_form set_bytes want)
    (AreBytes-append ((request_kind ∷ to_be_bytes w16 source) ++ to_be_bytes w16 to) (image ∷ to_be_bytes w32 version)
    (AreBytes-append (request_kind ∷ to_be_bytes w16 source) (to_be_bytes w16 to) (head_bytes request_kind source (omega arith)) (AreBytes-high_first 2 to))
    (number_bytes version image (omega (arith, p.last, known_more wide))))
    (AreBytes-cons page (byte_form set_bytes want) (omega (arith, p.in_object)) (set_are_bytes want))
unchecked_bytes wide (Packet source image version page packet bytes) f h =
    let both = and_parts (page_fits (known_images wide) image version page) (nat_le packet last_packet) h in
    let p = (page_decides (known_images wide) image version page).0 both.0 in
    let q : packet < 256 = omega (arith, leb-true packet last_packet both.1) in
    AreBytes-append ((packet_kind ∷ to_be_bytes w16 source) ++ image ∷ to_be_bytes w32 version) (page ∷ packet ∷ bytes)
    (AreBytes-append (packet_kind ∷ to_be_bytes w16 source) (image ∷ to_be_bytes w32 version) (head_bytes packet_kind source (omega arith)) (number_bytes version image (omega (arith, p.last, known_more wide))))
    (AreBytes-cons page (packet ∷ bytes) (omega (arith, p.in_object)) (AreBytes-cons packet bytes q f.3))
unchecked_bytes wide (Wide source entries order) f h =
    advert_are_bytes wide_kind wide_images source entries order (omega arith) (omega arith) (and_parts wide (list_all entry_fits entries && order_in_frame wide_images order) h).1

-- the CRC after bytes is that of the bytes
checked : (u : List ℕ) → AreBytes u → IsChecked (u ++ to_be_bytes w16 (crc_of u))
checked u h =
    let crc = crc_of u in
    let small : crc < 2 ^ 16 = crc_more-lt 0 u (omega arith) (All-from_AreBytes u h) in
    let at : length (u ++ to_be_bytes w16 crc) - 2 ≡ length u = omega (arith, length-append u (to_be_bytes w16 crc)) in
    let front : take (length (u ++ to_be_bytes w16 crc) - 2) (u ++ to_be_bytes w16 crc) ≡ u = ap (λ n. take n (u ++ to_be_bytes w16 crc)) at ∙ take_at u (to_be_bytes w16 crc) (length u) refl in
    let back : drop (length (u ++ to_be_bytes w16 crc) - 2) (u ++ to_be_bytes w16 crc) ≡ to_be_bytes w16 crc = ap (λ n. drop n (u ++ to_be_bytes w16 crc)) at ∙ drop_at u (to_be_bytes w16 crc) (length u) refl in
    ap (λ xs. from_be_bytes w16 (take 2 xs)) back ∙ from_be_bytes-to_be_bytes_2 crc small ∙ sym (ap crc_of front)

entry_read : (b rest : List ℕ) (p : ℕ) (e : Entry) → EntryFitsTypes e → drop p b ≡ entry_bytes e ++ rest → entry_in_frame b p ≡ e
entry_read b rest p e f d =
    let version : word_in b p ≡ e.version = ap (λ xs. from_be_bytes w32 (take 4 xs)) d ∙ from_be_bytes-to_be_bytes_4 e.version f.version in
    let pages : slice_index b (p + 4) ≡ e.pages = sym (get_or-drop p b 4 0) ∙ ap (λ xs. get_or xs 4 0) d in
    let have : slice_index b (p + 5) ≡ e.have = sym (get_or-drop p b 5 0) ∙ ap (λ xs. get_or xs 5 0) d in
    let crc : half_at b (p + 6) ≡ e.crc = ap (λ xs. from_be_bytes w16 (take 2 xs)) (sym (drop-drop 6 p b) ∙ ap (drop 6) d) ∙ from_be_bytes-to_be_bytes_2 e.crc f.crc in
    λ i. record { version = version i; pages = pages i; have = have i; crc = crc i }

order_read : (b rest : List ℕ) (p : ℕ) (o : Order) → o.number < 2 ^ 32 → o.version < 2 ^ 32 → drop p b ≡ order_bytes o ++ rest → order_at b p ≡ o
order_read b rest p o n v d =
    let number : word_in b p ≡ o.number = ap (λ xs. from_be_bytes w32 (take 4 xs)) d ∙ from_be_bytes-to_be_bytes_4 o.number n in
    let image : slice_index b (p + 4) ≡ o.image = sym (get_or-drop p b 4 0) ∙ ap (λ xs. get_or xs 4 0) d in
    let version : word_in b (p + 5) ≡ o.version = ap (λ xs. from_be_bytes w32 (take 4 xs)) (sym (drop-drop 5 p b) ∙ ap (drop 5) d) ∙ from_be_bytes-to_be_bytes_4 o.version v in
    λ i. record { number = number i; image = image i; version = version i }

length_entries : (es : List Entry) → length (flat_map entry_bytes es) ≡ 8 * length es
length_entries [] = refl
length_entries (e ∷ es) = length-append (entry_bytes e) (flat_map entry_bytes es) ∙ omega (arith, length_entries es)

entries_read : (b rest : List ℕ) (p : ℕ) (es : List Entry) → AllByRecursion EntryFitsTypes es → drop p b ≡ flat_map entry_bytes es ++ rest → map (entry_in_frame b) (entry_places p (length es)) ≡ es
entries_read b rest p [] f d = refl
entries_read b rest p (e ∷ es) f d =
    let here : drop p b ≡ entry_bytes e ++ (flat_map entry_bytes es ++ rest) = d ∙ append_assoc (entry_bytes e) (flat_map entry_bytes es) rest in
    let there : drop (p + 8) b ≡ flat_map entry_bytes es ++ rest = sym (drop-drop 8 p b) ∙ ap (drop 8) here in
    let first = entry_read b (flat_map entry_bytes es ++ rest) p e f.0 here in
    let others = entries_read b rest (p + 8) es f.1 there in
    λ i. first i ∷ others i

-- a message is read from its bytes, whatever follows them
abbrev IsReadBack : (wide : Bool) → Message → (ℕ × (List ℕ → Message)) → Type 0
IsReadBack wide m k = (rest : List ℕ) → (kind_of wide (slice_index (unchecked m ++ rest) 0) ≡ Some k) × (length (unchecked m) + 2 ≡ k.0) × (k.1 (unchecked m ++ rest) ≡ m)

-- the fields of an advert
record AdvertBack (kind n source : ℕ) (entries : List Entry) (order : Order) (rest : List ℕ) : Type 0 where
  long : length (advert_bytes kind source entries order) ≡ order_place n + order_size
  from : half_at (advert_bytes kind source entries order ++ rest) 1 ≡ source
  told : entries_in n (advert_bytes kind source entries order ++ rest) ≡ entries
  of : order_at (advert_bytes kind source entries order ++ rest) (order_place n) ≡ order

advert_fields : (kind n source : ℕ) (entries : List Entry) (order : Order) (rest : List ℕ) → AdvertFits n source entries order → AdvertBack kind n source entries order rest
unfolding entries_in
advert_fields kind n source entries order rest f =
    let u = advert_bytes kind source entries order in
    let head = kind ∷ to_be_bytes w16 source in
    let many : length (flat_map entry_bytes entries) ≡ 8 * n = length_entries entries ∙ ap (λ c. 8 * c) f.1 in
    let d : drop 3 (u ++ rest) ≡ flat_map entry_bytes entries ++ (order_bytes order ++ rest) = append_assoc (flat_map entry_bytes entries) (order_bytes order) rest in
    let p : order_place n ≡ 8 * n + 3 = omega arith in
    let last : drop (order_place n) (u ++ rest) ≡ order_bytes order ++ rest =
    ap (λ k. drop k (u ++ rest)) (omega arith) ∙ sym (drop-drop (8 * n) 3 (u ++ rest)) ∙ ap (drop (8 * n)) d ∙ drop_at (flat_map entry_bytes entries) (order_bytes order ++ rest) (8 * n) many in
    record {
      long = omega (arith, many, length-append (head ++ flat_map entry_bytes entries) (order_bytes order), length-append head (flat_map entry_bytes entries));
      from = from_be_bytes-to_be_bytes_2 source f.0;
      told = ap (λ k. map (entry_in_frame (u ++ rest)) (entry_places first_entry k)) (sym f.1) ∙ entries_read (u ++ rest) (order_bytes order ++ rest) 3 entries f.2 d;
      of = order_read (u ++ rest) rest (order_place n) order f.3 f.4 last;
    }

advert_back : (wide : Bool) (source : ℕ) (entries : List Entry) (order : Order) → FitsTypes (Advert source entries order) → IsReadBack wide (Advert source entries order) (advert_frame_size, advert_in)
advert_back wide source entries order f rest =
    let back = advert_fields advert_kind narrow_images source entries order rest f in
    (refl, omega (arith, back.long), λ i. Advert (back.from i) (back.told i) (back.of i))

wide_back : (source : ℕ) (entries : List Entry) (order : Order) → FitsTypes (Wide source entries order) → IsReadBack true (Wide source entries order) (wide_frame_size, wide_in)
wide_back source entries order f rest =
    let back = advert_fields wide_kind wide_images source entries order rest f in
    (refl, omega (arith, back.long), λ i. Wide (back.from i) (back.told i) (back.of i))

request_back : (wide : Bool) (source to image version page : ℕ) (want : Numbers) → FitsTypes (Request source to image version page want) → IsReadBack wide (Request source to image version page want) (request_frame_size, request_in)
request_back wide source to image version page want f rest =
    let u = unchecked (Request source to image version page want) in
    let s : half_at (u ++ rest) 1 ≡ source = from_be_bytes-to_be_bytes_2 source f.0 in
    let t : half_at (u ++ rest) 3 ≡ to = from_be_bytes-to_be_bytes_2 to f.1 in
    let v : word_in (u ++ rest) 6 ≡ version = from_be_bytes-to_be_bytes_4 version f.2 in
    let w : numbers_of (take set_bytes (drop 11 (u ++ rest))) ≡ want =
    ap numbers_of (take_at (byte_form set_bytes want) rest set_bytes (length-byte_form set_bytes want)) ∙ numbers_of-byte_form set_bytes want f.3 in
    (refl, omega (arith, length-byte_form set_bytes want), λ i. Request (s i) (t i) image (v i) page (w i))

packet_back : (wide : Bool) (source image version page packet : ℕ) (bytes : List ℕ) → FitsTypes (Packet source image version page packet bytes) → IsReadBack wide (Packet source image version page packet bytes) (packet_frame_size, packet_in_frame)
packet_back wide source image version page packet bytes f rest =
    let u = unchecked (Packet source image version page packet bytes) in
    let s : half_at (u ++ rest) 1 ≡ source = from_be_bytes-to_be_bytes_2 source f.0 in
    let v : word_in (u ++ rest) 4 ≡ version = from_be_bytes-to_be_bytes_4 version f.1 in
    let x : take packet_size (drop 10 (u ++ rest)) ≡ bytes = take_at bytes rest packet_size f.2 in
    (refl, omega (arith, f.2), λ i. Packet (s i) image (v i) page packet (x i))

-- the row of the table by which a message is written
abbrev row : Message → ℕ × (List ℕ → Message)
row (Advert source entries order) = (advert_frame_size, advert_in)
row (Request source to image version page want) = (request_frame_size, request_in)
row (Packet source image version page packet bytes) = (packet_frame_size, packet_in_frame)
row (Wide source entries order) = (wide_frame_size, wide_in)

read_back : (wide : Bool) (m : Message) → FitsTypes m → IsInRange wide m → IsReadBack wide m (row m)
read_back wide (Advert source entries order) f h = advert_back wide source entries order f
read_back wide (Request source to image version page want) f h = request_back wide source to image version page want f
read_back wide (Packet source image version page packet bytes) f h = packet_back wide source image version page packet bytes f
read_back wide (Wide source entries order) f h = subst (λ w. IsReadBack w (Wide source entries order) (wide_frame_size, wide_in)) (sym h.0) (wide_back source entries order f)

long_enough : (m : Message) → shortest ≤ (row m).0
long_enough (Advert source entries order) = omega arith
long_enough (Request source to image version page want) = omega arith
long_enough (Packet source image version page packet bytes) = omega arith
long_enough (Wide source entries order) = omega arith

pub written : (wide : Bool) (m : Message) → FitsTypes m → in_range wide m ≡ true → IsReading (frame_of m) wide (Ok m)
unfolding frame_of
written wide m f h =
    let u = unchecked m in
    let c = to_be_bytes w16 (crc_of u) in
    let fit = (ranges wide m).0 h in
    let back = read_back wide m f fit c in
    let long : length (u ++ c) ≡ (row m).0 = length-append u c ∙ back.1 in
    let enough : shortest ≤ length (u ++ c) = omega (arith, long_enough m) in
    ((row m).0, (row m).1, record { least = enough; kind = back.0 }, long, checked u (unchecked_bytes wide m f h), fit, sym back.2)

-- What the pages of an image say of it.
use Rattle.std.proofs.Common.{◌≡◌, ℕ, suc, ◌+◌, ◌-◌, ◌*◌, ◌<◌, ◌≤◌, IsTrue, Bool, true, false, List, [], ◌∷◌, ◌++◌, map, length, take, drop, get_or, refl, sym, ap, subst, ◌∙◌, arith, append_assoc, length-append, length-take}
use Rattle.std.specs.Prelude.{not, ◌==◌, take_while}
use Rattle.std.specs.List.{prefix_len, flat_map, range_with_len}
use Rattle.std.proofs.lemmas.List.{append-nil, take_all, drop-take, take-take}
use Rattle.std.proofs.lemmas.List.Sums.{prefix_len-le-length, prefix_len_passes, prefix_len_stops}
use Rattle.std.proofs.lemmas.List.Concat.{flat_map-cons}
use Rattle.std.proofs.lemmas.Bool.Decides.{nat_tests}
use Rattle.dg_words.specs.Cells.{part}
use Rattle.dg_words.specs.Lists.{padded, concatenated, tabulate}
use Rattle.dg_words.proofs.CellLemmas.{part-append-part, length-part}
use Rattle.dg_words.proofs.ListLemmas.{length-padded, flat_map-range_more}
use Rattle.dg_base.specs.Texts.{spells_name}
use Rattle.dg_object.specs.Sizes.{page_size, packet_size, head_size}
use Rattle.dg_object.specs.Descriptor.{Details, IsDescriptor, details}
use Rattle.dg_object.specs.Object.{Row, IsRow, object, content, page_of_row, descriptor_page, pages_for}
use Rattle.dg_object.proofs.NameLemmas.{name_is_front, names-fits}
use Rattle.dg_object.proofs.HeadLemmas.{head_name, one_head}
use Rattle.dg_object.proofs.RowLemmas.{content-object, get_or-object, descriptor_of_row, pages_for-some}
use Rattle.dg_slot.proofs.PageLemmas.{part_none}
use Rattle.dg_slot.specs.Layout.{page_sector}
use Rattle.dg_slot.specs.Kept.{Held, KeepsImage}
use Rattle.dg_slot.specs.Pages.{page_in}
use Rattle.dg_volume.specs.Start.{length_in}
use Rattle.dg_volume.specs.Store.{held_whole}
use Rattle.dg_boot.proofs.DescriptorLemmas.{length_in-descriptor, first_of}
use Rattle.dg_tool.specs.Pages.{name_in, first_page, image_bytes}

-- ---- names

zero_fails : (c : ℕ) → c ≡ 0 → not (c == 0) ≡ true → ⊥
zero_fails c e h = grind (arith, nat_tests)

fails_zero : (c : ℕ) → not (c == 0) ≡ false → c ≡ 0
fails_zero c h = grind (arith, nat_tests)

until_zero : (field n : List ℕ) → IsTrue (spells_name n) → field ≡ padded 16 0 n → length field ≡ 16 → take_while (λ c. not (c == 0)) field ≡ n
until_zero field n h is long =
    let passes : ℕ → Bool = λ c. not (c == 0) in
    name_is_front field n (prefix_len passes field) h is long (prefix_len-le-length passes field)
    (λ j low e. zero_fails (get_or field j 0) e (prefix_len_passes passes field j 0 low))
    (λ low. fails_zero (get_or field (prefix_len passes field) 0) (prefix_len_stops passes field 0 low))

-- the cells from b to a + b stand within the first c
take-drop-take : (xs : List ℕ) (a b c : ℕ) → a + b ≤ c → take a (drop b (take c xs)) ≡ take a (drop b xs)
take-drop-take xs a b c h =
    let place : b + (c - b) ≡ c = omega (arith, h) in
    ap (λ n. take a (drop b (take n xs))) (sym place) ∙ ap (take a) (drop-take b (c - b) xs) ∙ take-take a (c - b) (drop b xs) (omega (arith, h))

-- the name stands in bytes 12 to 27 of a descriptor
pub name_in-descriptor : (page : List ℕ) (d : Details) → IsDescriptor page d → name_in page ≡ d.name
unfolding name_in
name_in-descriptor page d described =
    let fits : length d.name ≤ 16 = names-fits d.name described.head.range.name in
    let long : length (padded 16 0 d.name) ≡ 16 = length-padded 16 0 d.name fits in
    let field : take 16 (drop 12 page) ≡ padded 16 0 d.name =
    sym (take-drop-take page 16 12 head_size (omega arith)) ∙ ap (take 16) (head_name described.head) ∙ take_all 16 (padded 16 0 d.name) (omega arith) in
    until_zero (take 16 (drop 12 page)) d.name described.head.range.name field (ap length field ∙ long)

-- ---- what is kept

pub first_kept : (c : List ℕ) (image : ℕ) (h : Held) → KeepsImage c image h → 0 < length h.complete → first_page h ≡ page_in c (page_sector image 0)
first_kept c image h keeps some = ap (λ (ps : List (List ℕ)). get_or ps 0 []) keeps.stored ∙ first_of (λ p. page_in c (page_sector image p)) (length h.complete) some

-- a descriptor has the name, the length and the page count of what is kept
pub first_tells : (c : List ℕ) (image k : ℕ) (h : Held) (d : Details) → k ≡ page_sector image 0 → IsDescriptor (page_in c k) d → KeepsImage c image h → 0 < length h.complete → (d.name ≡ name_in (first_page h)) × (d.length ≡ length_in (first_page h)) × (pages_for d.length ≡ h.pages)
first_tells c image k h d at described keeps some =
    let first : first_page h ≡ page_in c k = first_kept c image h keeps some ∙ ap (λ (n : ℕ). page_in c n) (sym at) in
    let has = (keeps.first some).described in
    let other : IsDescriptor (page_in c k) has.0 = subst (λ (n : ℕ). IsDescriptor (page_in c n) has.0) (sym at) has.1 in
    let same : d ≡ has.0 = one_head (take head_size (page_in c k)) d has.0 described.head other.head in (
      sym (name_in-descriptor (page_in c k) d described) ∙ ap name_in (sym first),
      sym (length_in-descriptor (page_in c k) d described) ∙ ap length_in (sym first),
      sym described.head.range.pages ∙ ap (λ (x : Details). x.pages) same ∙ has.4,
    )

-- the descriptor of what is kept stands there
pub first_described : (c : List ℕ) (image k : ℕ) (h : Held) → k ≡ page_sector image 0 → KeepsImage c image h → 0 < length h.complete → (d : Details) × IsDescriptor (page_in c k) d
first_described c image k h at keeps some =
    let has = (keeps.first some).described in
    (has.0, subst (λ (n : ℕ). IsDescriptor (page_in c n) has.0) (sym at) has.1)

joined-map : (f : ℕ → List ℕ) (xs : List ℕ) → concatenated (map f xs) ≡ flat_map f xs
joined-map f [] = refl
joined-map f (x ∷ xs) = flat_map-cons (λ (ys : List ℕ). ys) (f x) (map f xs) ∙ ap (λ t. f x ++ t) (joined-map f xs) ∙ sym (flat_map-cons f x xs)

data_table : (f : ℕ → List ℕ) (n m : ℕ) → n ≡ suc m → concatenated (drop 1 (tabulate n f)) ≡ flat_map f (range_with_len 1 m)
data_table f n m e = ap (λ (k : ℕ). concatenated (drop 1 (tabulate k f))) e ∙ joined-map f (range_with_len 1 m)

-- the data pages that are kept
pub data_kept : (c : List ℕ) (image : ℕ) (h : Held) (m : ℕ) → KeepsImage c image h → length h.complete ≡ suc m → concatenated (drop 1 h.complete) ≡ flat_map (λ p. page_in c (page_sector image p)) (range_with_len 1 m)
data_kept c image h m keeps count =
    ap (λ (ps : List (List ℕ)). concatenated (drop 1 ps)) keeps.stored ∙ data_table (λ p. page_in c (page_sector image p)) (length h.complete) m count

-- ---- reading

-- no packet yet
pub packet_none : (first cells : List ℕ) → first ≡ first ++ part cells 0 (packet_size * 0)
packet_none first cells =
    let none : packet_size * 0 ≡ 0 = omega arith in
    sym (ap (λ (n : ℕ). first ++ part cells 0 n) none ∙ ap (λ (x : List ℕ). first ++ x) (part_none cells 0) ∙ append-nil first)

-- one packet more of a page
pub packet_more : (first before now cells again : List ℕ) (q : ℕ) → before ≡ first ++ part cells 0 (packet_size * q) → again ≡ cells → now ≡ before ++ part again (packet_size * q) packet_size → packet_size * (q + 1) ≤ length cells → now ≡ first ++ part cells 0 (packet_size * (q + 1))
packet_more first before now cells again q e same more within =
    let sum : packet_size * q + packet_size ≡ packet_size * (q + 1) = omega arith in
    let shift : packet_size * q ≡ 0 + packet_size * q = omega arith in
    more
    ∙ ap (λ (x : List ℕ). before ++ part x (packet_size * q) packet_size) same
    ∙ ap (λ (x : List ℕ). x ++ part cells (packet_size * q) packet_size) e
    ∙ append_assoc first (part cells 0 (packet_size * q)) (part cells (packet_size * q) packet_size)
    ∙ ap (λ (n : ℕ). first ++ (part cells 0 (packet_size * q) ++ part cells n packet_size)) shift
    ∙ ap (λ (x : List ℕ). first ++ x) (part-append-part cells 0 (packet_size * q) packet_size (omega (arith, within)))
    ∙ ap (λ (n : ℕ). first ++ part cells 0 n) sum

-- a page adds `page_size` bytes
pub page_grown : (before now cells : List ℕ) → page_size ≤ length cells → now ≡ before ++ part cells 0 page_size → length now ≡ length before + page_size
page_grown before now cells long e = ap length e ∙ length-append before (part cells 0 page_size) ∙ ap (λ (n : ℕ). length before + n) (length-part cells 0 page_size (omega (arith, long)))

-- one page more
pub page_more : (f g : ℕ → List ℕ) (before now : List ℕ) (n k : ℕ) → before ≡ flat_map f (range_with_len 1 n) → g k ≡ f k → k ≡ 1 + n → now ≡ before ++ g k → now ≡ flat_map f (range_with_len 1 (n + 1))
page_more f g before now n k e same at more =
    let count : suc n ≡ n + 1 = omega arith in
    more
    ∙ ap (λ (x : List ℕ). x ++ g k) e
    ∙ ap (λ (x : List ℕ). flat_map f (range_with_len 1 n) ++ x) (same ∙ ap f at)
    ∙ flat_map-range_more f 1 n
    ∙ ap (λ (m : ℕ). flat_map f (range_with_len 1 m)) count

-- ---- an image that is kept whole

pub first_whole : (row : Row) → IsRow row → first_page (held_whole row) ≡ descriptor_page row
unfolding padded page_of_row
first_whole row is = get_or-object row 0 [] (omega (arith, pages_for-some (length row.bytes) is.some))

pub name_whole : (row : Row) → IsRow row → name_in (first_page (held_whole row)) ≡ row.name
name_whole row is = ap name_in (first_whole row is) ∙ name_in-descriptor (descriptor_page row) (details row) (descriptor_of_row row is)

pub length_whole : (row : Row) → IsRow row → length_in (first_page (held_whole row)) ≡ length row.bytes
length_whole row is = ap length_in (first_whole row is) ∙ length_in-descriptor (descriptor_page row) (details row) (descriptor_of_row row is)

pub bytes_whole : (row : Row) → IsRow row → image_bytes (held_whole row) ≡ row.bytes
bytes_whole row is = ap (λ (n : ℕ). content n (object row)) (length_whole row is) ∙ content-object row

-- the bytes that are left of the data pages
pub bytes_some : (read : List ℕ) (pages len : ℕ) → length read ≡ page_size * (pages - 1) → pages_for len ≡ pages → 1 ≤ len → 1 ≤ length (take len read)
bytes_some read pages len count e some = let n = length-take len read in omega (arith, n, count, e, some)

-- How the pages of an object are put together.
use Rattle.std.proofs.Common.{◌≡◌, ℕ, ◌+◌, ◌-◌, ◌*◌, ◌≤◌, suc, zero, min, List, [], ◌++◌, length, take, drop, replicate, refl, sym, ap, ◌∙◌, arith, append_assoc, length-append}
use Rattle.std.specs.List.{flat_map, range_with_len}
use Rattle.std.specs.Int.{to_be_bytes, w16}
use Rattle.std.proofs.lemmas.List.{take_rest, drop_min, take_min, drop-replicate}
use borrow.Rule.Slice.PartMut.{put_mid}
use Rattle.dg_words.specs.Lists.{padded}
use Rattle.dg_words.proofs.ListLemmas.{padded_none, padded-append, length-padded, flat_map-range_more}
use Rattle.dg_base.specs.Crc.{crc_of, crc_more}
use Rattle.dg_base.proofs.CrcLemmas.{crc_more-append}
use Rattle.dg_object.specs.Object.{Row, data_page, head_of, crcs_to, descriptor_page, page_of_row}

-- at most n bytes from place k on, where bounds are cut to the length
pub held_part : (n k i j : ℕ) (xs : List ℕ) → i ≡ min k (length xs) → j ≡ min (length (take (length xs - i) (drop i xs))) n → take j (take (length xs - i) (drop i xs)) ≡ take n (drop k xs)
held_part n k i j xs e f =
    ap (λ (m : ℕ). take m (take (length xs - i) (drop i xs))) (f ∙ turned (length (take (length xs - i) (drop i xs))))
    ∙ take_min n (take (length xs - i) (drop i xs))
    ∙ ap (λ (ys : List ℕ). take n ys) (take_rest xs i ∙ ap (λ (m : ℕ). drop m xs) e ∙ drop_min k xs)
  where
    turned : (m : ℕ) → min m n ≡ min n m
    turned m = omega arith

-- a piece that is put after the bytes of a filled page
pub put_piece : (n x at j : ℕ) (page front piece copied : List ℕ) → length front ≡ at → j ≡ length piece → page ≡ padded n x front → copied ≡ piece → put_mid at j page copied ≡ padded n x (front ++ piece)
put_piece n x at j page front piece copied e f was is =
    ap (λ (zs : List ℕ). put_mid at j zs copied) was
    ∙ ap (λ (zs : List ℕ). put_mid at j (padded n x front) zs) is
    ∙ padded-append n x at j front piece e (sym f)

pub crc_of-append : (xs ys : List ℕ) → crc_of (xs ++ ys) ≡ crc_more (crc_of xs) ys
crc_of-append xs ys = sym (crc_more-append 0 xs ys)

-- what is left of a blank page
pub blank_rest : (n x h : ℕ) (blank : List ℕ) → blank ≡ padded n x [] → take (length blank - h) (drop h blank) ≡ replicate (n - h) x
blank_rest n x h blank e = take_rest blank h ∙ ap (λ (zs : List ℕ). drop h zs) (e ∙ padded_none n x) ∙ drop-replicate h n x

-- the CRC of a filled page, of its bytes and then of the filling
pub crc_of-padded : (n x : ℕ) (xs : List ℕ) → crc_of (padded n x xs) ≡ crc_more (crc_of xs) (replicate (n - length xs) x)
unfolding padded
crc_of-padded n x xs = crc_of-append xs (replicate (n - length xs) x)

-- the CRC of bytes, continued over what is left of a blank page after them
pub filled_crc : (n x crc : ℕ) (held blank : List ℕ) → length held ≤ n → crc ≡ crc_of held → blank ≡ padded n x [] → crc_more crc (take (n - length held) (drop (length held) blank)) ≡ crc_of (padded n x held)
filled_crc n x crc held blank fits e b =
    ap (λ (m : ℕ). crc_more crc (take (m - length held) (drop (length held) blank))) (sym whole)
    ∙ ap (λ (zs : List ℕ). crc_more crc zs) (blank_rest n x (length held) blank b)
    ∙ ap (λ (m : ℕ). crc_more m (replicate (n - length held) x)) e
    ∙ sym (crc_of-padded n x held)
  where
    whole : length blank ≡ n
    whole = ap length b ∙ length-padded n x [] (omega arith)

pub length-head_of : (image pages version len : ℕ) (name : List ℕ) → length name ≤ 16 → length (head_of image pages version len name) ≡ 28
length-head_of image pages version len name h = let filled = length-padded 16 0 name h in omega arith

pub length-crcs_to : (bytes : List ℕ) (n : ℕ) → length (crcs_to bytes n) ≡ 2 * n
length-crcs_to bytes n = pairs 1 n
  where
    pairs : (a n : ℕ) → length (flat_map (λ p. to_be_bytes w16 (crc_of (data_page bytes p))) (range_with_len a n)) ≡ 2 * n
    pairs a zero = refl
    pairs a (suc n) = let more = pairs (a + 1) n in omega arith

-- the next CRC after those before it
pub crcs_more : (bytes head piece : List ℕ) (p : ℕ) → 1 ≤ p → piece ≡ to_be_bytes w16 (crc_of (data_page bytes p)) → (head ++ crcs_to bytes (p - 1)) ++ piece ≡ head ++ crcs_to bytes (p + 1 - 1)
crcs_more bytes head piece p h e =
    append_assoc head (crcs_to bytes (p - 1)) piece
    ∙ ap (λ (zs : List ℕ). head ++ zs) (ap (λ (zs : List ℕ). crcs_to bytes (p - 1) ++ zs) (e ∙ ap crc_bytes place) ∙ flat_map-range_more crc_bytes 1 (p - 1) ∙ ap (λ (n : ℕ). crcs_to bytes n) count)
  where
    crc_bytes : ℕ → List ℕ
    crc_bytes q = to_be_bytes w16 (crc_of (data_page bytes q))

    place : p ≡ 1 + (p - 1)
    place = omega arith

    count : suc (p - 1) ≡ p + 1 - 1
    count = omega arith

-- the length of a descriptor up to the CRCs of n pages
pub length-descriptor : (image pages version len n : ℕ) (name bytes : List ℕ) → length name ≤ 16 → length (head_of image pages version len name ++ crcs_to bytes n) ≡ 28 + 2 * n
length-descriptor image pages version len n name bytes h =
    length-append (head_of image pages version len name) (crcs_to bytes n)
    ∙ ap (λ m. m + length (crcs_to bytes n)) (length-head_of image pages version len name h)
    ∙ ap (λ m. 28 + m) (length-crcs_to bytes n)

pub page_of_row-first : (row : Row) (p : ℕ) → p ≡ 0 → page_of_row row p ≡ descriptor_page row
unfolding page_of_row
page_of_row-first row p e = ap (page_of_row row) e

pub page_of_row-data : (row : Row) (p : ℕ) → 1 ≤ p → page_of_row row p ≡ data_page row.bytes p
unfolding page_of_row
page_of_row-data row zero h = absurd (omega arith)
page_of_row-data row (suc k) h = refl

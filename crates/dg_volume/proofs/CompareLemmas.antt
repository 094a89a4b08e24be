-- A page that is compared packet by packet.
use Rattle.std.proofs.Common.{◌≡◌, ℕ, zero, suc, ◌+◌, ◌-◌, ◌*◌, ◌<◌, ◌≤◌, Bool, true, false, List, [], ◌∷◌, ◌++◌, take, drop, length, refl, sym, ap, ◌∙◌, arith}
use Rattle.std.specs.Cmp.Lexicographic.{same_text, other_text}
use Rattle.std.proofs.Math.Seq.{take-add}
use Rattle.std.proofs.lemmas.List.{drop-take}
use Rattle.dg_words.specs.Cells.{part}
use Rattle.dg_words.proofs.CellLemmas.{part_whole}
use Rattle.dg_slot.specs.Layout.{page_size, packets, packet_size}
use Rattle.dg_volume.specs.Changes.{same_bytes}
use Rattle.dg_volume.specs.Filling.{packet_of}

-- ---- the test

same_by : (xs ys : List ℕ) (b : Bool) → b ≡ same_bytes xs ys → xs ≡ ys → b ≡ true
same_by xs ys true told e = refl
same_by xs ys false told e = absurd (other_text xs ys told e)

other_by : (xs ys : List ℕ) (b : Bool) → b ≡ same_bytes xs ys → (xs ≡ ys → ⊥) → b ≡ false
other_by xs ys false told other = refl
other_by xs ys true told other = absurd (other (same_text xs ys told))

pub bytes_same : (xs ys : List ℕ) → xs ≡ ys → same_bytes xs ys ≡ true
bytes_same xs ys e = same_by xs ys (same_bytes xs ys) refl e

pub bytes_other : (xs ys : List ℕ) → (xs ≡ ys → ⊥) → same_bytes xs ys ≡ false
bytes_other xs ys other = other_by xs ys (same_bytes xs ys) refl other

-- ---- packets of two lists

front_same : (xs ys : List ℕ) (n : ℕ) → ((q : ℕ) → q < n → part xs (packet_size * q) packet_size ≡ part ys (packet_size * q) packet_size) → take (packet_size * n) xs ≡ take (packet_size * n) ys
unfolding part
front_same xs ys zero each = refl
front_same xs ys (suc n) each =
    let m = packet_size * n in
    let more : packet_size * suc n ≡ m + packet_size = omega arith in
    let before : take m xs ≡ take m ys = front_same xs ys n (λ q h. each q (omega arith)) in
    let here : take packet_size (drop m xs) ≡ take packet_size (drop m ys) = each n (omega arith) in
    ap (λ (k : ℕ). take k xs) more ∙ take-add m packet_size xs ∙ ap (λ (l : List ℕ). l ++ take packet_size (drop m xs)) before ∙ ap (λ (l : List ℕ). take m ys ++ l) here
    ∙ sym (take-add m packet_size ys) ∙ ap (λ (k : ℕ). take k ys) (sym more)

pub page_same : (cells page : List ℕ) → length page ≡ page_size → ((q : ℕ) → q < packets → part cells (packet_size * q) packet_size ≡ packet_of page q) → part cells 0 page_size ≡ page
unfolding part
page_same cells page long each = front_same cells page packets each ∙ part_whole page page_size long

-- the first k of the first m
front_front : (k m : ℕ) (xs : List ℕ) → k ≤ m → take k (take m xs) ≡ take k xs
front_front zero m xs h = refl
front_front (suc k) zero xs h = absurd (omega (arith, h))
front_front (suc k) (suc m) [] h = refl
front_front (suc k) (suc m) (x ∷ xs) h = ap (λ (l : List ℕ). x ∷ l) (front_front k m xs (omega (arith, h)))

pub packet_same : (cells page : List ℕ) (q : ℕ) → q < packets → part cells 0 page_size ≡ page → part cells (packet_size * q) packet_size ≡ packet_of page q
unfolding part
packet_same cells page q known e =
    let n = packet_size * q in
    let d = page_size - n - packet_size in
    let m : n + (packet_size + d) ≡ page_size = omega arith in
    sym (front_front packet_size (packet_size + d) (drop n cells) (omega arith))
    ∙ ap (take packet_size) (sym (drop-take n (packet_size + d) cells))
    ∙ ap (λ (k : ℕ). take packet_size (drop n (take k cells))) m
    ∙ ap (λ (l : List ℕ). take packet_size (drop n l)) e

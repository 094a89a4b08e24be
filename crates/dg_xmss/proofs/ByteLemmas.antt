-- Small numbers as bytes, addresses, masks, and parts of a signature.
use Rattle.std.proofs.Common.{◌≡◌, ℕ, zero, suc, ◌+◌, ◌-◌, ◌/◌, ◌%◌, ◌<◌, ◌≤◌, List, [], ◌∷◌, ◌++◌, length, take, drop, get_or, set, refl, ap, sym, ◌∙◌, arith, append_assoc, below_more, bit_xor}
use Rattle.std.proofs.lemmas.List.{get_or-set_same, get_or-set_other, ext_get_or}
use Rattle.dg_words.specs.Cells.{part}
use Rattle.dg_words.proofs.CellLemmas.{between-part, get_or-part}
use Rattle.dg_xmss.specs.Functions.{to_byte, xor}
use Rattle.dg_xmss.specs.Addresses.{address}

pub to_byte-small : (x y : ℕ) → x < 256 → to_byte x (suc y) ≡ to_byte 0 y ++ x ∷ []
unfolding to_byte
to_byte-small x y h =
    let none : x / 256 ≡ 0 = omega arith in
    let same : x % 256 ≡ x = omega arith in
    ap (λ (q : ℕ). to_byte q y ++ (x % 256) ∷ []) none ∙ ap (λ (r : ℕ). to_byte 0 y ++ r ∷ []) same

pub to_byte-short : (x y : ℕ) → x < 65536 → to_byte x (suc (suc y)) ≡ to_byte 0 y ++ (x / 256) ∷ (x % 256) ∷ []
unfolding to_byte
to_byte-short x y h =
    let low : x / 256 < 256 = omega arith in
    ap (λ (bs : List ℕ). bs ++ (x % 256) ∷ []) (to_byte-small (x / 256) y low)
    ∙ append_assoc (to_byte 0 y) ((x / 256) ∷ []) ((x % 256) ∷ [])

small_word : (x : ℕ) → x < 256 → to_byte x 4 ≡ 0 ∷ 0 ∷ 0 ∷ x ∷ []
unfolding to_byte
small_word x h = to_byte-small x 3 h

short_word : (x up low : ℕ) → x < 65536 → up ≡ x / 256 → low ≡ x % 256 → to_byte x 4 ≡ 0 ∷ 0 ∷ up ∷ low ∷ []
unfolding to_byte
short_word x up low h e f =
    to_byte-short x 2 h
    ∙ ap (λ (b : ℕ). 0 ∷ 0 ∷ b ∷ (x % 256) ∷ []) (sym e)
    ∙ ap (λ (b : ℕ). 0 ∷ 0 ∷ up ∷ b ∷ []) (sym f)

-- the address, with its five words as bytes
abbrev with_words : (v w x y z : List ℕ) → List ℕ
with_words v w x y z = to_byte 0 4 ++ to_byte 0 8 ++ v ++ w ++ x ++ y ++ z

words_are : (v v' w w' x x' y y' z z' : List ℕ) → v ≡ v' → w ≡ w' → x ≡ x' → y ≡ y' → z ≡ z' → with_words v w x y z ≡ with_words v' w' x' y' z'
words_are v v' w w' x x' y y' z z' e f g h i =
    ap (λ (t : List ℕ). with_words t w x y z) e
    ∙ ap (λ (t : List ℕ). with_words v' t x y z) f
    ∙ ap (λ (t : List ℕ). with_words v' w' t y z) g
    ∙ ap (λ (t : List ℕ). with_words v' w' x' t z) h
    ∙ ap (λ (t : List ℕ). with_words v' w' x' y' t) i

pub address_bytes : (kind a b c p a1 a0 b1 b0 c1 c0 : ℕ) → kind < 256 → a < 65536 → b < 65536 → c < 65536 → p < 256
    → a1 ≡ a / 256 → a0 ≡ a % 256 → b1 ≡ b / 256 → b0 ≡ b % 256 → c1 ≡ c / 256 → c0 ≡ c % 256
    → 0 ∷ 0 ∷ 0 ∷ 0 ∷ 0 ∷ 0 ∷ 0 ∷ 0 ∷ 0 ∷ 0 ∷ 0 ∷ 0 ∷ 0 ∷ 0 ∷ 0 ∷ kind ∷ 0 ∷ 0 ∷ a1 ∷ a0 ∷ 0 ∷ 0 ∷ b1 ∷ b0 ∷ 0 ∷ 0 ∷ c1 ∷ c0 ∷ 0 ∷ 0 ∷ 0 ∷ p ∷ [] ≡ address kind a b c p
unfolding address to_byte
address_bytes kind a b c p a1 a0 b1 b0 c1 c0 hk ha hb hc hp ea fa eb fb ec fc =
    sym (words_are (to_byte kind 4) (0 ∷ 0 ∷ 0 ∷ kind ∷ []) (to_byte a 4) (0 ∷ 0 ∷ a1 ∷ a0 ∷ []) (to_byte b 4) (0 ∷ 0 ∷ b1 ∷ b0 ∷ [])
    (to_byte c 4) (0 ∷ 0 ∷ c1 ∷ c0 ∷ []) (to_byte p 4) (0 ∷ 0 ∷ 0 ∷ p ∷ [])
    (small_word kind hk) (short_word a a1 a0 ha ea fa) (short_word b b1 b0 hb eb fb) (short_word c c1 c0 hc ec fc) (small_word p hp))

-- ---- masks

pub length-xor : (a b : List ℕ) → length a ≡ length b → length (xor a b) ≡ length b
unfolding xor
length-xor [] [] h = refl
length-xor [] (y ∷ b) h = h
length-xor (x ∷ a) [] h = refl
length-xor (x ∷ a) (y ∷ b) h = ap suc (length-xor a b (omega (arith, h)))

pub get_or-xor : (a b : List ℕ) (k : ℕ) → length a ≡ length b → k < length b → get_or (xor a b) k 0 ≡ bit_xor (get_or a k 0) (get_or b k 0)
unfolding xor
get_or-xor [] [] k e h = absurd (omega arith)
get_or-xor [] (y ∷ b) k e h = absurd (omega (arith, e))
get_or-xor (x ∷ a) [] k e h = absurd (omega arith)
get_or-xor (x ∷ a) (y ∷ b) zero e h = refl
get_or-xor (x ∷ a) (y ∷ b) (suc k) e h = get_or-xor a b k (omega (arith, e)) (omega (arith, h))

pub masked_more : (node before mask : List ℕ) (i : ℕ) → i < length mask
    → ((k : ℕ) → k < i → get_or mask k 0 ≡ bit_xor (get_or node k 0) (get_or before k 0)) → get_or mask i 0 ≡ get_or before i 0
    → (k : ℕ) → k < i + 1 → get_or (set mask i (bit_xor (get_or node i 0) (get_or mask i 0))) k 0 ≡ bit_xor (get_or node k 0) (get_or before k 0)
masked_more node before mask i h done here =
    let v : ℕ = bit_xor (get_or node i 0) (get_or mask i 0) in
    below_more (λ k. get_or (set mask i v) k 0 ≡ bit_xor (get_or node k 0) (get_or before k 0)) i
    (λ k low. get_or-set_other mask i k v 0 (omega arith) ∙ done k low)
    (get_or-set_same mask i v 0 h ∙ ap (bit_xor (get_or node i 0)) here)

pub unmasked_more : (before mask : List ℕ) (i v : ℕ) → ((k : ℕ) → i ≤ k → get_or mask k 0 ≡ get_or before k 0)
    → (k : ℕ) → i + 1 ≤ k → get_or (set mask i v) k 0 ≡ get_or before k 0
unmasked_more before mask i v rest k h = get_or-set_other mask i k v 0 (omega arith) ∙ rest k (omega arith)

pub masked_all : (node before mask : List ℕ) → length node ≡ 32 → length before ≡ 32 → length mask ≡ 32
    → ((k : ℕ) → k < 32 → get_or mask k 0 ≡ bit_xor (get_or node k 0) (get_or before k 0)) → mask ≡ xor node before
masked_all node before mask e f g done =
    let same : length node ≡ length before = e ∙ sym f in
    let size : length (xor node before) ≡ 32 = length-xor node before same ∙ f in
    ext_get_or 0 mask (xor node before) (g ∙ sym size)
    (λ k h. let low : k < 32 = omega (arith, h, g) in let in_range : k < length before = omega (arith, low, f) in
    done k low ∙ sym (get_or-xor node before k same in_range))

-- ---- parts

pub part_at : (xs : List ℕ) (at n : ℕ) → take (at + n - at) (drop at xs) ≡ part xs at n
part_at xs at n = let e : at + n - at ≡ n = omega arith in between-part xs at (at + n) n e

pub front_of : (xs : List ℕ) (k : ℕ) → k < 4 → get_or (part xs 0 4) k 0 ≡ get_or xs k 0
front_of xs k h = get_or-part xs 0 4 k 0 h ∙ ap (λ (i : ℕ). get_or xs i 0) (let e : 0 + k ≡ k = omega arith in e)

pub part_between : (xs new : List ℕ) (at n : ℕ) → new ≡ take (at + n - at) (drop at xs) → new ≡ part xs at n
part_between xs new at n e = e ∙ part_at xs at n

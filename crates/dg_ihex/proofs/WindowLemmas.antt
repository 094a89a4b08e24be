-- Blocks in a window.
use Rattle.std.proofs.Common.{◌≡◌, ◌≢◌, ℕ, zero, suc, ◌+◌, ◌-◌, ◌%◌, ◌<◌, ◌≤◌, ◌^◌, ◌||◌, Bool, true, false, List, [], ◌∷◌, ◌++◌, length, get_or, set, take, map, Option, Some, None, is_some, unwrap_or, refl, sym, ap, ◌∙◌, arith}
use Rattle.std.specs.List.{list_any, range_with_len}
use Rattle.std.specs.Option.{option_or}
use Rattle.std.proofs.lemmas.List.{take_all, take_more_set, get_or_past}
use Rattle.std.proofs.lemmas.List.FromFn.{map-range_with_len_more}
use Rattle.dg_ihex.specs.Sizes.{longest_image}
use Rattle.dg_ihex.specs.Blocks.{Block, block_byte, byte_at, overlaps, lowest_of, past_blocks, span_of, image_of_blocks}
use Rattle.dg_ihex.specs.inner.Words.{is_given}
use Rattle.dg_ihex.specs.Cells.{Keeps, cells_written}
use Rattle.dg_ihex.proofs.BlockLemmas.{byte_at-more, lowest_of-more, past_of-more, byte_at-within, block_byte-outside, block_byte-inside}
use Rattle.dg_ihex.proofs.CellLemmas.{cells_differ, keeps_written}

none_unless : (o : Option ℕ) → ((y : ℕ) → o ≡ Some y → ⊥) → o ≡ None
none_unless None h = refl
none_unless (Some y) h = absurd (h y refl)

-- No byte is outside the bounds.
pub none_below : (blocks : List Block) (a : ℕ) → a < lowest_of blocks → None ≡ byte_at blocks a
none_below blocks a low = sym (none_unless (byte_at blocks a) (λ y h. let w = byte_at-within blocks a y h in omega (arith, w.0)))

pub none_behind : (blocks : List Block) (a : ℕ) → past_blocks blocks ≤ a → None ≡ byte_at blocks a
none_behind blocks a high = sym (none_unless (byte_at blocks a) (λ y h. let w = byte_at-within blocks a y h in omega (arith, w.1)))

-- Within them the byte is that of its cell.
in_cell : (blocks : List Block) (a shift : ℕ) (cell byte : Option ℕ) (cells : List (Option ℕ)) → Keeps shift cells (byte_at blocks) → span_of blocks ≤ longest_image
    → lowest_of blocks ≤ a → a < past_blocks blocks → get_or cells ((a + shift) % longest_image) None ≡ cell → byte_at blocks a ≡ byte → cell ≡ byte
in_cell blocks a shift cell (Some y) cells k close low high at is = sym at ∙ k.there a y is
in_cell blocks a shift None None cells k close low high at is = refl
in_cell blocks a shift (Some b) None cells k close low high at is =
    let o = k.only ((a + shift) % longest_image) b at in
    let w = byte_at-within blocks o.0 b o.2 in
    let apart : o.0 ≢ a = λ same. (let e : Some b ≡ None = sym o.2 ∙ ap (byte_at blocks) same ∙ is in cc) in
    absurd (cells_differ shift o.0 a apart (omega (arith, w.0, w.1)) (omega (arith, w.0, w.1)) o.1)

cell_is : (blocks : List Block) (a shift : ℕ) (cells : List (Option ℕ)) → Keeps shift cells (byte_at blocks) → span_of blocks ≤ longest_image
    → lowest_of blocks ≤ a → a < past_blocks blocks → get_or cells ((a + shift) % longest_image) None ≡ byte_at blocks a
cell_is blocks a shift cells k close low high = in_cell blocks a shift (get_or cells ((a + shift) % longest_image) None) (byte_at blocks a) cells k close low high refl refl

-- the cell of an address, whose number is taken modulo the most bytes of an image before the shift is added
same_cell : (a shift cell : ℕ) → cell ≡ (a % longest_image + shift) % longest_image → cell ≡ (a + shift) % longest_image
same_cell a shift cell is = omega (arith, is)

pub told_by_cell : (blocks : List Block) (a shift cell : ℕ) (cells : List (Option ℕ)) → cell ≡ (a % longest_image + shift) % longest_image
    → Keeps shift cells (byte_at blocks) → span_of blocks ≤ longest_image → lowest_of blocks ≤ a → a < past_blocks blocks → get_or cells cell None ≡ byte_at blocks a
told_by_cell blocks a shift cell cells is k close low high = ap (λ n. get_or cells n None) (same_cell a shift cell is) ∙ cell_is blocks a shift cells k close low high

-- ---- one more block

or_left : (a b : Bool) → (a || b) ≡ false → (a ≡ false) × (b ≡ false)
or_left true b h = cc
or_left false b h = (refl, h)

not_some : (o : Option ℕ) → is_some o ≡ false → o ≡ None
not_some None h = refl
not_some (Some y) h = cc

-- none of the addresses of a block is given
free_at : (blocks : List Block) (n a k : ℕ) → list_any (is_given blocks) (range_with_len a n) ≡ false → k < n → byte_at blocks (a + k) ≡ None
free_at blocks zero a k h within = absurd (omega arith)
free_at blocks (suc n) a zero h within = ap (byte_at blocks) (let e : a + zero ≡ a = omega arith in e) ∙ not_some (byte_at blocks a) (or_left _ _ h).0
free_at blocks (suc n) a (suc k) h within =
    ap (byte_at blocks) (let e : a + suc k ≡ a + 1 + k = omega arith in e) ∙ free_at blocks n (a + 1) k (or_left _ _ h).1 (omega arith)

option_or_none : (o : Option ℕ) → option_or o None ≡ o
option_or_none None = refl
option_or_none (Some y) = refl

pub keeps_block : (blocks : List Block) (block : Block) (shift : ℕ) (cells : List (Option ℕ))
    → ((k : ℕ) → k < length block.bytes → (block.address + shift + k) % longest_image < length cells) → block.address < 2 ^ 32
    → overlaps blocks block ≡ false → span_of (blocks ++ block ∷ []) ≤ longest_image → Keeps shift cells (byte_at blocks)
    → Keeps shift (cells_written cells (block.address + shift) block.bytes) (byte_at (blocks ++ block ∷ []))
keeps_block blocks block shift cells room fits apart close k =
    let low = lowest_of-more blocks block fits in
    let high = past_of-more blocks block in
    keeps_written block.bytes shift cells (byte_at blocks) (byte_at (blocks ++ block ∷ [])) block.address (block.address + shift) refl room (omega (arith, low, high))
    (λ x y j given within.
    let w = byte_at-within blocks x y given in
    let other : x ≢ block.address + j = λ same. (let e : Some y ≡ None = sym given ∙ ap (byte_at blocks) same ∙ free_at blocks (length block.bytes) block.address j apart within in cc) in
    cells_differ shift x (block.address + j) other (omega (arith, low, high, w.0, w.1)) (omega (arith, low, high, w.0, w.1)))
    (λ j within.
    byte_at-more blocks block (block.address + j)
    ∙ ap (λ o. option_or o (option_or (block_byte block (block.address + j)) None)) (free_at blocks (length block.bytes) block.address j apart within)
    ∙ option_or_none (block_byte block (block.address + j)) ∙ block_byte-inside block j)
    (λ x out.
    byte_at-more blocks block x ∙ ap (λ o. option_or (byte_at blocks x) (option_or o None)) (block_byte-outside block x out) ∙ option_or_none (byte_at blocks x))
    k

-- ---- a window with nothing in it

pub keeps_nothing : (shift : ℕ) → Keeps shift [] (byte_at [])
unfolding byte_at
keeps_nothing shift = record {
  there = λ x y e. (let f : ⊥ = cc in absurd f);
  only = λ p y e. (let both : Some y ≡ None = sym e ∙ get_or_past [] p None (omega arith) in let f : ⊥ = cc in absurd f);
}

pub none_given : (n : ℕ) → (lowest_of [] ≡ 4294967296) × (past_blocks [] ≡ 0)
unfolding lowest_of past_blocks
none_given n = (refl, refl)

-- ---- the image

pub image_more : (blocks : List Block) (image : List ℕ) (lowest at byte : ℕ) → at < length image → lowest ≡ lowest_of blocks → byte ≡ unwrap_or (byte_at blocks (lowest + at)) 255
    → take at image ≡ map (λ k. unwrap_or (byte_at blocks (lowest_of blocks + k)) 255) (range_with_len 0 at)
    → take (at + 1) (set image at byte) ≡ map (λ k. unwrap_or (byte_at blocks (lowest_of blocks + k)) 255) (range_with_len 0 (at + 1))
image_more blocks image lowest at byte within low is h =
    let f : ℕ → ℕ = λ k. unwrap_or (byte_at blocks (lowest_of blocks + k)) 255 in
    let here : byte ≡ f at = is ∙ ap (λ n. unwrap_or (byte_at blocks (n + at)) 255) low in
    take_more_set image at byte within ∙ ap (λ t. t ++ byte ∷ []) h ∙ ap (λ b. map f (range_with_len 0 at) ++ b ∷ []) here
    ∙ sym (map-range_with_len_more f 0 at at (omega arith))

pub image_whole : (blocks : List Block) (image : List ℕ) (at : ℕ) → length image ≡ span_of blocks → length image ≤ at → at ≤ length image
    → take at image ≡ map (λ k. unwrap_or (byte_at blocks (lowest_of blocks + k)) 255) (range_with_len 0 at) → image ≡ image_of_blocks blocks
unfolding image_of_blocks
image_whole blocks image at size low high h =
    let f : ℕ → ℕ = λ k. unwrap_or (byte_at blocks (lowest_of blocks + k)) 255 in
    let all : at ≡ span_of blocks = omega (arith, size) in
    sym (take_all at image low) ∙ h ∙ ap (λ n. map f (range_with_len 0 n)) all

-- ---- addresses one by one

one_of : (blocks : List Block) (a end n : ℕ) → end - a ≡ suc n → end - (a + 1) ≡ n → is_given blocks a ≡ false
    → list_any (is_given blocks) (range_with_len (a + 1) (end - (a + 1))) ≡ list_any (is_given blocks) (range_with_len a (end - a))
one_of blocks a end n more rest none =
    ap (λ m. list_any (is_given blocks) (range_with_len (a + 1) m)) rest
    ∙ ap (λ t. t || list_any (is_given blocks) (range_with_len (a + 1) n)) (sym none)
    ∙ ap (λ m. list_any (is_given blocks) (range_with_len a m)) (sym more)

pub given_later : (blocks : List Block) (a end : ℕ) → a < end → is_given blocks a ≡ false
    → list_any (is_given blocks) (range_with_len (a + 1) (end - (a + 1))) ≡ list_any (is_given blocks) (range_with_len a (end - a))
given_later blocks a end more none = one_of blocks a end (end - (a + 1)) (omega arith) refl none

given_first : (blocks : List Block) (a end n : ℕ) → end - a ≡ suc n → is_given blocks a ≡ true → true ≡ list_any (is_given blocks) (range_with_len a (end - a))
given_first blocks a end n more given =
    ap (λ t. t || list_any (is_given blocks) (range_with_len (a + 1) n)) (sym given) ∙ ap (λ m. list_any (is_given blocks) (range_with_len a m)) (sym more)

pub given_here : (blocks : List Block) (a end : ℕ) → a < end → is_given blocks a ≡ true → true ≡ list_any (is_given blocks) (range_with_len a (end - a))
given_here blocks a end more given = given_first blocks a end (end - (a + 1)) (omega arith) given

-- Blocks, and what they give.
use Rattle.std.proofs.Common.{◌≡◌, ℕ, ◌+◌, ◌-◌, ◌<◌, ◌≤◌, ◌^◌, ◌⊎◌, inl, inr, min, max, List, [], ◌∷◌, ◌++◌, length, Option, Some, None, refl, sym, ap, ◌∙◌, arith}
use Rattle.std.proofs.lemmas.Bool.Decides.{nat_tests}
use Rattle.std.proofs.lemmas.Bool.{cases_lt}
use Rattle.std.proofs.lemmas.Option.{slice_get_past, slice_get_within}
use Rattle.std.specs.Prelude.{slice_get}
use Rattle.std.specs.Option.{option_or}
use Rattle.dg_ihex.specs.Blocks.{Block, block_byte, byte_at, lowest_of, past_blocks}

-- ---- one more block

option_or_assoc : (a b c : Option ℕ) → option_or (option_or a b) c ≡ option_or a (option_or b c)
option_or_assoc None b c = refl
option_or_assoc (Some x) b c = refl

pub byte_at-more : (blocks : List Block) (block : Block) (address : ℕ) → byte_at (blocks ++ block ∷ []) address ≡ option_or (byte_at blocks address) (option_or (block_byte block address) None)
unfolding byte_at
byte_at-more [] block address = refl
byte_at-more (first ∷ blocks) block address =
    ap (option_or (block_byte first address)) (byte_at-more blocks block address)
    ∙ sym (option_or_assoc (block_byte first address) (byte_at blocks address) (option_or (block_byte block address) None))

pub lowest_of-more : (blocks : List Block) (block : Block) → block.address < 2 ^ 32 → lowest_of (blocks ++ block ∷ []) ≡ min (lowest_of blocks) block.address
unfolding lowest_of
lowest_of-more [] block h = omega arith
lowest_of-more (first ∷ blocks) block h = let ih = lowest_of-more blocks block h in omega (arith, ih)

pub past_of-more : (blocks : List Block) (block : Block) → past_blocks (blocks ++ block ∷ []) ≡ max (past_blocks blocks) (block.address + length block.bytes)
unfolding past_blocks
past_of-more [] block = omega arith
past_of-more (first ∷ blocks) block = let ih = past_of-more blocks block in omega (arith, ih)

-- ---- where bytes are

block_byte-within : (block : Block) (address byte : ℕ) → block_byte block address ≡ Some byte → (block.address ≤ address) × (address < block.address + length block.bytes)
block_byte-within block address byte h =
    elim (cases_lt address block.address) [
      | inr low ↦
          let here : slice_get block.bytes (address - block.address) ≡ Some byte = grind (arith, nat_tests) in
          let within = slice_get_within block.bytes (address - block.address) byte here in
          (low, omega (arith, within))
      | inl above ↦ grind (arith, nat_tests)
    ]

either : (a b : Option ℕ) (byte : ℕ) → option_or a b ≡ Some byte → (a ≡ Some byte) ⊎ (b ≡ Some byte)
either None b byte h = inr h
either (Some x) b byte h = inl h

pub byte_at-within : (blocks : List Block) (address byte : ℕ) → byte_at blocks address ≡ Some byte → (lowest_of blocks ≤ address) × (address < past_blocks blocks)
unfolding byte_at lowest_of past_blocks
byte_at-within [] address byte h = cc
byte_at-within (first ∷ blocks) address byte h =
    elim (either (block_byte first address) (byte_at blocks address) byte h) [
      | inl here ↦ let w = block_byte-within first address byte here in (omega (arith, w.0), omega (arith, w.1))
      | inr there ↦ let w = byte_at-within blocks address byte there in (omega (arith, w.0), omega (arith, w.1))
    ]

-- outside a block, and inside it
pub block_byte-outside : (block : Block) (address : ℕ) → (address < block.address) ⊎ (block.address + length block.bytes ≤ address) → block_byte block address ≡ None
block_byte-outside block address (inl before) = grind (arith, nat_tests)
block_byte-outside block address (inr behind) =
    let past : slice_get block.bytes (address - block.address) ≡ None = slice_get_past block.bytes (address - block.address) (omega arith) in
    grind (arith, nat_tests)

pub block_byte-inside : (block : Block) (k : ℕ) → block_byte block (block.address + k) ≡ slice_get block.bytes k
block_byte-inside block k = let e : block.address + k - block.address ≡ k = omega arith in grind (arith, nat_tests)

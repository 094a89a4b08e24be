-- Blocks in cells (Intel Hexadecimal Object File Format Specification, revision A). The byte at an address is in the cell
-- whose number is the address plus a shift, modulo the most bytes of an image.
use Rattle.std.specs.Prelude.{◌≡◌, ℕ, ◌+◌, ◌%◌, List, [], ◌∷◌, slice_index_or, slice_set, Option, Some, None}
use Rattle.dg_ihex.specs.Sizes.{longest_image}

-- Each byte is in its cell, and each byte in a cell is that of an address. A missing cell has no byte.
pub record Keeps (shift : ℕ) (cells : List (Option ℕ)) (bytes : ℕ → Option ℕ) : Type 0 where
  pub there : (address byte : ℕ) → bytes address ≡ Some byte
      → slice_index_or cells ((address + shift) % longest_image) None ≡ Some byte
  pub only : (cell byte : ℕ) → slice_index_or cells cell None ≡ Some byte → (address : ℕ)
      × ((address + shift) % longest_image ≡ cell) × (bytes address ≡ Some byte)

-- cells with bytes, the first of which is in the cell with this number
unfoldable pub cells_written : List (Option ℕ) → ℕ → List ℕ → List (Option ℕ)
cells_written cells from [] = cells
cells_written cells from (byte ∷ bytes) = cells_written (slice_set cells (from % longest_image) (Some byte)) (from + 1) bytes

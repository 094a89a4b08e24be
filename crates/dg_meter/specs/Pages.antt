-- How many pages slots have, by the bytes of their headers that say so (docs/IMAGES.md, "Slots as typed states").
use Rattle.std.specs.Prelude.{◌≡◌, ◌≢◌, ◌⊎◌, ℕ, ◌+◌, ◌*◌, ◌<◌, ◌≤◌, List, slice_index}
use Rattle.dg_nor.specs.Sizes.{sector_size}
pub use Rattle.dg_slot.specs.Layout.{slots, header_sector}

-- the byte of a header that is the number of pages
abbrev pub pages_byte : ℕ
pages_byte = 3

abbrev pub pages_at : (slot : ℕ) → ℕ
pages_at slot = sector_size * header_sector slot + pages_byte

-- these are the numbers of pages of all slots
abbrev pub ArePages : (known image : List ℕ) → Type 0
ArePages known image = (slot : ℕ) → slot < slots → slice_index image (pages_at slot) ≡ slice_index known slot

-- this cell is not among those
abbrev pub IsOutside : (cell at count : ℕ) → Type 0
IsOutside cell at count = (cell < at) ⊎ (at + count ≤ cell)

-- The numbers of pages of all slots but perhaps one are not among these cells.
pub record AreOutside (slot at count : ℕ) : Type 0 where
  pub inside : slot < slots → (at ≤ pages_at slot) × (pages_at slot < at + count)
  pub others : (s : ℕ) → s < slots → s ≢ slot → IsOutside (pages_at s) at count

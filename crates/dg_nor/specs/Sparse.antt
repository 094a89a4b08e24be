-- A chip of which only the pieces that were programmed are stored, in the order in which they first were (docs/FLASH.md,
-- "The device"). `places` has a number for each piece: 0 if it is not stored, otherwise its place among those that are,
-- counted from 1. `stored` has their cells, one piece after the other.
use Rattle.std.specs.Prelude.{◌≡◌, ℕ, zero, suc, ◌+◌, ◌*◌, ◌/◌, ◌%◌, ◌<◌, ◌≤◌, List, [], ◌∷◌, length, slice_index}
use Rattle.dg_words.specs.Lists.{tabulate}
use Rattle.dg_nor.specs.Sizes.{chip_size}

-- the cells of a piece
abbrev pub board_piece : ℕ
board_piece = 512

-- the pieces of a chip
abbrev pub board_pieces : ℕ
board_pieces = 2120

-- the cell at an offset of the piece with this place
abbrev pub placed_cell : List ℕ → ℕ → ℕ → ℕ
placed_cell stored zero offset = 255
placed_cell stored (suc before) offset = slice_index stored (board_piece * before + offset)

-- the cells of the chip
unfoldable pub sparse : List ℕ → List ℕ → List ℕ
sparse places stored = tabulate chip_size (λ k. placed_cell stored (slice_index places (k / board_piece)) (k % board_piece))

-- how many pieces have a place
unfoldable pub stored_pieces : List ℕ → ℕ
stored_pieces [] = 0
stored_pieces (zero ∷ places) = stored_pieces places
stored_pieces (suc before ∷ places) = suc (stored_pieces places)

-- As many pieces are stored as have a place. Each place is that of a stored piece, and no two pieces have the same.
pub record IsSparse (places stored : List ℕ) : Type 0 where
  pub count : length stored ≡ board_piece * stored_pieces places
  pub within : (s : ℕ) → slice_index places s ≤ stored_pieces places
  pub apart : (s t : ℕ) → 0 < slice_index places s → slice_index places s ≡ slice_index places t → s ≡ t

-- Each cell of this range is blank.
pub record IsBlankIn (cells : List ℕ) (from to : ℕ) : Type 0 where
  pub each : (k : ℕ) → from ≤ k → k < to → slice_index cells k ≡ 255

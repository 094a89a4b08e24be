-- The first pieces are blank.
use Rattle.std.proofs.Common.{◌≡◌, ◌*◌}
use Rattle.dg_words.specs.Cells.{overwritten}
use Rattle.dg_nor.specs.Sizes.{sector_size}
use Rattle.dg_nor.specs.Chip.{blank}
use Rattle.dg_nor.specs.Sparse.{board_piece}
use Rattle.dg_nor.specs.Backing.{cells_image}
use Rattle.dg_nor.proofs.cells.Cells.erase.Given as goal

abbrev pub invariant-loop-i : goal.invariant-loop-i
invariant-loop-i l = cells_image l.self ≡ overwritten (cells_image l.fn.self) (sector_size * l.sector) (blank (board_piece * l.i))

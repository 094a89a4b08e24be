use Rattle.std.proofs.Common.{◌+◌, ◌*◌, length, sym, ap, ◌∙◌, arith}
use Rattle.dg_words.proofs.CellLemmas.{length-part}
use Rattle.dg_nor.specs.Sparse.{board_piece}
use Rattle.dg_nor.specs.Backing.{cells_image}
use Rattle.dg_nor.proofs.cells.Cells.read_piece.Goals as goal

pub copy_from_slice-requires : goal.copy_from_slice-requires
copy_from_slice-requires c =
    let whole = c.args.self.now.chip.cells in
    let from = board_piece * c.args.piece + c.args.offset in
    let h = c.requires.in_piece in
    let l = c.requires.in_chip in
    sym (ap length c.piece_cells.ensures ∙ length-part (cells_image c.args.self.now) from (length c.args.into.now) (omega arith))

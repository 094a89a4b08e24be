use Rattle.std.proofs.Common.{◌+◌, ◌*◌, ◌/◌, ◌%◌, ◌++◌, length, sym, ap, ◌∙◌, arith}
use Rattle.dg_words.specs.Cells.{part}
use Rattle.dg_words.proofs.CellLemmas.{length-part, part_whole, between-part, part-append-part}
use Rattle.dg_nor.specs.Sparse.{board_piece}
use Rattle.dg_nor.specs.Chip.{programmed}
use Rattle.dg_nor.specs.Backing.{cells_image}
use Rattle.dg_nor.proofs.SparseLemmas.{programmed_none, programmed_next}
use Rattle.dg_nor.proofs.cells.Cells.program_pieces.Goals as goal

pub loop-done-init : goal.loop-done-init
loop-done-init c =
    let whole = c.args.self.now.chip.cells in
    let n = length-part c.args.bytes.now 0 0 (omega arith) in
    record { inside = omega arith; made = sym (programmed_none (cells_image c.args.self.now) c.args.at (part c.args.bytes.now 0 0) n (omega arith)) }

pub loop-done-preserved : goal.loop-done-preserved
loop-done-preserved c =
    let image = cells_image c.args.self.now in
    let whole = c.args.self.now.chip.cells in
    let bytes = c.args.bytes.now in
    let done = c.loop-done.done in
    let at = c.args.at in
    let len = c.min-len.result in
    let piece = part bytes done len in
    let before = c.loop-done.invariant in
    let a = length-part bytes 0 done (omega arith) in
    let b = length-part bytes done len (omega arith) in
    record {
      inside = omega arith;
      made = c.program_piece.ensures
          ∙ ap (λ xs. programmed (cells_image c.loop-done.self) (board_piece * ((at + done) / board_piece) + (at + done) % board_piece) xs) (between-part bytes done (done + len) len (omega arith))
          ∙ ap (λ k. programmed (cells_image c.loop-done.self) k piece) (omega arith)
          ∙ ap (λ i. programmed i (at + length (part bytes 0 done)) piece) before.made
          ∙ programmed_next image at (part bytes 0 done) piece (omega arith)
          ∙ ap (λ k. programmed image at (part bytes 0 done ++ part bytes k len)) (omega arith)
          ∙ ap (programmed image at) (part-append-part bytes 0 done len (omega arith));
    }

pub returns : goal.returns
returns c =
    let before = c.loop-done.invariant in
    before.made ∙ ap (programmed (cells_image c.args.self.now) c.args.at) (part_whole c.args.bytes.now c.loop-done.done (omega arith))

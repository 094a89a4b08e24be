use Rattle.std.proofs.Common.{◌≡◌, ◌+◌, ◌-◌, length, take, drop, refl, sym, ap, ◌∙◌, arith}
use Rattle.dg_words.specs.Cells.{part, overwritten}
use Rattle.dg_words.proofs.CellLemmas.{length-part, part_whole, put_mid-overwritten, between-part}
use Rattle.dg_nor.specs.Backing.{cells_image}
use Rattle.dg_nor.proofs.SparseLemmas.{read_next}
use Rattle.dg_nor.proofs.cells.Cells.read_pieces.Goals as goal

pub loop-done-init : goal.loop-done-init
unfolding part
loop-done-init c = record { inside = omega arith; long = refl; read = refl }

pub loop-done-preserved : goal.loop-done-preserved
loop-done-preserved c =
    let image = cells_image c.args.self.now in
    let whole = c.args.self.now.chip.cells in
    let into = c.loop-done.into in
    let done = c.loop-done.done in
    let at = c.args.at in
    let len = c.min-len.result in
    let new = c.read_piece.new.into in
    let before = c.loop-done.invariant in
    let n : length new ≡ done + len - done = omega arith in
    let old = take (done + len - done) (drop done into) in
    let m : length old ≡ len = ap length (between-part into done (done + len) len (omega arith)) ∙ length-part into done len (omega arith) in
    let found : new ≡ part image (at + done) len = c.read_piece.ensures ∙ ap (λ k. part image k (length old)) (omega arith) ∙ ap (part image (at + done)) m in
    record {
      inside = omega arith;
      long = omega arith;
      read = ap (λ xs. part xs 0 (done + len)) (put_mid-overwritten done (done + len - done) into new n ∙ ap (overwritten into done) found)
          ∙ read_next image into at done len (omega arith) (omega arith) before.read;
    }

pub returns : goal.returns
returns c =
    let before = c.loop-done.invariant in
    sym (part_whole c.loop-done.into c.loop-done.done (omega arith)) ∙ before.read ∙ ap (part (cells_image c.args.self.now) c.args.at) (omega arith)

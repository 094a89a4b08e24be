use Rattle.std.proofs.Common.{◌≡◌, ◌+◌, ◌%◌, get_or, set, drop, Some, sym, ap, ◌∙◌, arith}
use Rattle.std.proofs.lemmas.List.{drop_more, drop_all}
use Rattle.dg_ihex.specs.Sizes.{longest_image}
use Rattle.dg_ihex.specs.Cells.{cells_written}
use Rattle.dg_ihex.proofs.window.write.Goals as goal

pub loop-at-preserved : goal.loop-at-preserved
unfolding cells_written
loop-at-preserved c =
    let at = c.loop-at.at in
    let bytes = c.args.bytes.now in
    let a = c.args.from in
    let next : a + (at + 1) ≡ a + at + 1 = omega arith in
    ap (λ n. cells_written (set c.loop-at.cells ((a + at) % longest_image) (Some (get_or bytes at 0))) n (drop (at + 1) bytes)) next
    ∙ sym (ap (cells_written c.loop-at.cells (a + at)) (drop_more bytes at 0 (omega arith)))
    ∙ c.loop-at.invariant

pub returns : goal.returns
unfolding cells_written
returns c =
    sym (ap (cells_written c.loop-at.cells (c.args.from + c.loop-at.at)) (drop_all c.loop-at.at c.args.bytes.now (omega arith))) ∙ c.loop-at.invariant

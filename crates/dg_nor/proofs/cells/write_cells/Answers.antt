use Rattle.std.proofs.Common.{◌≡◌, ◌+◌, ◌-◌, length, ap, ◌∙◌, arith}
use Rattle.dg_words.specs.Cells.{overwritten}
use Rattle.dg_words.proofs.CellLemmas.{put_mid-overwritten}
use Rattle.dg_nor.proofs.cells.write_cells.Goals as goal

pub returns-clause-cells : goal.returns-clause-cells
returns-clause-cells c =
    let at = c.args.at in
    let n : length c.copy_from_slice.new.self ≡ at + length c.args.bytes.now - at = omega arith in
    put_mid-overwritten at (at + length c.args.bytes.now - at) c.args.cells.now c.copy_from_slice.new.self n
    ∙ ap (overwritten c.args.cells.now at) c.copy_from_slice.ensures.after

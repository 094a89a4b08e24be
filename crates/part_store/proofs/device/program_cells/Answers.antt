use Rattle.std.proofs.Common.{◌≡◌, ◌+◌, ◌-◌, length, ap, ◌∙◌, arith}
use Rattle.dg_words.specs.Cells.{overwritten}
use Rattle.dg_words.proofs.CellLemmas.{put_mid-overwritten, between-part}
use Rattle.dg_nor.specs.Chip.{and_each, programmed}
use Rattle.part_store.proofs.device.program_cells.Goals as goal

pub returns-clause-cells : goal.returns-clause-cells
unfolding programmed
returns-clause-cells c =
    let n : c.args.at + length c.args.bytes.now - c.args.at ≡ length c.args.bytes.now = omega arith in
    put_mid-overwritten c.args.at (c.args.at + length c.args.bytes.now - c.args.at) c.args.cells.now c.and_bytes.new.cells (omega arith)
    ∙ ap (overwritten c.args.cells.now c.args.at) (c.and_bytes.ensures
    ∙ ap (λ xs. and_each xs c.args.bytes.now) (between-part c.args.cells.now c.args.at (c.args.at + length c.args.bytes.now) (length c.args.bytes.now) n))

use Rattle.std.proofs.Common.{length, sym, ◌∙◌, arith}
use Rattle.dg_nor.proofs.ChipLemmas.{programmed_blank}
use Rattle.dg_nor.proofs.BlankLemmas.{IsBlankIn-part}
use Rattle.dg_nor.proofs.cells.program_stored.Goals as goal

pub returns-then-at-bytes-clause-cells : goal.returns-then-at-bytes-clause-cells
returns-then-at-bytes-clause-cells c =
    let cells = c.args.cells.now in
    let at = c.args.at in
    let bytes = c.args.bytes.now in
    c.write_cells.ensures.cells ∙ sym (programmed_blank cells at bytes c.write_cells.ensures.new_bytes
    (IsBlankIn-part cells c.args.blank_from c.args.blank_to at (length bytes) c.requires.blank (omega arith) (omega arith) (omega arith)))

use Rattle.std.proofs.Common.{◌≡◌, ◌-◌, length, replicate, sym, ap, ◌∙◌, arith}
use Rattle.std.proofs.lemmas.List.{length-take, length-drop}
use Rattle.dg_words.specs.Cells.{overwritten}
use Rattle.dg_words.proofs.CellLemmas.{put_mid-overwritten}
use Rattle.dg_nor.specs.Chip.{blank}
use Rattle.part_store.proofs.device.erase_cells.Goals as goal

pub returns-clause-cells : goal.returns-clause-cells
unfolding blank
returns-clause-cells c =
    let filled = c.fill.ensures.after (λ y h. h) in
    let n : length c.fill.new.self ≡ c.args.to - c.args.from = c.fill.ensures.len ∙ simp (length-take, length-drop) (omega arith) in
    let m = c.fill.ensures.len in
    put_mid-overwritten c.args.from (c.args.to - c.args.from) c.args.cells.now c.fill.new.self n
    ∙ ap (overwritten c.args.cells.now c.args.from) (filled ∙ ap (λ k. replicate k 255) (sym m ∙ n))

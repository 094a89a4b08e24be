use Rattle.std.proofs.Common.{◌≡◌, ℕ, ◌+◌, ◌-◌, ◌*◌, List, length, sym, ap, ◌∙◌, arith}
use Rattle.dg_words.specs.Cells.{part}
use Rattle.dg_words.proofs.CellLemmas.{between-part}
use Rattle.dg_nor.specs.Sizes.{chip_size, sector_size}
use Rattle.dg_nor.proofs.ChipLemmas.{part-sector}
use Rattle.dg_slot.specs.Layout.{page_size}
use Rattle.dg_inspect.proofs.chip.StillChip.page.Goals as goal

pub returns : goal.returns
returns c =
    let cells : List ℕ = c.args.self.now.cells.items in
    let k = c.args.index in
    let at = sector_size * k in
    let count : at + page_size - at ≡ page_size = omega arith in
    let start : at ≡ sector_size * k + 0 = omega arith in
    between-part c.deref.result.now at (at + page_size) page_size count
    ∙ ap (λ (x : List ℕ). part x at page_size) c.deref.ensures.value
    ∙ ap (λ (n : ℕ). part cells n page_size) start
    ∙ sym (part-sector cells k 0 page_size c.args.self.now.chip.cells c.requires (omega arith))

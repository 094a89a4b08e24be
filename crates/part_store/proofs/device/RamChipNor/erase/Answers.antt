use Rattle.std.proofs.Common.{◌≡◌, ◌+◌, ◌-◌, ◌*◌, length, drop, ap, ◌∙◌, arith}
use Rattle.std.proofs.lemmas.List.{take_at}
use Rattle.dg_words.specs.Cells.{overwritten}
use Rattle.dg_nor.specs.Sizes.{sector_size}
use Rattle.dg_nor.specs.Chip.{blank, erased}
use Rattle.part_store.proofs.device.RamChipNor.erase.Goals as goal

pub returns-clause-image : goal.returns-clause-image
unfolding erased
returns-clause-image c =
    let cells = c.args.self.now.cells in
    let new = c.erase_cells.new.cells in
    let from = sector_size * c.args.sector in
    let count : length new ≡ cells.len = omega arith in
    let one_sector : from + sector_size - from ≡ sector_size = omega arith in
    take_at new (drop (length new) cells.items) cells.len count
    ∙ c.erase_cells.ensures.cells
    ∙ ap (λ n. overwritten c.deref_mut.result.now from (blank n)) one_sector
    ∙ ap (λ xs. overwritten xs from (blank sector_size)) c.deref_mut.ensures.value

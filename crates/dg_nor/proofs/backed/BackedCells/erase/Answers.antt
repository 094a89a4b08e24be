use Rattle.std.proofs.Common.{◌*◌, arith}
use Rattle.dg_words.specs.Cells.{part}
use Rattle.dg_nor.specs.Sizes.{sector_size, chip_size}
use Rattle.dg_nor.specs.Backing.{cells_image}
use Rattle.dg_nor.proofs.FileLemmas.{Mirrors-whole, mirrors_after, erased_elsewhere}
use Rattle.dg_nor.proofs.backed.BackedCells.erase.Goals as goal

pub save-requires-clause-whole : goal.save-requires-clause-whole
save-requires-clause-whole c = Mirrors-whole c.args.self.now.backing (cells_image c.args.self.now.cells) chip_size c.args.self.now.mirrored c.args.self.now.cells.chip.cells

pub invariant_of-self : goal.invariant_of-self
invariant_of-self c =
    let old = cells_image c.args.self.now.cells in
    let new = cells_image c.erase.new.self in
    let at = sector_size * c.args.sector in
    let whole = c.args.self.now.cells.chip.cells in
    record {
      mirrored = mirrors_after c.args.self.now.backing c.save.new.self c.save.result at (part new at sector_size) old new
          c.save.ensures.written c.save.ensures.gone c.args.self.now.mirrored
          (erased_elsewhere old new c.args.sector c.erase.ensures (omega arith));
    }

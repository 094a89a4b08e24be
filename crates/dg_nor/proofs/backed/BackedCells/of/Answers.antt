use Rattle.dg_nor.specs.Backing.{cells_image}
use Rattle.dg_nor.proofs.FileLemmas.{Mirrors-from}
use Rattle.dg_nor.proofs.backed.BackedCells.of.Goals as goal

pub invariant_of-result : goal.invariant_of-result
invariant_of-result c = record { mirrored = Mirrors-from c.args.backing (cells_image c.args.cells) c.requires }

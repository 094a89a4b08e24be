use Rattle.std.proofs.Common.{sym, subst}
use Rattle.dg_nor.specs.Chip.{CutErase}
use Rattle.dg_nor.proofs.MaskLemmas.{CutErase-same}
use Rattle.dg_inspect.specs.Chip.{still_device}
use Rattle.dg_inspect.proofs.chip.StillChipNor.erase.Goals as goal

pub returns-clause-cut : goal.returns-clause-cut
returns-clause-cut c =
    subst (CutErase (still_device c.args.self.now).image c.args.sector) (sym c.stop.ensures.image) (CutErase-same _ c.args.sector c.args.self.now.chip.cells c.requires)

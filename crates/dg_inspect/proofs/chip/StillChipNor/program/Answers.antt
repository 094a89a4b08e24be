use Rattle.std.proofs.Common.{sym, subst, arith}
use Rattle.dg_nor.specs.Chip.{CutProgram}
use Rattle.dg_nor.proofs.ChipLemmas.{CutProgram-same}
use Rattle.dg_inspect.specs.Chip.{still_device}
use Rattle.dg_inspect.proofs.chip.StillChipNor.program.Goals as goal

pub returns-clause-cut : goal.returns-clause-cut
returns-clause-cut c =
    let whole = c.args.self.now.chip.cells in
    subst (CutProgram (still_device c.args.self.now).image c.args.at c.args.bytes.now) (sym c.stop.ensures.image) (CutProgram-same _ c.args.at c.args.bytes.now (omega arith))

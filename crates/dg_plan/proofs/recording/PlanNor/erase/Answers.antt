use Rattle.std.proofs.Common.{refl, arith}
use Rattle.dg_nor.specs.Chip.{erased}
use Rattle.dg_nor.proofs.MaskLemmas.{CutErase-same}
use Rattle.dg_plan.proofs.CommandLemmas.{fits_by}
use Rattle.dg_plan.specs.Plans.{planned}
use Rattle.dg_plan.proofs.recording.PlanNor.erase.Goals as goal

pub record-requires-clause-fits : goal.record-requires-clause-fits
record-requires-clause-fits c = fits_by c.args.self.now.chip.now c.args.self.now.used _ (planned c.args.self.now) (omega arith) refl

pub returns-clause-image : goal.returns-clause-image
unfolding erased
returns-clause-image c = c.record.ensures.planned

pub returns-then-is_stopped-clause-cut : goal.returns-then-is_stopped-clause-cut
returns-then-is_stopped-clause-cut c = CutErase-same (planned c.args.self.now) c.args.sector c.args.self.now.cells.cells c.requires

pub returns-then-self-clause-cut : goal.returns-then-self-clause-cut
returns-then-self-clause-cut c = CutErase-same (planned c.args.self.now) c.args.sector c.args.self.now.cells.cells c.requires

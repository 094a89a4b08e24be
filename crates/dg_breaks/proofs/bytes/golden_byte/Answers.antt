use Rattle.dg_breaks.proofs.ByteLemmas.{no_golden, golden_at}
use Rattle.dg_breaks.proofs.bytes.golden_byte.Goals as goal

pub golden_break-requires : goal.golden_break-requires
golden_break-requires g c = no_golden (g.N.Nor.device c.args.nor.now).image c.in_ok-cells.cells.first c.in_ok-cells.cells.gates c.args.slot c.in_ok-cells.ensures.first c.in_ok-cells.ensures.gates c.requires

pub returns-clause-breaks : goal.returns-clause-breaks
returns-clause-breaks g c = golden_at (g.N.Nor.device c.args.nor.now).image c.in_ok-cells.cells.first c.in_ok-cells.cells.gates c.args.slot c.golden_break.result c.in_ok-cells.ensures.first c.in_ok-cells.ensures.gates c.golden_break.ensures

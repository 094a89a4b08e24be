use Rattle.std.proofs.Common.{arith}
use Rattle.dg_nor.proofs.ChipLemmas.{CutProgram-same}
use Rattle.dg_plan.specs.Plans.{planned}
use Rattle.dg_plan.proofs.recording.PlanNor.program.Goals as goal

pub returns-then-is_stopped-clause-cut : goal.returns-then-is_stopped-clause-cut
returns-then-is_stopped-clause-cut c =
    let whole = c.args.self.now.cells.cells in
    CutProgram-same (planned c.args.self.now) c.args.at c.args.bytes.now (omega arith)

pub returns-then-self-clause-cut : goal.returns-then-self-clause-cut
returns-then-self-clause-cut c =
    let whole = c.args.self.now.cells.cells in
    CutProgram-same (planned c.args.self.now) c.args.at c.args.bytes.now (omega arith)

pub returns-then-min-self-clause-cut : goal.returns-then-min-self-clause-cut
returns-then-min-self-clause-cut c =
    let whole = c.args.self.now.cells.cells in
    CutProgram-same (planned c.args.self.now) c.args.at c.args.bytes.now (omega arith)

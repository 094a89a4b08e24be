use Rattle.std.proofs.Common.{◌+◌, length, ◌∙◌, arith}
use Rattle.dg_words.proofs.CellLemmas.{between-part}
use Rattle.dg_plan.proofs.plan.Plan.look_at_handed.Goals as goal

pub returns : goal.returns
returns c =
    let n = length c.args.into.now in
    c.copy_from_slice.ensures.after ∙ between-part c.args.self.now.chip.now c.args.at (c.args.at + n) n (omega arith)

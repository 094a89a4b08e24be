use Rattle.std.proofs.Common.{◌≡◌, take, length}
use Rattle.dg_words.specs.Cells.{part}
use Rattle.dg_plan.specs.Commands.{carried_out}
use Rattle.dg_plan.proofs.plan.Plan.look.Given as goal

abbrev pub invariant-loop-k : goal.invariant-loop-k
invariant-loop-k l = l.into ≡ part (carried_out l.bytes (take l.k l.commands) l.self.chip.now) l.at (length l.fn.into)

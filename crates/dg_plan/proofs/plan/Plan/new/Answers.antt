use Rattle.std.proofs.Common.{refl, arith}
use Rattle.dg_words.proofs.CellLemmas.{AreBytes_fits}
use Rattle.dg_plan.specs.Commands.{carried_out}
use Rattle.dg_plan.proofs.plan.Plan.new.Goals as goal

pub invariant_of-result-clause-fit : goal.invariant_of-result-clause-fit
invariant_of-result-clause-fit c = λ k l. absurd (omega (arith, l))

pub invariant_of-result-clause-cells : goal.invariant_of-result-clause-cells
unfolding carried_out
invariant_of-result-clause-cells c = record { cells = c.requires; bytes = AreBytes_fits c.args.chip.now c.type_inv.chip }

pub returns-clause-same : goal.returns-clause-same
unfolding carried_out
returns-clause-same c = refl

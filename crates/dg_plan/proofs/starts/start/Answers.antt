use Rattle.dg_plan.proofs.StartLemmas.{with_plan}
use Rattle.dg_plan.proofs.PlanLemmas.{lists_lent, chip_lent}
use Rattle.dg_plan.proofs.starts.start.Goals as goal

pub returns-clause-started : goal.returns-clause-started
returns-clause-started c = with_plan c.start.result c.args.kind c.args.plan.now c.start.new.nor c.start.ensures.started

pub returns-clause-no_volume : goal.returns-clause-no_volume
returns-clause-no_volume c = λ e. (c.start.ensures.not_a_volume e).0

pub returns-clause-same_lists : goal.returns-clause-same_lists
returns-clause-same_lists c = lists_lent c.start.new.nor c.args.plan.now c.start.ensures.same_reference

pub returns-clause-same_chip : goal.returns-clause-same_chip
returns-clause-same_chip c = chip_lent c.start.new.nor c.args.plan.now c.start.ensures.same_reference

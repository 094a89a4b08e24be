use Rattle.dg_trials.proofs.OneMoteLemmas.{may_apply, one_then, may_ask}
use Rattle.dg_trials.proofs.known_boards.known_after.Goals as goal

pub apply-requires : goal.apply-requires
apply-requires g c = record { world = may_apply c.args.world.now _ c.in_ok-step.step c.requires c.in_ok-step.ensures }

pub known-requires : goal.known-requires
known-requires g c = may_ask c.apply.new.self _ (one_then c.args.world.now c.apply.new.self _ _ _ _ c.in_ok-step.step _ c.requires c.in_ok-step.ensures c.in-Ok.ensures.applied)

pub returns-in-Ok : goal.returns-in-Ok
returns-in-Ok g c = one_then c.args.world.now c.apply.new.self _ _ _ _ c.in_ok-step.step _ c.requires c.in_ok-step.ensures c.in-Ok.ensures.applied

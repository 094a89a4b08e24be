use Rattle.std.proofs.Common.{map, ap}
use Rattle.std.specs.Prelude.{Ok}
use Rattle.dg_rehearse.specs.Courses.{scene}
use Rattle.dg_rehearse.specs.Rehearsed.{staging}
use Rattle.dg_rehearse.specs.Turns.{started_courses, injected_course}
use Rattle.dg_rehearse.proofs.CourseLemmas.{moves_then}
use Rattle.dg_rehearse.proofs.EndLemmas.{begun_after}
use Rattle.dg_rehearse.proofs.PlayLemmas.{goes_to, still_under_way}
use Rattle.dg_rehearse.proofs.schedule.Schedule.open.Goals as goal

pub inject-requires : goal.inject-requires
inject-requires g c = record { under_way = still_under_way c.args.profile.now c.args.plan.now _ _ c.in_ok-start_all.ensures.goes_on c.requires.under_way }

pub returns-in-Done-clause-goes_on : goal.returns-in-Done-clause-goes_on
returns-in-Done-clause-goes_on g c = goes_to c.inject.result _ _ _ _ _ c.in_ok-start_all.ensures.goes_on c.inject.ensures.goes_on

pub returns-in-Done-clause-moves : goal.returns-in-Done-clause-moves
returns-in-Done-clause-moves g c = λ e.
    moves_then (started_courses c.args.plan.now c.args.profile.now.motes) (injected_course c.args.plan.now) c.args.profile.now c.args.plan.now (scene c.args.self.now c.args.stage.now (map g.N.Nor.device c.args.boards.now.items)) (scene c.start_all.new.self c.start_all.new.stage (map g.N.Nor.device c.start_all.new.boards.items)) (scene c.inject.new.self c.inject.new.stage (map g.N.Nor.device c.inject.new.boards.items)) (c.in_ok-start_all.ensures.moves (ap Ok c.in-Done.is)) (c.inject.ensures.moves e)

pub returns-in-Done-clause-begun : goal.returns-in-Done-clause-begun
returns-in-Done-clause-begun g c = λ e. begun_after c.args.profile.now c.args.plan.now _ _ _ c.in_ok-start_all.ensures.goes_on (c.inject.ensures.begun e)

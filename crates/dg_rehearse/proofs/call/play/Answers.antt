use Rattle.std.proofs.Common.{refl, map}
use Rattle.dg_rehearse.specs.Courses.{agenda_of, scene}
use Rattle.dg_rehearse.specs.Rehearsed.{staging}
use Rattle.dg_rehearse.proofs.FirstLemmas.{clocked}
use Rattle.dg_rehearse.proofs.SpellLemmas.{rehearsed}
use Rattle.dg_rehearse.proofs.EndLemmas.{ended, delivers}
use Rattle.dg_rehearse.proofs.call.play.Goals as goal

pub returns-clause-rehearsed : goal.returns-clause-rehearsed
returns-clause-rehearsed g c = rehearsed c.args.profile.now c.args.plan.now _ _ c.requires.allowed c.requires.planned (c.in_ok-ending.ensures.goes_on.goes _ c.in_ok-stage.ensures.staged).0.staged

pub returns-clause-ends : goal.returns-clause-ends
returns-clause-ends g c = ended c.scripts_with_golden.ensures.agrees c.args.profile.now c.args.plan.now _ _ _ _ _ c.requires.allowed c.requires.planned c.in_ok-stage.ensures.staged (c.in_ok-ending.ensures.ends c.in_ok-ending.ending refl)

pub returns-clause-along : goal.returns-clause-along
returns-clause-along g c = delivers c.args.profile.now c.args.plan.now _ _ _ c.requires.allowed c.requires.planned c.in_ok-stage.ensures.staged c.in_ok-ending.ensures.goes_on

pub returns-clause-by_clock : goal.returns-clause-by_clock
returns-clause-by_clock g c = λ enough.
    clocked c.args.profile.now c.args.plan.now c.in_ok-ending.ending (agenda_of c.of-schedule.result) (staging c.in_ok-stage.stage (map g.N.Nor.device c.set.new.boards.items)) (scene c.play.new.self c.play.new.stage (map g.N.Nor.device c.play.new.boards.items)) _ (c.of-schedule.ensures c.planned_pages-pages.ensures)
    c.in_ok-stage.ensures.begins (c.in_ok-ending.ensures.by_clock c.in_ok-ending.ending refl enough) refl refl refl

use Rattle.dg_rehearse.proofs.PlayLemmas.{goes_nowhere}
use Rattle.std.proofs.Common.{map}
use Rattle.std.proofs.Common.{sym, ◌∙◌}
use Rattle.dg_rehearse.specs.Courses.{agenda_of, scene}
use Rattle.dg_rehearse.specs.Rehearsed.{staging}
use Rattle.dg_rehearse.proofs.ClockLemmas.{done_not, done_as, read_moves}
use Rattle.dg_rehearse.proofs.CourseLemmas.{moves_none}
use Rattle.dg_rehearse.proofs.EndLemmas.{ok_same}
use Rattle.dg_rehearse.proofs.schedule.Schedule.is_complete.Goals as goal

pub returns-then-not-is_complete-clause-goes_on : goal.returns-then-not-is_complete-clause-goes_on
returns-then-not-is_complete-clause-goes_on g c = goes_nowhere _ _ _

pub returns-then-not-is_complete-clause-moves : goal.returns-then-not-is_complete-clause-moves
returns-then-not-is_complete-clause-moves g c = moves_none c.args.profile.now c.args.plan.now (scene c.args.self.now c.args.stage.now (map g.N.Nor.device c.args.boards.now.items))

pub returns-then-not-is_complete-clause-value : goal.returns-then-not-is_complete-clause-value
returns-then-not-is_complete-clause-value g c = λ is e x k. sym (ok_same _ is e) ∙ done_not c.args.profile.now c.args.plan.now (scene c.args.self.now c.args.stage.now (map g.N.Nor.device c.args.boards.now.items)) (sym (c.is_complete.ensures (agenda_of c.args.self.now)) ∙ c.if-not-is_complete.true) x k

pub returns-clause-moves : goal.returns-clause-moves
returns-clause-moves g c =
    read_moves c.args.profile.now c.args.plan.now (agenda_of c.args.self.now) c.args.stage.now.world c.is_complete-2.new.self.world _ _ c.args.stage.now.script.items c.is_complete-2.new.self.script.items c.args.stage.now.moment c.is_complete-2.new.self.moment c.is_complete-2.ensures.stands c.is_complete-2.ensures.script c.is_complete-2.ensures.moment

pub returns-clause-value : goal.returns-clause-value
returns-clause-value g c = λ is e x k. done_as c.args.profile.now c.args.plan.now (scene c.args.self.now c.args.stage.now (map g.N.Nor.device c.args.boards.now.items)) is (sym (c.is_complete.ensures (agenda_of c.args.self.now)) ∙ c.if-not-is_complete.false) (c.is_complete-2.ensures.value is e) x k

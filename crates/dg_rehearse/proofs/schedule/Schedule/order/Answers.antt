use Rattle.dg_rehearse.proofs.PlayLemmas.{goes_nowhere}
use Rattle.dg_rehearse.proofs.EndLemmas.{unordered, ordered_by}
use Rattle.std.proofs.Common.{map}
use Rattle.dg_base.specs.declared.events.Event.TheVariants.{Order}
use Rattle.dg_rehearse.specs.Courses.{agenda_of, scene}
use Rattle.dg_rehearse.specs.Rehearsed.{staging}
use Rattle.dg_rehearse.proofs.CourseLemmas.{word_moves}
use Rattle.dg_rehearse.proofs.TurnLemmas.{order_moves, unordered_moves}
use Rattle.dg_rehearse.proofs.schedule.Schedule.order.Goals as goal

pub returns-then-not-plan-clause-goes_on : goal.returns-then-not-plan-clause-goes_on
returns-then-not-plan-clause-goes_on g c = goes_nowhere _ _ _

pub returns-then-not-plan-clause-ordered : goal.returns-then-not-plan-clause-ordered
returns-then-not-plan-clause-ordered g c = λ _. unordered c.args.profile.now c.args.plan.now _ c.if-not-plan.true

pub returns-clause-ordered : goal.returns-clause-ordered
returns-clause-ordered g c = λ e. ordered_by c.args.profile.now c.args.plan.now c.draw-word.result _ _ (c.event.ensures.makes e)

pub returns-then-not-plan-clause-moves : goal.returns-then-not-plan-clause-moves
returns-then-not-plan-clause-moves g c = λ _. unordered_moves c.args.profile.now c.args.plan.now (scene c.args.self.now c.args.stage.now (map g.N.Nor.device c.args.boards.now.items)) c.if-not-plan.true

pub returns-clause-moves : goal.returns-clause-moves
returns-clause-moves g c = λ e.
    order_moves c.args.profile.now c.args.plan.now (scene c.args.self.now c.args.stage.now (map g.N.Nor.device c.args.boards.now.items)) (scene c.event.new.self c.event.new.stage (map g.N.Nor.device c.event.new.boards.items)) c.if-not-plan.false
    (word_moves (λ v. Order c.args.plan.now.at 1 c.args.plan.now.image c.args.plan.now.version 0 v) c.args.profile.now c.args.plan.now (agenda_of c.args.self.now) (agenda_of c.draw-word.new.self) (staging c.args.stage.now (map g.N.Nor.device c.args.boards.now.items)) (scene c.event.new.self c.event.new.stage (map g.N.Nor.device c.event.new.boards.items)) c.draw-word.result c.draw-word.ensures.word c.draw-word.ensures.past (c.event.ensures.moves e))

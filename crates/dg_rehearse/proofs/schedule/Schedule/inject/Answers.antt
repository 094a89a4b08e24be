use Rattle.std.proofs.Common.{ap}
use Rattle.std.specs.Prelude.{Ok}
use Rattle.dg_rehearse.proofs.PlayLemmas.{goes_to, still_under_way}
use Rattle.dg_rehearse.proofs.EndLemmas.{begun_by, injected_by}
use Rattle.std.proofs.Common.{map}
use Rattle.dg_base.specs.declared.events.Event.TheVariants.{Inject}
use Rattle.dg_rehearse.specs.Courses.{agenda_of, scene}
use Rattle.dg_rehearse.specs.Rehearsed.{staging}
use Rattle.dg_rehearse.proofs.CourseLemmas.{word_moves}
use Rattle.dg_rehearse.proofs.TurnLemmas.{inject_moves}
use Rattle.dg_rehearse.proofs.schedule.Schedule.inject.Goals as goal

pub order-requires : goal.order-requires
order-requires g c = record { under_way = still_under_way c.args.profile.now c.args.plan.now _ _ c.in_ok-event.ensures.goes_on c.requires.under_way }

pub returns-in-Done-clause-goes_on : goal.returns-in-Done-clause-goes_on
returns-in-Done-clause-goes_on g c = goes_to c.order.result _ _ _ _ _ c.in_ok-event.ensures.goes_on c.order.ensures.goes_on

pub returns-in-Done-clause-begun : goal.returns-in-Done-clause-begun
returns-in-Done-clause-begun g c = λ e.
    begun_by c.args.profile.now c.args.plan.now _ _ _ (injected_by c.args.profile.now c.args.plan.now c.draw-word.result _ _ (c.in_ok-event.ensures.makes (ap Ok c.in-Done.is))) (c.order.ensures.ordered e)

pub returns-in-Done-clause-moves : goal.returns-in-Done-clause-moves
returns-in-Done-clause-moves g c = λ e.
    inject_moves c.args.profile.now c.args.plan.now (scene c.args.self.now c.args.stage.now (map g.N.Nor.device c.args.boards.now.items)) (scene c.event.new.self c.event.new.stage (map g.N.Nor.device c.event.new.boards.items)) (scene c.order.new.self c.order.new.stage (map g.N.Nor.device c.order.new.boards.items))
    (word_moves (λ v. Inject c.args.plan.now.at c.args.plan.now.image c.args.plan.now.version 0 v) c.args.profile.now c.args.plan.now (agenda_of c.args.self.now) (agenda_of c.draw-word.new.self) (staging c.args.stage.now (map g.N.Nor.device c.args.boards.now.items)) (scene c.event.new.self c.event.new.stage (map g.N.Nor.device c.event.new.boards.items)) c.draw-word.result c.draw-word.ensures.word c.draw-word.ensures.past (c.in_ok-event.ensures.moves (ap Ok c.in-Done.is)))
    (c.order.ensures.moves e)

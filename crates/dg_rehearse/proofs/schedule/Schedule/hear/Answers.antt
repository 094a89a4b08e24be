use Rattle.dg_rehearse.proofs.PlayLemmas.{goes_nowhere}
use Rattle.std.proofs.Common.{map, sym, ◌∙◌}
use Rattle.dg_rehearse.specs.Courses.{agenda_of, scene}
use Rattle.dg_rehearse.specs.Rehearsed.{staging}
use Rattle.dg_rehearse.proofs.PlayLemmas.{hears_along}
use Rattle.dg_rehearse.proofs.TurnLemmas.{unheard_moves, lost_moves, heard_moves}
use Rattle.dg_rehearse.proofs.schedule.Schedule.hear.Goals as goal

pub returns-then-not-can_hear-clause-goes_on : goal.returns-then-not-can_hear-clause-goes_on
returns-then-not-can_hear-clause-goes_on g c = goes_nowhere _ _ _

pub returns-then-is_lost-clause-goes_on : goal.returns-then-is_lost-clause-goes_on
returns-then-is_lost-clause-goes_on g c = goes_nowhere _ _ _

pub event-requires-clause-along : goal.event-requires-clause-along
event-requires-clause-along g c = hears_along c.args.profile.now (staging c.args.stage.now (map g.N.Nor.device c.args.boards.now.items)) c.args.sent.now.from c.args.mote 0 c.draw-word.result c.args.sent.now.frame (c.can_hear.ensures.linked c.if-not-can_hear.false) c.requires.sent

pub returns-then-not-can_hear-clause-moves : goal.returns-then-not-can_hear-clause-moves
returns-then-not-can_hear-clause-moves g c = λ _.
    unheard_moves c.args.profile.now c.args.plan.now c.args.sent.now.from c.args.sent.now.frame c.args.mote (scene c.args.self.now c.args.stage.now (map g.N.Nor.device c.args.boards.now.items)) (λ w is. sym c.if-not-can_hear.true ∙ c.can_hear.ensures.value _ w is)

pub returns-then-is_lost-clause-moves : goal.returns-then-is_lost-clause-moves
returns-then-is_lost-clause-moves g c = λ _.
    lost_moves c.args.profile.now c.args.plan.now c.args.sent.now.from c.args.sent.now.frame c.args.mote (agenda_of c.args.self.now) (agenda_of c.draw-drawn.new.self) (staging c.args.stage.now (map g.N.Nor.device c.args.boards.now.items)) c.draw-drawn.result (λ w is. sym c.if-not-can_hear.false ∙ c.can_hear.ensures.value _ w is)
    c.draw-drawn.ensures.word c.draw-drawn.ensures.past (c.is_lost.ensures.lost c.if-is_lost.true)

pub returns-clause-moves : goal.returns-clause-moves
returns-clause-moves g c = λ e.
    heard_moves c.args.profile.now c.args.plan.now c.args.sent.now.from c.args.sent.now.frame c.args.mote (agenda_of c.args.self.now) (agenda_of c.draw-drawn.new.self) (agenda_of c.draw-word.new.self) (staging c.args.stage.now (map g.N.Nor.device c.args.boards.now.items)) (scene c.event.new.self c.event.new.stage (map g.N.Nor.device c.event.new.boards.items)) c.draw-drawn.result c.draw-word.result
    (λ w is. sym c.if-not-can_hear.false ∙ c.can_hear.ensures.value _ w is) c.draw-drawn.ensures.word c.draw-drawn.ensures.past (c.is_lost.ensures.kept c.if-is_lost.false) c.draw-word.ensures.word c.draw-word.ensures.past (c.event.ensures.moves e)

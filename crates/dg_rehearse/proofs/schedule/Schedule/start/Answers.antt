use Rattle.std.proofs.Common.{map}
use Rattle.dg_base.specs.declared.events.Event.TheVariants.{Reset}
use Rattle.dg_rehearse.specs.Courses.{agenda_of, scene}
use Rattle.dg_rehearse.specs.Rehearsed.{staging}
use Rattle.dg_rehearse.proofs.CourseLemmas.{word_moves}
use Rattle.dg_rehearse.proofs.schedule.Schedule.start.Goals as goal

pub returns-clause-moves : goal.returns-clause-moves
returns-clause-moves g c = λ e.
    word_moves (λ v. Reset c.args.mote 0 v) c.args.profile.now c.args.plan.now (agenda_of c.args.self.now) (agenda_of c.draw-word.new.self) (staging c.args.stage.now (map g.N.Nor.device c.args.boards.now.items)) (scene c.event.new.self c.event.new.stage (map g.N.Nor.device c.event.new.boards.items)) c.draw-word.result c.draw-word.ensures.word c.draw-word.ensures.past (c.event.ensures.moves e)

use Rattle.std.proofs.Common.{ap, ◌∙◌}
use Rattle.dg_rehearse.specs.Courses.{agenda_of, past_draw}
use Rattle.dg_rehearse.proofs.TurnLemmas.{cut_of_draws}
use Rattle.dg_rehearse.proofs.schedule.Schedule.drawn_cut.Goals as goal

pub returns-clause-value : goal.returns-clause-value
returns-clause-value c = cut_of_draws c.start_cut.result c.draw-mask.result c.draw-after.result (agenda_of c.args.self.now) (agenda_of c.draw-mask.new.self) c.draw-mask.ensures.word c.draw-mask.ensures.past c.draw-after.ensures.word c.start_cut.ensures.value

pub returns-clause-past : goal.returns-clause-past
returns-clause-past c = c.draw-after.ensures.past ∙ ap past_draw c.draw-mask.ensures.past

use Rattle.std.proofs.Common.{map, refl, ap, ◌∙◌}
use Rattle.dg_base.specs.declared.events.Event.TheVariants.{Reset}
use Rattle.dg_rehearse.specs.Courses.{agenda_of, scene}
use Rattle.dg_rehearse.specs.Rehearsed.{staging}
use Rattle.dg_rehearse.specs.Courses.{moment_after}
use Rattle.dg_rehearse.specs.Turns.{next_cut_at}
use Rattle.dg_rehearse.proofs.CourseLemmas.{cut_moves}
use Rattle.dg_rehearse.proofs.TurnLemmas.{cut_turn_from}
use Rattle.dg_rehearse.proofs.schedule.Schedule.cut.Goals as goal

pub returns-clause-moves : goal.returns-clause-moves
returns-clause-moves g c = λ e.
    cut_turn_from c.args.profile.now c.args.plan.now c.args.moment (agenda_of c.args.self.now) (agenda_of c.draw-first.new.self) (agenda_of c.draw-word.new.self) (agenda_of c.drawn_cut.new.self) (agenda_of c.draw-wait.new.self) (agenda_of c.wait_for_cut.new.self) (staging c.args.stage.now (map g.N.Nor.device c.args.boards.now.items))
    (scene c.note.new.self c.play_cut.new.self (map g.N.Nor.device c.play_cut.new.boards.items)) c.draw-first.result c.chosen_mote-mote.result c.draw-word.result c.draw-wait.result c.since-dt.result c.later.result c.in_ok-cut.cut
    c.draw-first.ensures.word c.draw-first.ensures.past c.draw-word.ensures.word c.draw-word.ensures.past c.in_ok-cut.ensures.value c.drawn_cut.ensures.past c.draw-wait.ensures.word c.draw-wait.ensures.past
    c.chosen_mote-mote.ensures.value c.since-dt.ensures c.later.ensures c.wait_for_cut.ensures
    (cut_moves c.args.profile.now c.args.plan.now c.in_ok-cut.cut (Reset c.chosen_mote-mote.result c.since-dt.result c.draw-word.result) c.chosen_mote-mote.result (agenda_of c.wait_for_cut.new.self) (agenda_of c.note.new.self) (staging c.args.stage.now (map g.N.Nor.device c.args.boards.now.items)) (staging c.play_cut.new.self (map g.N.Nor.device c.play_cut.new.boards.items)) c.play_cut.new.self.reports.items refl
    (c.in_ok-played.ensures.steps e) (λ w is. c.note.ensures _ c.args.profile.now w is c.chosen_mote-mote.ensures.known))

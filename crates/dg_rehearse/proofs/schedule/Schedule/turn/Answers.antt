use Rattle.std.proofs.Common.{ℕ, map, ap, subst}
use Rattle.std.specs.Prelude.{Ok}
use Rattle.dg_rehearse.specs.Rehearsed.{IsContinued, SendsAtMost, staging}
use Rattle.dg_rehearse.proofs.PlayLemmas.{at_ok, goes_to, still_under_way, last_sent, more_then}
use Rattle.std.proofs.Common.{◌<◌, Bool, sym, ◌∙◌}
use Rattle.dg_rehearse.specs.Courses.{agenda_of, scene}
use Rattle.dg_rehearse.specs.Turns.{turn_event}
use Rattle.dg_rehearse.proofs.TurnLemmas.{turn_moves}
use Rattle.dg_rehearse.proofs.schedule.Schedule.turn.Goals as goal

pub event-requires-clause-fits : goal.event-requires-clause-fits
event-requires-clause-fits g c = c.event_of_turn-event.ensures.fits c.args.profile.now.motes c.requires.known

pub event-requires-clause-along : goal.event-requires-clause-along
event-requires-clause-along g c = c.event_of_turn-event.ensures.along c.args.profile.now (staging c.args.stage.now (map g.N.Nor.device c.args.boards.now.items))

pub deliver-requires-clause-under_way : goal.deliver-requires-clause-under_way
deliver-requires-clause-under_way g c = still_under_way c.args.profile.now c.args.plan.now _ _ c.in_ok-played.ensures.goes_on c.requires.under_way

pub deliver-requires-clause-sent : goal.deliver-requires-clause-sent
deliver-requires-clause-sent g c =
    last_sent c.args.profile.now c.args.plan.now (staging c.args.stage.now (map g.N.Nor.device c.args.boards.now.items)) (staging c.event.new.stage (map g.N.Nor.device c.event.new.boards.items)) c.args.next.mote c.frames_sent-before.result c.requires.under_way (λ w is. c.frames_sent-before.ensures _ w is)
    (λ w v here there. subst (λ (k : ℕ). SendsAtMost k w.sent v.sent) c.event_of_turn-event.ensures.mote (c.in_ok-played.ensures.sends w v here there))

pub returns-in-Done-clause-goes_on : goal.returns-in-Done-clause-goes_on
returns-in-Done-clause-goes_on g c = goes_to c.deliver.result _ _ _ _ _ c.in_ok-played.ensures.goes_on c.deliver.ensures.goes_on

pub returns-in-Done-clause-events : goal.returns-in-Done-clause-events
returns-in-Done-clause-events g c = λ e.
    more_then c.args.profile.now c.args.plan.now (staging c.args.stage.now (map g.N.Nor.device c.args.boards.now.items)) (staging c.event.new.stage (map g.N.Nor.device c.event.new.boards.items)) (staging c.deliver.new.stage (map g.N.Nor.device c.deliver.new.boards.items)) (c.in_ok-played.ensures.makes (ap Ok c.in-Done.is)).1 (at_ok c.deliver.result _ (IsContinued c.args.profile.now c.args.plan.now (staging c.event.new.stage (map g.N.Nor.device c.event.new.boards.items)) (staging c.deliver.new.stage (map g.N.Nor.device c.deliver.new.boards.items))) e c.deliver.ensures.goes_on)

pub returns-in-Done-clause-moves : goal.returns-in-Done-clause-moves
returns-in-Done-clause-moves g c = λ e.
    turn_moves c.args.profile.now c.args.plan.now c.args.next (agenda_of c.args.self.now) (agenda_of c.draw-word.new.self) (agenda_of c.event.new.self) (agenda_of c.rest.new.self) (staging c.args.stage.now (map g.N.Nor.device c.args.boards.now.items)) (staging c.event.new.stage (map g.N.Nor.device c.event.new.boards.items)) (scene c.deliver.new.self c.deliver.new.stage (map g.N.Nor.device c.deliver.new.boards.items))
    c.due.result c.since-dt.result c.draw-word.result c.frames_sent-before.result c.later.result c.event_of_turn-event.result
    (λ w is. c.due.ensures.value _ w is.is (subst (λ (k : ℕ). c.args.next.mote < k) (sym is.count) c.requires.known)) c.since-dt.ensures c.draw-word.ensures.word c.draw-word.ensures.past
    (c.event_of_turn-event.ensures.value ∙ ap (λ (b : Bool). turn_event b c.args.next.mote c.since-dt.result c.draw-word.result) c.is_some.ensures) (λ w is. c.frames_sent-before.ensures _ w is.is) (c.in_ok-played.ensures.moves (ap Ok c.in-Done.is)) c.rest.ensures c.later.ensures (c.deliver.ensures.moves e)

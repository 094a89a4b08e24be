use Rattle.std.proofs.Common.{ap, ◌∙◌}
use Rattle.std.proofs.lemmas.Result.{err_from_is_err_and}
use Rattle.dg_rounds.specs.Left.{left_of_sweep}
use Rattle.dg_rounds.specs.Rounds.{sweep}
use Rattle.dg_trial.proofs.LoopLemmas.{events_none, event_may, event_played, event_stopped, events_all}
use Rattle.dg_trial.proofs.playing.play_sweep.Goals as goal

pub loop-event-init : goal.loop-event-init
loop-event-init g c = events_none (sweep c.args.links.now) _ c.args.world.now _ (ap left_of_sweep c.into_iter-event-iterator.ensures.into_iter_gives ∙ c.sweep-event-items.ensures)

pub play_event-requires : goal.play_event-requires
play_event-requires g c =
    (c.requires.0, event_may c.what_is_left_may_be_played.ensures c.requires.0 (sweep c.args.links.now) c.loop-event.yielded _ (left_of_sweep c.next.new.self) c.in-Some.event c.args.world.now c.loop-event.world _ _ c.loop-event.invariant c.in-Some.ensures.steps c.requires.1)

pub loop-event-preserved : goal.loop-event-preserved
loop-event-preserved g c =
    event_played (sweep c.args.links.now) c.loop-event.yielded _ (left_of_sweep c.next.new.self) c.in-Some.event c.args.world.now c.loop-event.world c.play_event.new.world _ _ _ c.loop-event.invariant c.in-Some.ensures.steps c.in_ok-play_event.ensures

pub returns-in_err-play_event : goal.returns-in_err-play_event
returns-in_err-play_event g c =
    let p = err_from_is_err_and c.from_residual.result c.from_residual.ensures.1 in
    rw (p.1, p.2)
    (event_stopped c.in_err-play_event.field-0.0 (sweep c.args.links.now) c.loop-event.yielded _ (left_of_sweep c.next.new.self) c.in-Some.event c.args.world.now c.loop-event.world c.play_event.new.world _ _ _ c.loop-event.invariant c.in-Some.ensures.steps c.in_err-play_event.ensures)

pub returns : goal.returns
returns g c = events_all (sweep c.args.links.now) c.loop-event.yielded _ c.args.world.now c.loop-event.world _ _ c.loop-event.invariant c.in-None.ensures.steps.0

use Rattle.std.proofs.Common.{map}
use Rattle.std.proofs.lemmas.Result.{err_from_is_err_and}
use Rattle.dg_trial.proofs.LoopLemmas.{reset_front, reset_piece, reset_fronts, none_played, piece_may, piece_played, piece_stopped, all_played}
use Rattle.dg_trial.proofs.playing.play_resets.Goals as goal

pub loop-mote-init : goal.loop-mote-init
loop-mote-init g c = none_played reset_front reset_piece reset_fronts c.args.world.now (map g.N.Nor.device c.args.boards.now.items)

pub play_event-requires : goal.play_event-requires
play_event-requires g c =
    (c.args.motes, piece_may c.what_is_left_may_be_played.ensures reset_front reset_piece reset_fronts c.args.motes c.loop-mote.mote c.args.motes c.args.world.now c.loop-mote.world _ _ c.loop-mote-test.true c.requires c.loop-mote.invariant)

pub returns-in_err-play_event : goal.returns-in_err-play_event
returns-in_err-play_event g c =
    let p = err_from_is_err_and c.from_residual.result c.from_residual.ensures.1 in
    rw (p.1, p.2)
    (piece_stopped c.in_err-play_event.field-0.0 reset_front reset_piece reset_fronts c.loop-mote.mote c.args.motes c.args.world.now c.loop-mote.world c.play_event.new.world _ _ _ c.loop-mote-test.true c.loop-mote.invariant c.in_err-play_event.ensures)

pub loop-mote-preserved : goal.loop-mote-preserved
loop-mote-preserved g c = piece_played reset_front reset_piece reset_fronts c.loop-mote.mote c.args.world.now c.loop-mote.world c.play_event.new.world _ _ _ c.loop-mote.invariant c.in_ok-play_event.ensures

pub returns : goal.returns
returns g c = all_played reset_front c.loop-mote.mote c.args.motes c.args.world.now c.loop-mote.world _ _ c.loop-mote-test.false c.loop-mote.auto.mote-end c.loop-mote.invariant

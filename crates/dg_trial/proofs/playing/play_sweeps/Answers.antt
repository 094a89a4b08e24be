use Rattle.std.proofs.Common.{map}
use Rattle.std.proofs.lemmas.Result.{err_from_is_err_and}
use Rattle.dg_rounds.specs.Rounds.{sweep}
use Rattle.dg_trial.proofs.LoopLemmas.{swept_front, swept_piece, swept_fronts, none_played, piece_may, piece_played, piece_stopped, all_played}
use Rattle.dg_trial.proofs.playing.play_sweeps.Goals as goal

pub loop-init : goal.loop-init
loop-init g c =
    let es = sweep c.args.links.now in
    none_played (swept_front es) (swept_piece es) (swept_fronts es) c.args.world.now (map g.N.Nor.device c.args.boards.now.items)

pub play_sweep-requires : goal.play_sweep-requires
play_sweep-requires g c =
    let es = sweep c.args.links.now in
    (c.requires.0, piece_may c.what_is_left_may_be_played.ensures (swept_front es) (swept_piece es) (swept_fronts es) c.requires.0 c.loop.counter c.args.sweeps c.args.world.now c.loop.world _ _ c.loop-test.true c.requires.1 c.loop.invariant)

pub returns-in_err-play_sweep : goal.returns-in_err-play_sweep
returns-in_err-play_sweep g c =
    let p = err_from_is_err_and c.from_residual.result c.from_residual.ensures.1 in
    let es = sweep c.args.links.now in
    rw (p.1, p.2)
    (piece_stopped c.in_err-play_sweep.field-0.0 (swept_front es) (swept_piece es) (swept_fronts es) c.loop.counter c.args.sweeps c.args.world.now c.loop.world c.play_sweep.new.world _ _ _ c.loop-test.true c.loop.invariant c.in_err-play_sweep.ensures)

pub loop-preserved : goal.loop-preserved
loop-preserved g c =
    let es = sweep c.args.links.now in
    piece_played (swept_front es) (swept_piece es) (swept_fronts es) c.loop.counter c.args.world.now c.loop.world c.play_sweep.new.world _ _ _ c.loop.invariant c.in_ok-play_sweep.ensures

pub returns : goal.returns
returns g c = all_played (swept_front (sweep c.args.links.now)) c.loop.counter c.args.sweeps c.args.world.now c.loop.world _ _ c.loop-test.false c.loop.auto.counter-end c.loop.invariant

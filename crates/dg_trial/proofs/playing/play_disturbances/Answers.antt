use Rattle.std.proofs.Common.{◌*◌, List, [], map, sym, ap, subst, ◌∙◌}
use Rattle.std.proofs.lemmas.Result.{err_from_is_err_and}
use Rattle.rand_pcg.specs.Lcg.{Lcg}
use Rattle.dg_seed.specs.Draws.{generator_of}
use Rattle.dg_trial.specs.Schedule.{SchedulePart, disturbances, drawn}
use Rattle.dg_trial.specs.Playing.{MayPlayOver, PartsRecorded}
use Rattle.dg_trial.proofs.LoopLemmas.{disturbed_front, disturbed_piece, disturbed_fronts, piece_may, piece_stopped, all_played}
use Rattle.dg_trial.proofs.RecordLemmas.{adds_none, recorded_none, recorded_so_far, piece_recorded, all_recorded}
use Rattle.dg_trial.proofs.ScheduleLemmas.{drawn_none, drawn_more}
use Rattle.dg_trial.proofs.playing.play_disturbances.Goals as goal

pub loop-init : goal.loop-init
loop-init g c =
    let s = generator_of c.args.draws.now in
    record {
      draws = sym (drawn_none s);
      recorded = adds_none c.args.steps.now.items _
          (subst (λ (ps : List SchedulePart). PartsRecorded c.args.motes ps [] c.args.world.now c.args.world.now (map g.N.Nor.device c.args.boards.now.items) (map g.N.Nor.device c.args.boards.now.items)) (sym (disturbed_fronts c.args.motes s).none) (recorded_none c.args.motes c.args.world.now (map g.N.Nor.device c.args.boards.now.items)));
    }

pub play_disturbance-requires-clause-may : goal.play_disturbance-requires-clause-may
play_disturbance-requires-clause-may g c =
    let s = generator_of c.args.draws.now in
    subst (λ (x : Lcg). MayPlayOver c.args.motes c.loop.world (map g.N.Nor.device c.loop.boards.items) (disturbances c.args.motes 1 x)) (sym c.loop.invariant.draws)
    (piece_may c.what_is_left_may_be_played.ensures (disturbed_front c.args.motes s) (disturbed_piece c.args.motes s) (disturbed_fronts c.args.motes s) c.args.motes c.loop.counter (100 * c.args.motes) c.args.world.now c.loop.world _ _ (rw c.from-end.ensures at c.loop-test.true) c.requires.may (recorded_so_far c.args.motes (disturbed_front c.args.motes s c.loop.counter) _ _ c.args.world.now c.loop.world _ _ c.loop.invariant.recorded))

pub returns-in_err-play_disturbance-clause-played : goal.returns-in_err-play_disturbance-clause-played
returns-in_err-play_disturbance-clause-played g c =
    let p = err_from_is_err_and c.from_residual.result c.from_residual.ensures.1 in
    let s = generator_of c.args.draws.now in
    rw (p.1, p.2)
    (piece_stopped c.in_err-play_disturbance.field-0.0 (disturbed_front c.args.motes s) (disturbed_piece c.args.motes s) (disturbed_fronts c.args.motes s) c.loop.counter (100 * c.args.motes) c.args.world.now c.loop.world c.play_disturbance.new.world _ _ _ (rw c.from-end.ensures at c.loop-test.true) (recorded_so_far c.args.motes (disturbed_front c.args.motes s c.loop.counter) _ _ c.args.world.now c.loop.world _ _ c.loop.invariant.recorded)
    (rw c.loop.invariant.draws at c.in_err-play_disturbance.ensures.played))

pub loop-preserved : goal.loop-preserved
loop-preserved g c =
    let s = generator_of c.args.draws.now in
    record {
      draws = c.in_ok-play_disturbance.ensures.drawn ∙ ap (drawn 1) c.loop.invariant.draws ∙ sym (drawn_more c.loop.counter s);
      recorded = piece_recorded (disturbed_front c.args.motes s) (disturbed_piece c.args.motes s) (disturbed_fronts c.args.motes s) c.args.motes c.loop.counter _ _ _ c.args.world.now c.loop.world c.play_disturbance.new.world _ _ _ c.loop.invariant.recorded
          (rw c.loop.invariant.draws at c.in_ok-play_disturbance.ensures.recorded);
    }

pub returns-clause-recorded : goal.returns-clause-recorded
returns-clause-recorded g c =
    let s = generator_of c.args.draws.now in
    all_recorded (disturbed_front c.args.motes s) c.args.motes c.loop.counter (100 * c.args.motes) _ _ c.args.world.now c.loop.world _ _ (rw c.from-end.ensures at c.loop-test.false) (rw c.from-end.ensures at c.loop.auto.counter-end) c.loop.invariant.recorded

pub returns-clause-played : goal.returns-clause-played
returns-clause-played g c =
    let s = generator_of c.args.draws.now in
    all_played (disturbed_front c.args.motes s) c.loop.counter (100 * c.args.motes) c.args.world.now c.loop.world _ _ (rw c.from-end.ensures at c.loop-test.false) (rw c.from-end.ensures at c.loop.auto.counter-end)
    (recorded_so_far c.args.motes (disturbed_front c.args.motes s c.loop.counter) _ _ c.args.world.now c.loop.world _ _ c.loop.invariant.recorded)

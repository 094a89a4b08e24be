use Rattle.std.proofs.Common.{◌*◌, List, [], ◌++◌, map, subst}
use Rattle.std.specs.Prelude.{Ok}
use Rattle.std.proofs.lemmas.Result.{err_from_is_err_and}
use Rattle.dg_rounds.specs.Rounds.{times, sweep}
use Rattle.dg_seed.specs.Draws.{generator_of}
use Rattle.dg_trial.specs.Schedule.{SchedulePart, always, resets, opening, disturbances}
use Rattle.dg_trial.specs.Playing.{PartsPlay}
use Rattle.dg_trial.proofs.PartLemmas.{so_far_none, so_far_more, so_far_stop, may_next}
use Rattle.dg_trial.proofs.LoopLemmas.{rested_pieces, played_so_far}
use Rattle.dg_trial.proofs.playing.play.Goals as goal

pub play_disturbed-requires-clause-may : goal.play_disturbed-requires-clause-may
play_disturbed-requires-clause-may g c =
    let n = c.args.motes in
    let first = c.args.world.now in
    let old = map g.N.Nor.device c.args.boards.now.items in
    let a : List SchedulePart = opening n ++ disturbances n (100 * n) (generator_of c.args.draws.now) in
    let r : List SchedulePart = map always (resets n) in
    let at = rested_pieces n (disturbances n (100 * n) (generator_of c.args.draws.now)) (times c.args.sweeps (sweep c.args.links.now)) in
    may_next c.what_is_left_may_be_played.ensures n [] a _ _ first first old old c.requires.may (so_far_none first old) at.first

pub play_resets-requires : goal.play_resets-requires
play_resets-requires g c =
    let n = c.args.motes in
    let first = c.args.world.now in
    let old = map g.N.Nor.device c.args.boards.now.items in
    let a : List SchedulePart = opening n ++ disturbances n (100 * n) (generator_of c.args.draws.now) in
    let r : List SchedulePart = map always (resets n) in
    let at = rested_pieces n (disturbances n (100 * n) (generator_of c.args.draws.now)) (times c.args.sweeps (sweep c.args.links.now)) in
    let s1 = played_so_far a first c.play_disturbed.new.world old _ c.in_ok-play_disturbed.ensures.played in
    may_next c.what_is_left_may_be_played.ensures n a r _ _ first c.play_disturbed.new.world old _ c.requires.may s1 at.first

pub play_sweeps-requires : goal.play_sweeps-requires
play_sweeps-requires g c =
    let n = c.args.motes in
    let first = c.args.world.now in
    let old = map g.N.Nor.device c.args.boards.now.items in
    let a : List SchedulePart = opening n ++ disturbances n (100 * n) (generator_of c.args.draws.now) in
    let r : List SchedulePart = map always (resets n) in
    let at = rested_pieces n (disturbances n (100 * n) (generator_of c.args.draws.now)) (times c.args.sweeps (sweep c.args.links.now)) in
    let s1 = played_so_far a first c.play_disturbed.new.world old _ c.in_ok-play_disturbed.ensures.played in
    let s2 = so_far_more a r first c.play_disturbed.new.world c.play_resets.new.world old _ _ s1 c.in_ok-play_resets.ensures in
    (n, may_next c.what_is_left_may_be_played.ensures n (a ++ r) _ _ _ first c.play_resets.new.world old _ c.requires.may s2 at.last)

pub returns-in_err-play_disturbed : goal.returns-in_err-play_disturbed
returns-in_err-play_disturbed g c =
    let p = err_from_is_err_and c.from_residual.result c.from_residual.ensures.1 in
    let n = c.args.motes in
    let first = c.args.world.now in
    let old = map g.N.Nor.device c.args.boards.now.items in
    let a : List SchedulePart = opening n ++ disturbances n (100 * n) (generator_of c.args.draws.now) in
    let r : List SchedulePart = map always (resets n) in
    let at = rested_pieces n (disturbances n (100 * n) (generator_of c.args.draws.now)) (times c.args.sweeps (sweep c.args.links.now)) in
    rw (p.1, p.2)
    (so_far_stop c.in_err-play_disturbed.field-0.0 [] a _ _ first first c.play_disturbed.new.world old old _ (so_far_none first old) c.in_err-play_disturbed.ensures.played at.first)

pub returns-in_err-play_resets : goal.returns-in_err-play_resets
returns-in_err-play_resets g c =
    let p = err_from_is_err_and c.from_residual-in_err-play_resets.result c.from_residual-in_err-play_resets.ensures.1 in
    let n = c.args.motes in
    let first = c.args.world.now in
    let old = map g.N.Nor.device c.args.boards.now.items in
    let a : List SchedulePart = opening n ++ disturbances n (100 * n) (generator_of c.args.draws.now) in
    let r : List SchedulePart = map always (resets n) in
    let at = rested_pieces n (disturbances n (100 * n) (generator_of c.args.draws.now)) (times c.args.sweeps (sweep c.args.links.now)) in
    let s1 = played_so_far a first c.play_disturbed.new.world old _ c.in_ok-play_disturbed.ensures.played in
    rw (p.1, p.2)
    (so_far_stop c.in_err-play_resets.field-0.0 a r _ _ first c.play_disturbed.new.world c.play_resets.new.world old _ _ s1 c.in_err-play_resets.ensures at.first)

pub returns-in_err-play_sweeps : goal.returns-in_err-play_sweeps
returns-in_err-play_sweeps g c =
    let p = err_from_is_err_and c.from_residual-in_err-play_sweeps.result c.from_residual-in_err-play_sweeps.ensures.1 in
    let n = c.args.motes in
    let first = c.args.world.now in
    let old = map g.N.Nor.device c.args.boards.now.items in
    let a : List SchedulePart = opening n ++ disturbances n (100 * n) (generator_of c.args.draws.now) in
    let r : List SchedulePart = map always (resets n) in
    let at = rested_pieces n (disturbances n (100 * n) (generator_of c.args.draws.now)) (times c.args.sweeps (sweep c.args.links.now)) in
    let s1 = played_so_far a first c.play_disturbed.new.world old _ c.in_ok-play_disturbed.ensures.played in
    let s2 = so_far_more a r first c.play_disturbed.new.world c.play_resets.new.world old _ _ s1 c.in_ok-play_resets.ensures in
    rw (p.1, p.2)
    (so_far_stop c.in_err-play_sweeps.field-0.0 (a ++ r) _ [] _ first c.play_resets.new.world c.play_sweeps.new.world old _ _ s2 c.in_err-play_sweeps.ensures at.last)

pub returns : goal.returns
returns g c =
    let n = c.args.motes in
    let first = c.args.world.now in
    let old = map g.N.Nor.device c.args.boards.now.items in
    let a : List SchedulePart = opening n ++ disturbances n (100 * n) (generator_of c.args.draws.now) in
    let r : List SchedulePart = map always (resets n) in
    let at = rested_pieces n (disturbances n (100 * n) (generator_of c.args.draws.now)) (times c.args.sweeps (sweep c.args.links.now)) in
    let s1 = played_so_far a first c.play_disturbed.new.world old _ c.in_ok-play_disturbed.ensures.played in
    let s2 = so_far_more a r first c.play_disturbed.new.world c.play_resets.new.world old _ _ s1 c.in_ok-play_resets.ensures in
    let s3 = so_far_more (a ++ r) _ first c.play_resets.new.world c.play_sweeps.new.world old _ _ s2 c.in_ok-play_sweeps.ensures in
    subst (λ (ps : List SchedulePart). PartsPlay (Ok tt) ps first c.play_sweeps.new.world old (map g.N.Nor.device c.play_sweeps.new.boards.items)) at.all s3.played

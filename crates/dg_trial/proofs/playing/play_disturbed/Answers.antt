use Rattle.std.proofs.Common.{◌*◌, List, [], ◌++◌, map, subst}
use Rattle.std.specs.Prelude.{Ok}
use Rattle.std.proofs.lemmas.Result.{err_from_is_err_and}
use Rattle.dg_seed.specs.Draws.{generator_of}
use Rattle.dg_trial.specs.Schedule.{SchedulePart, always, resets, disturbances}
use Rattle.dg_trial.specs.Playing.{PartsPlay}
use Rattle.dg_trial.proofs.PartLemmas.{so_far_none, so_far_more, so_far_stop, may_next}
use Rattle.dg_trial.proofs.LoopLemmas.{injected, disturbed_pieces, played_so_far}
use Rattle.dg_trial.proofs.playing.play_disturbed.Goals as goal

pub play_resets-requires : goal.play_resets-requires
play_resets-requires g c =
    let n = c.args.motes in
    let first = c.args.world.now in
    let old = map g.N.Nor.device c.args.boards.now.items in
    let r : List SchedulePart = map always (resets n) in
    let d : List SchedulePart = disturbances n (100 * n) (generator_of c.args.draws.now) in
    let at = disturbed_pieces n d in
    may_next c.what_is_left_may_be_played.ensures n [] r _ _ first first old old c.requires.may (so_far_none first old) at.first

pub play_injection-requires : goal.play_injection-requires
play_injection-requires g c =
    let n = c.args.motes in
    let first = c.args.world.now in
    let old = map g.N.Nor.device c.args.boards.now.items in
    let r : List SchedulePart = map always (resets n) in
    let d : List SchedulePart = disturbances n (100 * n) (generator_of c.args.draws.now) in
    let at = disturbed_pieces n d in
    let s1 = played_so_far r first c.play_resets.new.world old _ c.in_ok-play_resets.ensures in
    (n, may_next c.what_is_left_may_be_played.ensures n r injected _ _ first c.play_resets.new.world old _ c.requires.may s1 at.first)

pub play_disturbances-requires-clause-may : goal.play_disturbances-requires-clause-may
play_disturbances-requires-clause-may g c =
    let n = c.args.motes in
    let first = c.args.world.now in
    let old = map g.N.Nor.device c.args.boards.now.items in
    let r : List SchedulePart = map always (resets n) in
    let d : List SchedulePart = disturbances n (100 * n) (generator_of c.args.draws.now) in
    let at = disturbed_pieces n d in
    let s1 = played_so_far r first c.play_resets.new.world old _ c.in_ok-play_resets.ensures in
    let s2 = so_far_more r injected first c.play_resets.new.world c.play_injection.new.world old _ _ s1 c.in_ok-play_injection.ensures in
    may_next c.what_is_left_may_be_played.ensures n (r ++ injected) d _ _ first c.play_injection.new.world old _ c.requires.may s2 at.last

pub returns-in_err-play_resets-clause-played : goal.returns-in_err-play_resets-clause-played
returns-in_err-play_resets-clause-played g c =
    let p = err_from_is_err_and c.from_residual.result c.from_residual.ensures.1 in
    let n = c.args.motes in
    let first = c.args.world.now in
    let old = map g.N.Nor.device c.args.boards.now.items in
    let r : List SchedulePart = map always (resets n) in
    let d : List SchedulePart = disturbances n (100 * n) (generator_of c.args.draws.now) in
    let at = disturbed_pieces n d in
    rw (p.1, p.2)
    (so_far_stop c.in_err-play_resets.field-0.0 [] r _ _ first first c.play_resets.new.world old old _ (so_far_none first old) c.in_err-play_resets.ensures at.first)

pub returns-in_err-play_injection-clause-played : goal.returns-in_err-play_injection-clause-played
returns-in_err-play_injection-clause-played g c =
    let p = err_from_is_err_and c.from_residual-in_err-play_injection.result c.from_residual-in_err-play_injection.ensures.1 in
    let n = c.args.motes in
    let first = c.args.world.now in
    let old = map g.N.Nor.device c.args.boards.now.items in
    let r : List SchedulePart = map always (resets n) in
    let d : List SchedulePart = disturbances n (100 * n) (generator_of c.args.draws.now) in
    let at = disturbed_pieces n d in
    let s1 = played_so_far r first c.play_resets.new.world old _ c.in_ok-play_resets.ensures in
    rw (p.1, p.2)
    (so_far_stop c.in_err-play_injection.field-0.0 r injected _ _ first c.play_resets.new.world c.play_injection.new.world old _ _ s1 c.in_err-play_injection.ensures at.first)

pub returns-in_err-play_disturbances-clause-played : goal.returns-in_err-play_disturbances-clause-played
returns-in_err-play_disturbances-clause-played g c =
    let p = err_from_is_err_and c.from_residual-in_err-play_disturbances.result c.from_residual-in_err-play_disturbances.ensures.1 in
    let n = c.args.motes in
    let first = c.args.world.now in
    let old = map g.N.Nor.device c.args.boards.now.items in
    let r : List SchedulePart = map always (resets n) in
    let d : List SchedulePart = disturbances n (100 * n) (generator_of c.args.draws.now) in
    let at = disturbed_pieces n d in
    let s1 = played_so_far r first c.play_resets.new.world old _ c.in_ok-play_resets.ensures in
    let s2 = so_far_more r injected first c.play_resets.new.world c.play_injection.new.world old _ _ s1 c.in_ok-play_injection.ensures in
    rw (p.1, p.2)
    (so_far_stop c.in_err-play_disturbances.field-0.0 (r ++ injected) d [] _ first c.play_injection.new.world c.play_disturbances.new.world old _ _ s2 c.in_err-play_disturbances.ensures.played at.last)

pub returns-clause-played : goal.returns-clause-played
returns-clause-played g c =
    let n = c.args.motes in
    let first = c.args.world.now in
    let old = map g.N.Nor.device c.args.boards.now.items in
    let r : List SchedulePart = map always (resets n) in
    let d : List SchedulePart = disturbances n (100 * n) (generator_of c.args.draws.now) in
    let at = disturbed_pieces n d in
    let s1 = played_so_far r first c.play_resets.new.world old _ c.in_ok-play_resets.ensures in
    let s2 = so_far_more r injected first c.play_resets.new.world c.play_injection.new.world old _ _ s1 c.in_ok-play_injection.ensures in
    let s3 = so_far_more (r ++ injected) d first c.play_injection.new.world c.play_disturbances.new.world old _ _ s2 c.in_ok-play_disturbances.ensures.played in
    s3.played

pub returns-clause-recorded : goal.returns-clause-recorded
returns-clause-recorded g c =
    let n = c.args.motes in
    let first = c.args.world.now in
    let old = map g.N.Nor.device c.args.boards.now.items in
    let r : List SchedulePart = map always (resets n) in
    let d : List SchedulePart = disturbances n (100 * n) (generator_of c.args.draws.now) in
    let at = disturbed_pieces n d in
    let s1 = played_so_far r first c.play_resets.new.world old _ c.in_ok-play_resets.ensures in
    let s2 = so_far_more r injected first c.play_resets.new.world c.play_injection.new.world old _ _ s1 c.in_ok-play_injection.ensures in
    let x = c.in_ok-play_disturbances.ensures.recorded in
    record { more = x.more; added = x.added; holds = record { opened = c.play_injection.new.world; boards = map g.N.Nor.device c.play_injection.new.boards.items; opens = s2.played; recorded = x.holds } }

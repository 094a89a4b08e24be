use Rattle.std.proofs.Common.{List, ◌+◌, map, take, drop, refl, sym, subst}
use Rattle.std.proofs.lemmas.Result.{err_from_is_err_and}
use Rattle.dg_rounds.specs.Rounds.{sweep}
use Rattle.dg_script.specs.Items.{Item, unreported}
use Rattle.dg_replay.proofs.BytesLemmas.{keep_same, events_keep}
use Rattle.dg_replay.proofs.StepLemmas.{PlayedSoFar, so_far_none, so_far_stop, sweep_none, sweep_at, sweep_goes_on, link_at, told_by}
use Rattle.dg_replay.proofs.rounds.play_sweep.Goals as goal

pub loop-link-init : goal.loop-link-init
loop-link-init g c =
    let boards = map g.N.Nor.device c.args.boards.now.items in
    let told = (told_by c.args.line_report.now.text.items (map g.N.Nor.device c.args.boards.now.items) (g.W.Watcher.saw c.args.watcher.now)) in
    (subst (λ (xs : List Item). PlayedSoFar xs c.args.world.now c.args.world.now boards boards told told) (sym sweep_none) (so_far_none c.args.world.now boards told), keep_same (unreported (sweep c.args.links.now)) boards boards refl)

pub play_both-requires : goal.play_both-requires
play_both-requires g c =
    let on = c.loop-link.invariant.0.goes c.requires.0 c.requires.1 in
    (on.0, on.1, link_at _ _ c.args.links.now c.loop-link.link-index _ on.2 c.loop-link-test.true c.requires.2)

pub returns-in_err-play_both-clause-played : goal.returns-in_err-play_both-clause-played
returns-in_err-play_both-clause-played g c =
    let p = err_from_is_err_and c.from_residual.result c.from_residual.ensures.1 in
    let links = c.args.links.now in
    let i = c.loop-link.link-index in
    rw (p.1, p.2)
    (so_far_stop c.in_err-play_both.field-0.0 (sweep (take i links)) _ (sweep (drop (i + 1) links)) (sweep links) c.args.world.now c.loop-link.world c.play_both.new.world _ _ _ (told_by c.args.line_report.now.text.items (map g.N.Nor.device c.args.boards.now.items) (g.W.Watcher.saw c.args.watcher.now)) (told_by c.loop-link.line_report.text.items (map g.N.Nor.device c.loop-link.boards.items) (g.W.Watcher.saw c.loop-link.watcher)) (told_by c.play_both.new.line_report.text.items (map g.N.Nor.device c.play_both.new.boards.items) (g.W.Watcher.saw c.play_both.new.watcher))
    c.loop-link.invariant.0 c.in_err-play_both.ensures.played (sweep_at links i _ c.loop-link-test.true))

pub loop-link-preserved : goal.loop-link-preserved
loop-link-preserved g c =
    let links = c.args.links.now in
    let i = c.loop-link.link-index in (
      sweep_goes_on links i _ c.args.world.now c.loop-link.world c.play_both.new.world _ _ _ (told_by c.args.line_report.now.text.items (map g.N.Nor.device c.args.boards.now.items) (g.W.Watcher.saw c.args.watcher.now)) (told_by c.loop-link.line_report.text.items (map g.N.Nor.device c.loop-link.boards.items) (g.W.Watcher.saw c.loop-link.watcher)) (told_by c.play_both.new.line_report.text.items (map g.N.Nor.device c.play_both.new.boards.items) (g.W.Watcher.saw c.play_both.new.watcher))
          c.loop-link-test.true c.loop-link.invariant.0 c.in_ok-play_both.ensures.goes_on c.in_ok-play_both.ensures.played,
      events_keep (sweep (take i links)) _ (sweep (drop (i + 1) links)) (sweep links) _ _ _ (sweep_at links i _ c.loop-link-test.true) c.loop-link.invariant.1 c.in_ok-play_both.ensures.kept,
    )

pub returns-in_err-play_both-clause-kept : goal.returns-in_err-play_both-clause-kept
returns-in_err-play_both-clause-kept g c =
    let links = c.args.links.now in
    let i = c.loop-link.link-index in
    events_keep (sweep (take i links)) _ (sweep (drop (i + 1) links)) (sweep links) _ _ _ (sweep_at links i _ c.loop-link-test.true) c.loop-link.invariant.1 c.in_err-play_both.ensures.kept

pub returns-clause-kept : goal.returns-clause-kept
returns-clause-kept g c = c.loop-link.invariant.1

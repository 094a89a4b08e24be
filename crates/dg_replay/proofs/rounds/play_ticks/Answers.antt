use Rattle.std.proofs.Common.{ℕ, ◌<◌, [], ◌∷◌, List, map, refl, sym, subst}
use Rattle.std.proofs.lemmas.Result.{err_from_is_err_and}
use Rattle.dg_rounds.specs.Rounds.{times, paced}
use Rattle.dg_script.specs.Items.{Item, unreported}
use Rattle.dg_replay.proofs.BytesLemmas.{keep_same, sweep_keeps}
use Rattle.dg_replay.proofs.StepLemmas.{PlayedSoFar, so_far_none, times_none, times_so_far, times_stop, at_end, told_by}
use Rattle.dg_replay.proofs.rounds.play_ticks.Goals as goal

pub loop-init : goal.loop-init
loop-init g c =
    let boards = map g.N.Nor.device c.args.boards.now.items in
    let told = (told_by c.args.line_report.now.text.items (map g.N.Nor.device c.args.boards.now.items) (g.W.Watcher.saw c.args.watcher.now)) in (
      subst (λ (xs : List Item). PlayedSoFar xs c.args.world.now c.args.world.now boards boards told told) (sym (times_none (paced c.args.mote ∷ []))) (so_far_none c.args.world.now boards told),
      keep_same (unreported (times c.args.count (paced c.args.mote ∷ []))) boards boards refl,
    )

pub play_tick-requires : goal.play_tick-requires
play_tick-requires g c =
    let on = c.loop.invariant.0.goes c.requires.0 c.requires.1 in
    (on.0, on.1, subst (λ (n : ℕ). c.args.mote < n) (sym on.2) c.requires.2)

pub returns-in_err-play_tick-clause-played : goal.returns-in_err-play_tick-clause-played
returns-in_err-play_tick-clause-played g c =
    let p = err_from_is_err_and c.from_residual.result c.from_residual.ensures.1 in
    rw (p.1, p.2)
    (times_stop c.in_err-play_tick.field-0.0 c.loop.counter c.args.count (paced c.args.mote ∷ []) c.args.world.now c.loop.world c.play_tick.new.world _ _ _ (told_by c.args.line_report.now.text.items (map g.N.Nor.device c.args.boards.now.items) (g.W.Watcher.saw c.args.watcher.now)) (told_by c.loop.line_report.text.items (map g.N.Nor.device c.loop.boards.items) (g.W.Watcher.saw c.loop.watcher)) (told_by c.play_tick.new.line_report.text.items (map g.N.Nor.device c.play_tick.new.boards.items) (g.W.Watcher.saw c.play_tick.new.watcher))
    c.loop.invariant.0 c.loop-test.true c.in_err-play_tick.ensures.played)

pub loop-preserved : goal.loop-preserved
loop-preserved g c = (
  times_so_far c.loop.counter (paced c.args.mote ∷ []) c.args.world.now c.loop.world c.play_tick.new.world _ _ _ (told_by c.args.line_report.now.text.items (map g.N.Nor.device c.args.boards.now.items) (g.W.Watcher.saw c.args.watcher.now)) (told_by c.loop.line_report.text.items (map g.N.Nor.device c.loop.boards.items) (g.W.Watcher.saw c.loop.watcher)) (told_by c.play_tick.new.line_report.text.items (map g.N.Nor.device c.play_tick.new.boards.items) (g.W.Watcher.saw c.play_tick.new.watcher))
      c.loop.invariant.0 c.in_ok-play_tick.ensures.goes_on c.in_ok-play_tick.ensures.played,
  sweep_keeps c.loop.counter c.args.count (paced c.args.mote ∷ []) _ _ _ c.loop-test.true c.loop.invariant.1 c.in_ok-play_tick.ensures.kept,
)

pub returns-clause-played : goal.returns-clause-played
returns-clause-played g c = at_end c.loop.counter c.args.count (paced c.args.mote ∷ []) c.args.world.now c.loop.world _ _ (told_by c.args.line_report.now.text.items (map g.N.Nor.device c.args.boards.now.items) (g.W.Watcher.saw c.args.watcher.now)) (told_by c.loop.line_report.text.items (map g.N.Nor.device c.loop.boards.items) (g.W.Watcher.saw c.loop.watcher)) c.loop-test.false c.loop.auto.counter-end c.loop.invariant.0

pub returns-in_err-play_tick-clause-kept : goal.returns-in_err-play_tick-clause-kept
returns-in_err-play_tick-clause-kept g c = sweep_keeps c.loop.counter c.args.count (paced c.args.mote ∷ []) _ _ _ c.loop-test.true c.loop.invariant.1 c.in_err-play_tick.ensures.kept

pub returns-clause-kept : goal.returns-clause-kept
returns-clause-kept g c = c.loop.invariant.1

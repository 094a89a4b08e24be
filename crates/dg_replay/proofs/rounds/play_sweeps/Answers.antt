use Rattle.std.proofs.Common.{ℕ, List, map, refl, sym, subst}
use Rattle.std.specs.List.{AllByRecursion}
use Rattle.std.proofs.lemmas.Result.{err_from_is_err_and}
use Rattle.dg_rounds.specs.Rounds.{times, sweep}
use Rattle.dg_rules.specs.Premises.{LinkFits}
use Rattle.dg_script.specs.Items.{Item, unreported}
use Rattle.dg_replay.proofs.BytesLemmas.{keep_same, sweep_keeps}
use Rattle.dg_replay.proofs.StepLemmas.{PlayedSoFar, so_far_none, times_none, times_so_far, times_stop, at_end, told_by}
use Rattle.dg_replay.proofs.rounds.play_sweeps.Goals as goal

pub loop-init : goal.loop-init
loop-init g c =
    let boards = map g.N.Nor.device c.args.boards.now.items in
    let told = (told_by c.args.line_report.now.text.items (map g.N.Nor.device c.args.boards.now.items) (g.W.Watcher.saw c.args.watcher.now)) in (
      subst (λ (xs : List Item). PlayedSoFar xs c.args.world.now c.args.world.now boards boards told told) (sym (times_none (sweep c.args.links.now))) (so_far_none c.args.world.now boards told),
      keep_same (unreported (times c.args.count (sweep c.args.links.now))) boards boards refl,
    )

pub play_sweep-requires : goal.play_sweep-requires
play_sweep-requires g c =
    let on = c.loop.invariant.0.goes c.requires.0 c.requires.1 in
    (on.0, on.1, subst (λ (n : ℕ). AllByRecursion (LinkFits n) c.args.links.now) (sym on.2) c.requires.2)

pub returns-in_err-play_sweep-clause-played : goal.returns-in_err-play_sweep-clause-played
returns-in_err-play_sweep-clause-played g c =
    let p = err_from_is_err_and c.from_residual.result c.from_residual.ensures.1 in
    rw (p.1, p.2)
    (times_stop c.in_err-play_sweep.field-0.0 c.loop.counter c.args.count (sweep c.args.links.now) c.args.world.now c.loop.world c.play_sweep.new.world _ _ _ (told_by c.args.line_report.now.text.items (map g.N.Nor.device c.args.boards.now.items) (g.W.Watcher.saw c.args.watcher.now)) (told_by c.loop.line_report.text.items (map g.N.Nor.device c.loop.boards.items) (g.W.Watcher.saw c.loop.watcher)) (told_by c.play_sweep.new.line_report.text.items (map g.N.Nor.device c.play_sweep.new.boards.items) (g.W.Watcher.saw c.play_sweep.new.watcher))
    c.loop.invariant.0 c.loop-test.true c.in_err-play_sweep.ensures.played)

pub loop-preserved : goal.loop-preserved
loop-preserved g c = (
  times_so_far c.loop.counter (sweep c.args.links.now) c.args.world.now c.loop.world c.play_sweep.new.world _ _ _ (told_by c.args.line_report.now.text.items (map g.N.Nor.device c.args.boards.now.items) (g.W.Watcher.saw c.args.watcher.now)) (told_by c.loop.line_report.text.items (map g.N.Nor.device c.loop.boards.items) (g.W.Watcher.saw c.loop.watcher)) (told_by c.play_sweep.new.line_report.text.items (map g.N.Nor.device c.play_sweep.new.boards.items) (g.W.Watcher.saw c.play_sweep.new.watcher))
      c.loop.invariant.0 c.in_ok-play_sweep.ensures.goes_on c.in_ok-play_sweep.ensures.played,
  sweep_keeps c.loop.counter c.args.count (sweep c.args.links.now) _ _ _ c.loop-test.true c.loop.invariant.1 c.in_ok-play_sweep.ensures.kept,
)

pub returns-clause-played : goal.returns-clause-played
returns-clause-played g c = at_end c.loop.counter c.args.count (sweep c.args.links.now) c.args.world.now c.loop.world _ _ (told_by c.args.line_report.now.text.items (map g.N.Nor.device c.args.boards.now.items) (g.W.Watcher.saw c.args.watcher.now)) (told_by c.loop.line_report.text.items (map g.N.Nor.device c.loop.boards.items) (g.W.Watcher.saw c.loop.watcher)) c.loop-test.false c.loop.auto.counter-end c.loop.invariant.0

pub returns-in_err-play_sweep-clause-kept : goal.returns-in_err-play_sweep-clause-kept
returns-in_err-play_sweep-clause-kept g c = sweep_keeps c.loop.counter c.args.count (sweep c.args.links.now) _ _ _ c.loop-test.true c.loop.invariant.1 c.in_err-play_sweep.ensures.kept

pub returns-clause-kept : goal.returns-clause-kept
returns-clause-kept g c = c.loop.invariant.1

use Rattle.std.proofs.Common.{◌≡◌, ◌+◌, ◌++◌, Ok, Err, ap, arith}
use Rattle.dg_drip.specs.Spread.{sweeps}
use Rattle.dg_drip_script.specs.Scripts.{rounds_items}
use Rattle.dg_drip_run.proofs.RanLemmas.{ran_then, ran_as}
use Rattle.dg_drip_run.proofs.RoundLemmas.{ran_stops, goes_then, pairs_items, sweeps_more, sweeps_rest}
use Rattle.dg_drip_run.proofs.player.Player.play_sweeps.Goals as goal

pub returns-in_err-play_sweep : goal.returns-in_err-play_sweep
returns-in_err-play_sweep c =
    let i = c.loop-done.invariant in
    let links = c.args.self.now.network.links.items in
    let n = c.loop-done.done in
    let r = sweeps_rest n c.args.count links c.loop-done-test.true in
    ran_stops c.from_residual.result c.in_err-play_sweep.field-0.0 c.args.self.now c.loop-done.self c.play_sweep.new.self (rounds_items (sweeps n links)) (pairs_items links) r.0 (rounds_items (sweeps c.args.count links))
    c.from_residual.ensures.1 i.0 (ran_as (Err c.in_err-play_sweep.field-0.0) c.loop-done.self c.play_sweep.new.self (pairs_items c.loop-done.self.network.links.items) (pairs_items links) (ap pairs_items i.1.links) c.in_err-play_sweep.ensures.ran) r.1

pub loop-done-preserved : goal.loop-done-preserved
loop-done-preserved c =
    let i = c.loop-done.invariant in
    let links = c.args.self.now.network.links.items in
    let n = c.loop-done.done in
    let once = ran_as (Ok tt) c.loop-done.self c.play_sweep.new.self (pairs_items c.loop-done.self.network.links.items) (pairs_items links) (ap pairs_items i.1.links) c.in_ok-play_sweep.ensures.ran in (
      ran_as (Ok tt) c.args.self.now c.play_sweep.new.self (rounds_items (sweeps n links) ++ pairs_items links) (rounds_items (sweeps (n + 1) links)) (sweeps_more n links)
          (ran_then (Ok tt) c.args.self.now c.loop-done.self c.play_sweep.new.self (rounds_items (sweeps n links)) (pairs_items links) i.0 once),
      goes_then c.args.self.now c.loop-done.self c.play_sweep.new.self i.1 c.in_ok-play_sweep.ensures.on,
    )

pub returns : goal.returns
returns c =
    let links = c.args.self.now.network.links.items in
    let all : c.loop-done.done ≡ c.args.count = omega (arith, c.loop-done-test.false, c.loop-done.auto.done-end) in
    ran_as (Ok tt) c.args.self.now c.loop-done.self (rounds_items (sweeps c.loop-done.done links)) (rounds_items (sweeps c.args.count links)) (ap (λ n. rounds_items (sweeps n links)) all) c.loop-done.invariant.0

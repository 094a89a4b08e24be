use Rattle.std.proofs.Common.{◌≡◌, ◌+◌, ◌++◌, Ok, ◌∙◌, ap, arith}
use Rattle.dg_drip.specs.Sizes.{key_count}
use Rattle.dg_drip.specs.Spread.{drip_round, round_of_key}
use Rattle.dg_drip_script.specs.Scripts.{unreported_items}
use Rattle.dg_drip_run.proofs.RanLemmas.{ran_then, ran_as}
use Rattle.dg_drip_run.proofs.RoundLemmas.{ran_stops, goes_then, keys_items, round_more, round_all, round_rest}
use Rattle.dg_drip_run.proofs.player.Player.play_round.Goals as goal

pub returns-in_err-play_key-clause-ran : goal.returns-in_err-play_key-clause-ran
returns-in_err-play_key-clause-ran c =
    let a = c.args.a in
    let b = c.args.b in
    let k = c.loop-key.key in
    let r = round_rest a b k c.loop-key-test.true in
    ran_stops c.from_residual.result c.in_err-play_key.field-0.0 c.args.self.now c.loop-key.self c.play_key.new.self (keys_items a b k) (unreported_items (round_of_key a b k)) r.0 (unreported_items (drip_round a b))
    c.from_residual.ensures.1 c.loop-key.invariant.0 c.in_err-play_key.ensures.ran r.1

pub loop-key-preserved : goal.loop-key-preserved
loop-key-preserved c =
    let a = c.args.a in
    let b = c.args.b in
    let k = c.loop-key.key in
    let i = c.loop-key.invariant in (
      ran_as (Ok tt) c.args.self.now c.play_key.new.self (keys_items a b k ++ unreported_items (round_of_key a b k)) (keys_items a b (k + 1)) (round_more a b k)
          (ran_then (Ok tt) c.args.self.now c.loop-key.self c.play_key.new.self (keys_items a b k) (unreported_items (round_of_key a b k)) i.0 c.in_ok-play_key.ensures.ran),
      goes_then c.args.self.now c.loop-key.self c.play_key.new.self i.1 c.in_ok-play_key.ensures.on,
    )

pub returns-clause-ran : goal.returns-clause-ran
returns-clause-ran c =
    let a = c.args.a in
    let b = c.args.b in
    let k = c.loop-key.key in
    let all : k ≡ key_count = omega (arith, c.loop-key-test.false, c.loop-key.auto.key-end) in
    ran_as (Ok tt) c.args.self.now c.loop-key.self (keys_items a b k) (unreported_items (drip_round a b)) (ap (keys_items a b) all ∙ round_all a b) c.loop-key.invariant.0

use Rattle.std.proofs.Common.{◌≡◌, ◌<◌, ◌≤◌, ℕ, ◌+◌, ◌++◌, List, length, take, get_or, Ok, subst, ap, arith}
use Rattle.dg_drip.specs.Spread.{drip_round}
use Rattle.dg_drip_script.specs.Scripts.{unreported_items}
use Rattle.dg_drip_run.proofs.RanLemmas.{ran_then, ran_as}
use Rattle.dg_drip_run.proofs.RoundLemmas.{ran_stops, goes_then, pairs_items, first_rest, second_rest, second_more, all_links, player_below}
use Rattle.dg_drip_run.proofs.player.Player.play_sweep.Goals as goal

pub play_round-requires-clause-fits : goal.play_round-requires-clause-fits
play_round-requires-clause-fits c =
    let i = c.loop-at.invariant in
    let below : c.loop-at.at < length c.loop-at.self.network.links.items = omega (arith, c.loop-at-test.true, c.link_count-at-end.ensures, ap length i.1.links) in
    player_below c.loop-at.self c.loop-at.at c.link_at-a.result i.1.playing below c.link_at-a.ensures

pub returns-in_err-play_round-clause-ran : goal.returns-in_err-play_round-clause-ran
returns-in_err-play_round-clause-ran c =
    let i = c.loop-at.invariant in
    let links = c.args.self.now.network.links.items in
    let n = c.loop-at.at in
    let l = c.link_at-a.result in
    let is : l ≡ get_or links n l = subst (λ (xs : List (ℕ × ℕ)). l ≡ get_or xs n l) i.1.links c.link_at-a.ensures in
    let below : n < length links = omega (arith, c.loop-at-test.true, c.link_count-at-end.ensures) in
    let r = first_rest links n l below is in
    ran_stops c.from_residual.result c.in_err-play_round.field-0.0 c.args.self.now c.loop-at.self c.play_round.new.self (pairs_items (take n links)) (unreported_items (drip_round l.0 l.1)) r.0 (pairs_items links)
    c.from_residual.ensures.1 i.0 c.in_err-play_round.ensures.ran r.1

pub play_round-requires-in-loop-at-clause-fits : goal.play_round-requires-in-loop-at-clause-fits
play_round-requires-in-loop-at-clause-fits c =
    let i = c.loop-at.invariant in
    let below : c.loop-at.at < length c.loop-at.self.network.links.items = omega (arith, c.loop-at-test.true, c.link_count-at-end.ensures, ap length i.1.links) in
    let h = player_below c.loop-at.self c.loop-at.at c.link_at-a.result i.1.playing below c.link_at-a.ensures in
    let same = ap (λ t. t.nodes) c.in_ok-play_round.ensures.on.standing in
    (omega (arith, h.1, same), omega (arith, h.0, same))

pub returns-in_err-play_round-2-clause-ran : goal.returns-in_err-play_round-2-clause-ran
returns-in_err-play_round-2-clause-ran c =
    let i = c.loop-at.invariant in
    let links = c.args.self.now.network.links.items in
    let n = c.loop-at.at in
    let l = c.link_at-a.result in
    let is : l ≡ get_or links n l = subst (λ (xs : List (ℕ × ℕ)). l ≡ get_or xs n l) i.1.links c.link_at-a.ensures in
    let below : n < length links = omega (arith, c.loop-at-test.true, c.link_count-at-end.ensures) in
    let r = second_rest links n l below is in
    let front = ran_then (Ok tt) c.args.self.now c.loop-at.self c.play_round.new.self (pairs_items (take n links)) (unreported_items (drip_round l.0 l.1)) i.0 c.in_ok-play_round.ensures.ran in
    ran_stops c.from_residual-in_err-play_round-2.result c.in_err-play_round-2.field-0.0 c.args.self.now c.play_round.new.self c.play_round-in-loop-at.new.self (pairs_items (take n links) ++ unreported_items (drip_round l.0 l.1)) (unreported_items (drip_round l.1 l.0)) r.0 (pairs_items links)
    c.from_residual-in_err-play_round-2.ensures.1 front c.in_err-play_round-2.ensures.ran r.1

pub loop-at-preserved : goal.loop-at-preserved
loop-at-preserved c =
    let i = c.loop-at.invariant in
    let links = c.args.self.now.network.links.items in
    let n = c.loop-at.at in
    let l = c.link_at-a.result in
    let is : l ≡ get_or links n l = subst (λ (xs : List (ℕ × ℕ)). l ≡ get_or xs n l) i.1.links c.link_at-a.ensures in
    let below : n < length links = omega (arith, c.loop-at-test.true, c.link_count-at-end.ensures) in
    let front = ran_then (Ok tt) c.args.self.now c.loop-at.self c.play_round.new.self (pairs_items (take n links)) (unreported_items (drip_round l.0 l.1)) i.0 c.in_ok-play_round.ensures.ran in
    let whole = ran_then (Ok tt) c.args.self.now c.play_round.new.self c.play_round-in-loop-at.new.self (pairs_items (take n links) ++ unreported_items (drip_round l.0 l.1)) (unreported_items (drip_round l.1 l.0)) front c.in_ok-play_round-2.ensures.ran in (
      ran_as (Ok tt) c.args.self.now c.play_round-in-loop-at.new.self ((pairs_items (take n links) ++ unreported_items (drip_round l.0 l.1)) ++ unreported_items (drip_round l.1 l.0)) (pairs_items (take (n + 1) links)) (second_more links n l below is) whole,
      goes_then c.args.self.now c.play_round.new.self c.play_round-in-loop-at.new.self (goes_then c.args.self.now c.loop-at.self c.play_round.new.self i.1 c.in_ok-play_round.ensures.on) c.in_ok-play_round-2.ensures.on,
    )

pub returns-clause-ran : goal.returns-clause-ran
returns-clause-ran c =
    let links = c.args.self.now.network.links.items in
    let n = c.loop-at.at in
    let all : length links ≤ n = omega (arith, c.loop-at-test.false, c.link_count-at-end.ensures) in
    ran_as (Ok tt) c.args.self.now c.loop-at.self (pairs_items (take n links)) (pairs_items links) (all_links links n all) c.loop-at.invariant.0

use Rattle.std.proofs.Common.{◌∷◌, [], Ok}
use Rattle.dg_drip_script.specs.Scripts.{unreported_items}
use Rattle.dg_drip.specs.Spread.{round_of_key}
use Rattle.dg_drip_run.proofs.RanLemmas.{ran_none, ran_then, ran_as}
use Rattle.dg_drip_run.proofs.RoundLemmas.{ran_stops, tick_item, last_item, key_items}
use Rattle.dg_drip_run.proofs.player.Player.play_key.Goals as goal

pub returns-in_err-apply_event-clause-ran : goal.returns-in_err-apply_event-clause-ran
returns-in_err-apply_event-clause-ran c =
    let t = tick_item c.args.a c.args.key in
    let last = last_item c.args.a c.args.b c.args.key in
    ran_stops c.from_residual.result c.in_err-apply_event.field-0.0 c.args.self.now c.args.self.now c.apply_event.new.self [] (t ∷ []) (t ∷ t ∷ last ∷ []) (unreported_items (round_of_key c.args.a c.args.b c.args.key))
    c.from_residual.ensures.1 (ran_none c.args.self.now) c.in_err-apply_event.ensures.ran (key_items c.args.a c.args.b c.args.key)

pub returns-in_err-apply_event-2-clause-ran : goal.returns-in_err-apply_event-2-clause-ran
returns-in_err-apply_event-2-clause-ran c =
    let t = tick_item c.args.a c.args.key in
    let last = last_item c.args.a c.args.b c.args.key in
    ran_stops c.from_residual-in_err-apply_event-2.result c.in_err-apply_event-2.field-0.0 c.args.self.now c.apply_event.new.self c.apply_event-2.new.self (t ∷ []) (t ∷ []) (t ∷ last ∷ []) (unreported_items (round_of_key c.args.a c.args.b c.args.key))
    c.from_residual-in_err-apply_event-2.ensures.1 c.in_ok-apply_event.ensures.ran c.in_err-apply_event-2.ensures.ran (key_items c.args.a c.args.b c.args.key)

pub returns-in_err-apply_event-3-clause-ran : goal.returns-in_err-apply_event-3-clause-ran
returns-in_err-apply_event-3-clause-ran c =
    let t = tick_item c.args.a c.args.key in
    let last = last_item c.args.a c.args.b c.args.key in
    let two = ran_then (Ok tt) c.args.self.now c.apply_event.new.self c.apply_event-2.new.self (t ∷ []) (t ∷ []) c.in_ok-apply_event.ensures.ran c.in_ok-apply_event-2.ensures.ran in
    ran_stops c.from_residual-in_err-apply_event-3.result c.in_err-apply_event-3.field-0.0 c.args.self.now c.apply_event-2.new.self c.apply_event-3.new.self (t ∷ t ∷ []) (t ∷ []) (last ∷ []) (unreported_items (round_of_key c.args.a c.args.b c.args.key))
    c.from_residual-in_err-apply_event-3.ensures.1 two c.in_err-apply_event-3.ensures.ran (key_items c.args.a c.args.b c.args.key)

pub returns-in_err-apply_event-4-clause-ran : goal.returns-in_err-apply_event-4-clause-ran
returns-in_err-apply_event-4-clause-ran c =
    let t = tick_item c.args.a c.args.key in
    let last = last_item c.args.a c.args.b c.args.key in
    let two = ran_then (Ok tt) c.args.self.now c.apply_event.new.self c.apply_event-2.new.self (t ∷ []) (t ∷ []) c.in_ok-apply_event.ensures.ran c.in_ok-apply_event-2.ensures.ran in
    let three = ran_then (Ok tt) c.args.self.now c.apply_event-2.new.self c.apply_event-3.new.self (t ∷ t ∷ []) (t ∷ []) two c.in_ok-apply_event-3.ensures.ran in
    ran_stops c.from_residual-in_err-apply_event-4.result c.in_err-apply_event-4.field-0.0 c.args.self.now c.apply_event-3.new.self c.apply_event-4.new.self (t ∷ t ∷ t ∷ []) (last ∷ []) [] (unreported_items (round_of_key c.args.a c.args.b c.args.key))
    c.from_residual-in_err-apply_event-4.ensures.1 three c.in_err-apply_event-4.ensures.ran (key_items c.args.a c.args.b c.args.key)

pub returns-clause-ran : goal.returns-clause-ran
returns-clause-ran c =
    let t = tick_item c.args.a c.args.key in
    let last = last_item c.args.a c.args.b c.args.key in
    let two = ran_then (Ok tt) c.args.self.now c.apply_event.new.self c.apply_event-2.new.self (t ∷ []) (t ∷ []) c.in_ok-apply_event.ensures.ran c.in_ok-apply_event-2.ensures.ran in
    let three = ran_then (Ok tt) c.args.self.now c.apply_event-2.new.self c.apply_event-3.new.self (t ∷ t ∷ []) (t ∷ []) two c.in_ok-apply_event-3.ensures.ran in
    let four = ran_then (Ok tt) c.args.self.now c.apply_event-3.new.self c.apply_event-4.new.self (t ∷ t ∷ t ∷ []) (last ∷ []) three c.in_ok-apply_event-4.ensures.ran in
    ran_as (Ok tt) c.args.self.now c.apply_event-4.new.self (t ∷ t ∷ t ∷ last ∷ []) (unreported_items (round_of_key c.args.a c.args.b c.args.key)) (key_items c.args.a c.args.b c.args.key) four

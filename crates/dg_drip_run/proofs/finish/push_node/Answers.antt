use Rattle.std.proofs.Common.{◌≡◌, ◌++◌, ℕ, List, subst, arith}
use Rattle.std.specs.List.{flat_map, range_with_len}
use Rattle.dg_drip.specs.Network.{entry_at}
use Rattle.dg_drip.specs.Sizes.{key_count}
use Rattle.dg_drip_script.specs.Reports.{value_text}
use Rattle.std.proofs.Common.{ap}
use Rattle.dg_drip_run.proofs.FinishLemmas.{told_next}
use Rattle.dg_drip_run.proofs.finish.push_node.Goals as goal

pub loop-key-preserved : goal.loop-key-preserved
loop-key-preserved c = λ w h.
    let f : ℕ → List ℕ = λ key. value_text c.args.node key (entry_at w c.args.node key) in
    told_next f c.loop-key.key c.args.text.now.items c.loop-key.text.items c.push_value.new.text.items (value_text c.args.node c.loop-key.key c.entry.result)
    (c.loop-key.invariant w h) (ap (value_text c.args.node c.loop-key.key) (c.entry.ensures w h)) c.in_ok-push_value.ensures

pub returns : goal.returns
returns c = λ w h.
    let f : ℕ → List ℕ = λ key. value_text c.args.node key (entry_at w c.args.node key) in
    let all : c.loop-key.key ≡ key_count = omega (arith, c.loop-key-test.false, c.loop-key.auto.key-end) in
    subst (λ (k : ℕ). c.loop-key.text.items ≡ c.args.text.now.items ++ flat_map f (range_with_len 0 k)) all (c.loop-key.invariant w h)

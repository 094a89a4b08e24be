use Rattle.std.proofs.Common.{◌≡◌, ℕ, ◌+◌, List, length, drop, set, refl, sym, ap, ◌∙◌}
use Rattle.std.proofs.lemmas.List.{take_at, length-set}
use Rattle.dg_drip.specs.Nodes.{Node, node_after_tick, told_by}
use Rattle.dg_drip_replay.specs.Standing.{node_at}
use Rattle.dg_drip_replay.proofs.DoesLemmas.{tick_none, tick_quiet, tick_reported}
use Rattle.dg_drip_replay.proofs.network.DripNetwork.tick.Goals as goal

pub returns-in_default-clause-does : goal.returns-in_default-clause-does
returns-in_default-clause-does c =
    let d = c.args.self.now in
    let old : List Node = d.nodes.items in
    let new : List Node = c.tick_at.new.nodes in
    let long : length new ≡ d.nodes.len = ap length c.tick_at.ensures.after ∙ length-set _ _ _ ∙ ap length c.deref_mut.ensures.value ∙ sym d.nodes.ok.0 in
    let moment = ap (λ (n : ℕ). d.moment + n) c.from.ensures in
    let nodes = take_at new (drop (length new) old) d.nodes.len long ∙ c.tick_at.ensures.after
    ∙ ap (λ (xs : List Node). set xs c.args.node (node_after_tick (node_at xs c.args.node) (d.moment + c.from.result) c.args.word c.args.key)) c.deref_mut.ensures.value
    ∙ ap (λ (n : ℕ). set old c.args.node (node_after_tick (node_at old c.args.node) n c.args.word c.args.key)) moment in
    let told = sym c.in_default.is ∙ c.tick_at.ensures.told
    ∙ ap (λ (xs : List Node). told_by (node_at xs c.args.node) (d.moment + c.from.result) c.args.key) c.deref_mut.ensures.value
    ∙ ap (λ (n : ℕ). told_by (node_at old c.args.node) n c.args.key) moment in
    λ w s. tick_none d _ w c.args.reported c.args.node c.args.key c.args.dt c.args.word s c.requires.node c.requires.key moment refl refl nodes told

pub returns-then-not-reported-clause-does : goal.returns-then-not-reported-clause-does
returns-then-not-reported-clause-does c =
    let d = c.args.self.now in
    let old : List Node = d.nodes.items in
    let new : List Node = c.tick_at.new.nodes in
    let long : length new ≡ d.nodes.len = ap length c.tick_at.ensures.after ∙ length-set _ _ _ ∙ ap length c.deref_mut.ensures.value ∙ sym d.nodes.ok.0 in
    let moment = ap (λ (n : ℕ). d.moment + n) c.from.ensures in
    let nodes = take_at new (drop (length new) old) d.nodes.len long ∙ c.tick_at.ensures.after
    ∙ ap (λ (xs : List Node). set xs c.args.node (node_after_tick (node_at xs c.args.node) (d.moment + c.from.result) c.args.word c.args.key)) c.deref_mut.ensures.value
    ∙ ap (λ (n : ℕ). set old c.args.node (node_after_tick (node_at old c.args.node) n c.args.word c.args.key)) moment in
    let told = sym c.in-Some.is ∙ c.tick_at.ensures.told
    ∙ ap (λ (xs : List Node). told_by (node_at xs c.args.node) (d.moment + c.from.result) c.args.key) c.deref_mut.ensures.value
    ∙ ap (λ (n : ℕ). told_by (node_at old c.args.node) n c.args.key) moment in
    λ w s. tick_quiet d _ w c.args.reported c.args.node c.args.key c.args.dt c.args.word c.in-Some.said s c.requires.node c.requires.key moment refl c.in_ok-push.ensures.items nodes told c.if-not-reported.true

pub returns-clause-does : goal.returns-clause-does
returns-clause-does c =
    let d = c.args.self.now in
    let old : List Node = d.nodes.items in
    let new : List Node = c.tick_at.new.nodes in
    let long : length new ≡ d.nodes.len = ap length c.tick_at.ensures.after ∙ length-set _ _ _ ∙ ap length c.deref_mut.ensures.value ∙ sym d.nodes.ok.0 in
    let moment = ap (λ (n : ℕ). d.moment + n) c.from.ensures in
    let nodes = take_at new (drop (length new) old) d.nodes.len long ∙ c.tick_at.ensures.after
    ∙ ap (λ (xs : List Node). set xs c.args.node (node_after_tick (node_at xs c.args.node) (d.moment + c.from.result) c.args.word c.args.key)) c.deref_mut.ensures.value
    ∙ ap (λ (n : ℕ). set old c.args.node (node_after_tick (node_at old c.args.node) n c.args.word c.args.key)) moment in
    let told = sym c.in-Some.is ∙ c.tick_at.ensures.told
    ∙ ap (λ (xs : List Node). told_by (node_at xs c.args.node) (d.moment + c.from.result) c.args.key) c.deref_mut.ensures.value
    ∙ ap (λ (n : ℕ). told_by (node_at old c.args.node) n c.args.key) moment in
    λ w s. tick_reported d _ w c.args.reported c.args.node c.args.key c.args.dt c.args.word c.in-Some.said s c.requires.node c.requires.key moment refl c.in_ok-push.ensures.items nodes told c.if-not-reported.false

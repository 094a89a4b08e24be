use Rattle.std.proofs.Common.{◌≡◌, ℕ, ◌+◌, List, length, drop, set, Err, refl, sym, ap, ◌∙◌}
use Rattle.std.proofs.lemmas.List.{take_at, length-set}
use Rattle.dg_drip.specs.Nodes.{Node, after_set, set_answer}
use Rattle.dg_drip_replay.specs.Standing.{node_at}
use Rattle.dg_drip_replay.proofs.DoesLemmas.{only_last, set_ok, set_err}
use Rattle.dg_drip_replay.proofs.network.DripNetwork.set.Goals as goal

pub returns-in-Ok-clause-does : goal.returns-in-Ok-clause-does
returns-in-Ok-clause-does c =
    let d = c.args.self.now in
    let old : List Node = d.nodes.items in
    let new : List Node = c.set_at.new.nodes in
    let long : length new ≡ d.nodes.len = ap length c.set_at.ensures.after ∙ length-set _ _ _ ∙ ap length c.deref_mut.ensures.value ∙ sym d.nodes.ok.0 in
    let moment = ap (λ (n : ℕ). d.moment + n) c.from.ensures in
    let nodes = take_at new (drop (length new) old) d.nodes.len long ∙ c.set_at.ensures.after
    ∙ ap (λ (xs : List Node). set xs c.args.node (after_set (node_at xs c.args.node) (d.moment + c.from.result) c.args.word c.args.key c.args.value)) c.deref_mut.ensures.value
    ∙ ap (λ (n : ℕ). set old c.args.node (after_set (node_at old c.args.node) n c.args.word c.args.key c.args.value)) moment in
    let answer = sym c.in-Ok.is ∙ c.set_at.ensures.answer ∙ ap (λ (xs : List Node). set_answer (node_at xs c.args.node) c.args.key) c.deref_mut.ensures.value in
    λ w reported s. set_ok d _ w reported c.args.node c.args.key c.args.value c.args.dt c.args.word c.in-Ok.number s c.requires.node c.requires.key moment refl refl nodes answer

pub returns-in-Err-Last-clause-does : goal.returns-in-Err-Last-clause-does
returns-in-Err-Last-clause-does c =
    let d = c.args.self.now in
    let old : List Node = d.nodes.items in
    let new : List Node = c.set_at.new.nodes in
    let long : length new ≡ d.nodes.len = ap length c.set_at.ensures.after ∙ length-set _ _ _ ∙ ap length c.deref_mut.ensures.value ∙ sym d.nodes.ok.0 in
    let moment = ap (λ (n : ℕ). d.moment + n) c.from.ensures in
    let nodes = take_at new (drop (length new) old) d.nodes.len long ∙ c.set_at.ensures.after
    ∙ ap (λ (xs : List Node). set xs c.args.node (after_set (node_at xs c.args.node) (d.moment + c.from.result) c.args.word c.args.key c.args.value)) c.deref_mut.ensures.value
    ∙ ap (λ (n : ℕ). set old c.args.node (after_set (node_at old c.args.node) n c.args.word c.args.key c.args.value)) moment in
    let answer = ap Err (sym (only_last c.in-Err-Last.field-0)) ∙ sym c.in-Err-Last.is ∙ c.set_at.ensures.answer ∙ ap (λ (xs : List Node). set_answer (node_at xs c.args.node) c.args.key) c.deref_mut.ensures.value in
    λ w reported s. set_err d _ w reported c.args.node c.args.key c.args.value c.args.dt c.args.word s c.requires.node c.requires.key moment refl refl nodes answer

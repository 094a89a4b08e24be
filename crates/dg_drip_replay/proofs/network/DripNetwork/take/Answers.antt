use Rattle.std.proofs.Common.{◌≡◌, List, length, drop, set, refl, sym, ap, ◌∙◌}
use Rattle.std.proofs.lemmas.List.{take_at, length-set}
use Rattle.dg_drip.specs.Cells.{heard_cell, outcome}
use Rattle.dg_drip.specs.Nodes.{Node, cell_of, with_cell}
use Rattle.dg_drip.specs.declared.node.DripHeard.TheVariants as what
use Rattle.dg_drip_replay.specs.Standing.{node_at}
use Rattle.dg_drip_replay.proofs.DoesLemmas.{take_hears, take_silent}
use Rattle.dg_drip_replay.proofs.network.DripNetwork.take.Goals as goal

pub returns-in_default-clause-hears : goal.returns-in_default-clause-hears
returns-in_default-clause-hears c =
    let d = c.args.self.now in
    let old : List Node = d.nodes.items in
    let new : List Node = c.hear_at.new.nodes in
    let long : length new ≡ d.nodes.len = ap length c.hear_at.ensures.after ∙ length-set _ _ _ ∙ ap length c.deref_mut.ensures.value ∙ sym d.nodes.ok.0 in
    let x = c.args.said.now in
    let nodes = take_at new (drop (length new) old) d.nodes.len long ∙ c.hear_at.ensures.after
    ∙ ap (λ (xs : List Node). set xs c.args.node (with_cell (node_at xs c.args.node) x.key (heard_cell (cell_of (node_at xs c.args.node) x.key) d.moment c.args.word x.entry))) c.deref_mut.ensures.value in
    let answer = c.hear_at.ensures.answer ∙ ap (λ (xs : List Node). outcome (cell_of (node_at xs c.args.node) x.key) x.key x.entry) c.deref_mut.ensures.value in
    λ w s. take_silent d _ w c.args.node c.args.word x c.hear_at.result s c.requires.node c.requires.key refl refl refl nodes answer c.in_default.not-Newer

pub returns-clause-hears : goal.returns-clause-hears
returns-clause-hears c =
    let d = c.args.self.now in
    let old : List Node = d.nodes.items in
    let new : List Node = c.hear_at.new.nodes in
    let long : length new ≡ d.nodes.len = ap length c.hear_at.ensures.after ∙ length-set _ _ _ ∙ ap length c.deref_mut.ensures.value ∙ sym d.nodes.ok.0 in
    let x = c.args.said.now in
    let nodes = take_at new (drop (length new) old) d.nodes.len long ∙ c.hear_at.ensures.after
    ∙ ap (λ (xs : List Node). set xs c.args.node (with_cell (node_at xs c.args.node) x.key (heard_cell (cell_of (node_at xs c.args.node) x.key) d.moment c.args.word x.entry))) c.deref_mut.ensures.value in
    let answer = sym c.in-Newer.is ∙ c.hear_at.ensures.answer ∙ ap (λ (xs : List Node). outcome (cell_of (node_at xs c.args.node) x.key) x.key x.entry) c.deref_mut.ensures.value in
    λ w s. take_hears d _ w c.args.node c.args.word x (what.Newer c.in-Newer.key) s c.requires.node c.requires.key refl refl refl nodes answer

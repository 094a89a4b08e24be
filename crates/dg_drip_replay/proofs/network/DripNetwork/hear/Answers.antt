use Rattle.std.proofs.Common.{ℕ, ◌+◌, List, refl, sym, ap, ◌∙◌}
use Rattle.dg_drip.specs.Network.{frame_numbered, are_drip_neighbours}
use Rattle.dg_drip.specs.declared.frame.Said.{Said}
use Rattle.dg_drip_replay.proofs.EventLemmas.{later_stands}
use Rattle.dg_drip_replay.proofs.DoesLemmas.{later, hear_none, hear_takes}
use Rattle.dg_drip_replay.proofs.SentLemmas.{keyed_numbered}
use Rattle.dg_drip_replay.proofs.network.DripNetwork.hear.Goals as goal

pub returns-in_default-clause-does : goal.returns-in_default-clause-does
returns-in_default-clause-does c =
    let d = c.args.self.now in
    let none = sym c.in_default.is ∙ c.numbered.ensures ∙ ap (λ (xs : List Said). frame_numbered xs c.args.frame) c.deref.ensures.value in
    λ w reported s. hear_none d _ w reported c.args.node c.args.dt c.args.word c.args.frame s (ap (λ (n : ℕ). d.moment + n) c.from.ensures) refl refl refl none

pub take-requires-clause-key : goal.take-requires-clause-key
take-requires-clause-key c =
    keyed_numbered c.args.self.now.sent.items c.args.frame c.in-Some.said c.requires.keyed
    (ap (λ (xs : List Said). frame_numbered xs c.args.frame) (sym c.deref.ensures.value) ∙ sym c.numbered.ensures ∙ c.in-Some.is)

pub returns-clause-does : goal.returns-clause-does
returns-clause-does c =
    let d = c.args.self.now in
    let x : Said = c.in-Some.said in
    let some = sym c.in-Some.is ∙ c.numbered.ensures ∙ ap (λ (xs : List Said). frame_numbered xs c.args.frame) c.deref.ensures.value in
    let near = ap (λ (ls : List (ℕ × ℕ)). are_drip_neighbours ls x.source c.args.node) (sym c.deref-2.ensures.value) ∙ sym c.are_drip_neighbours.ensures ∙ c.if-not-are_drip_neighbours.false in
    λ w reported s.
    hear_takes d _ w reported c.args.node c.args.dt c.args.word c.args.frame x c.take.result s some near
    (c.take.ensures.hears (later w c.args.dt) (later_stands d _ w c.args.dt s (ap (λ (n : ℕ). d.moment + n) c.from.ensures) refl refl refl))

use Rattle.std.proofs.Common.{List, sym, ap, ◌∙◌}
use Rattle.dg_drip.specs.Network.{last_said}
use Rattle.dg_drip.specs.declared.frame.Said.{Said}
use Rattle.dg_drip_replay.proofs.DoesLemmas.{last_takes}
use Rattle.dg_drip_replay.proofs.SentLemmas.{keyed_last}
use Rattle.dg_drip_replay.proofs.network.DripNetwork.hear_last.Goals as goal

pub take-requires-clause-key : goal.take-requires-clause-key
take-requires-clause-key c =
    keyed_last c.args.self.now.sent.items c.args.from c.args.key c.in_ok-said.said c.requires.keyed
    (ap (λ (xs : List Said). last_said xs c.args.from c.args.key) (sym c.deref.ensures.value) ∙ sym c.last_of.ensures ∙ c.in_ok-said.was)

pub returns-clause-does : goal.returns-clause-does
returns-clause-does c =
    let d = c.args.self.now in
    let some = sym c.in_ok-said.was ∙ c.last_of.ensures ∙ ap (λ (xs : List Said). last_said xs c.args.from c.args.key) c.deref.ensures.value in
    λ w reported s. last_takes d _ w reported c.args.from c.args.to c.args.key c.in_ok-said.said c.take.result s some (c.take.ensures.hears w s)

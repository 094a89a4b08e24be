use Rattle.std.proofs.Common.{refl}
use Rattle.dg_rules.specs.World.{site, store_at}
use Rattle.dg_rules.specs.Events.{tick_does}
use Rattle.dg_world.specs.inner.Outcomes.{as_outcome}
use Rattle.dg_world.proofs.OutcomeLemmas.{told_as, is_refused}
use Rattle.dg_world.proofs.TickLemmas.{off_as, on_as}
use Rattle.dg_world.proofs.UnseenLemmas.{on_unseen}
use Rattle.dg_world.proofs.ticking.tick.Goals as goal

pub returns-in-None-clause-ends : goal.returns-in-None-clause-ends
returns-in-None-clause-ends g c = λ w m stands.
    told_as w m _ _ _ _ _ _ _ (is_refused _ _ _ _ _ c.requires.nothing.sent)
    (off_as (λ o. tick_does w (store_at w m) o c.args.now c.args.word) w m _ (store_at w m) (site w m).runs c.args.runs.now _ refl c.in-None.is stands.mote)

pub returns-in-Some-clause-ends : goal.returns-in-Some-clause-ends
returns-in-Some-clause-ends g c = λ w m stands.
    on_as (λ o. tick_does w (store_at w m) o c.args.now c.args.word) (as_outcome c.tick_on.result c.tick_on.new.outcome) w m c.args.runs.now c.in-Some.node _ _ (store_at w m) (site w m).runs _ _ c.in-Some.is stands.mote
    (λ x is. c.tick_on.ensures.ends w m x stands.stands is)

pub returns-in-Some-clause-unseen : goal.returns-in-Some-clause-unseen
returns-in-Some-clause-unseen g c = λ w m stands unseen.
    on_unseen (λ o. tick_does w (store_at w m) o c.args.now c.args.word) c.in-Some.node c.args.runs.now _ (store_at w m) (site w m).runs c.in-Some.is stands.mote (λ r on. on) unseen

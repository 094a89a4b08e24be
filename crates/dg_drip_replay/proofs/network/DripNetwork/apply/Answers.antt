use Rattle.std.proofs.Common.{Some, sym, subst}
use Rattle.dg_drip.specs.declared.events.DripEvent.{DripEvent}
use Rattle.dg_drip_replay.specs.Standing.{DripDoes}
use Rattle.dg_drip_replay.proofs.network.DripNetwork.apply.Goals as goal

pub returns-in-Set-clause-does : goal.returns-in-Set-clause-does
returns-in-Set-clause-does c =
    λ w s. subst (λ (e : DripEvent). DripDoes c.set.new.self w c.args.reported e (Some c.set.result)) (sym c.in-Set.is) (c.set.ensures.does w c.args.reported s)

pub returns-in-Hear-clause-does : goal.returns-in-Hear-clause-does
returns-in-Hear-clause-does c =
    λ w s. subst (λ (e : DripEvent). DripDoes c.hear.new.self w c.args.reported e c.hear.result) (sym c.in-Hear.is) (c.hear.ensures.does w c.args.reported s)

pub returns-in-Last-clause-does : goal.returns-in-Last-clause-does
returns-in-Last-clause-does c =
    λ w s. subst (λ (e : DripEvent). DripDoes c.hear_last.new.self w c.args.reported e c.hear_last.result) (sym c.in-Last.is) (c.hear_last.ensures.does w c.args.reported s)

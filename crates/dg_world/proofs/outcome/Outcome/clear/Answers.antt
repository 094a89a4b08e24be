use Rattle.dg_world.proofs.OutcomeLemmas.{untold_none}
use Rattle.dg_world.proofs.outcome.Outcome.clear.Goals as goal

pub returns-then-not-self : goal.returns-then-not-self
returns-then-not-self c =
    let t = c.args.self.now in
    let n = untold_none t.refused t.before t.after t.started t.orderly (t.untold c.if-not-self.true) in
    record { refused = n.0; before = n.1; after = n.2; started = n.3; sent = c.clear_outbox.ensures; orderly = n.4 }

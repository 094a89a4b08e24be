use Rattle.std.proofs.Common.{sym, ap, subst}
use Rattle.dg_rules.specs.Events.{dt_of}
use Rattle.dg_shared.specs.EventKinds.{IsEventKind}
use Rattle.dg_shared.proofs.events.dt_at.Goals as goal

pub returns-in-Tick : goal.returns-in-Tick
returns-in-Tick c = sym (ap dt_of (subst (λ k. IsEventKind k c.args.event.now) c.in-Tick.is c.requires))

pub returns-in-Last : goal.returns-in-Last
returns-in-Last c = sym (ap dt_of (subst (λ k. IsEventKind k c.args.event.now) c.in-Last.is c.requires))

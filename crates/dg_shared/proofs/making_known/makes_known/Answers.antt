use Rattle.std.proofs.Common.{sym, subst, true≢false}
use Rattle.dg_base.specs.declared.events.Event.{Event}
use Rattle.dg_shared.specs.LookedInto.{MakesKnown}
use Rattle.dg_shared.specs.EventKinds.{IsEventKind}
use Rattle.dg_shared.proofs.making_known.makes_known.Goals as goal

pub returns-in-Tick : goal.returns-in-Tick
returns-in-Tick c = λ w is at. (λ x. absurd (true≢false (sym x)), λ y. absurd (subst (λ (z : Event). MakesKnown w z) (subst (λ k. IsEventKind k c.args.event.now) c.in-Tick.is c.requires.kind) y))

pub returns-in-Last : goal.returns-in-Last
returns-in-Last c = λ w is at. (λ x. absurd (true≢false (sym x)), λ y. absurd (subst (λ (z : Event). MakesKnown w z) (subst (λ k. IsEventKind k c.args.event.now) c.in-Last.is c.requires.kind) y))

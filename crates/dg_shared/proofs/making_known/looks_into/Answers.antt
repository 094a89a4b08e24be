use Rattle.std.proofs.Common.{sym, subst}
use Rattle.dg_base.specs.declared.events.Event.{Event}
use Rattle.dg_shared.specs.LookedInto.{MakesKnown}
use Rattle.dg_shared.proofs.MakesLemmas.{order_known_then, inject_known_then, mote_in}
use Rattle.dg_shared.proofs.making_known.looks_into.Goals as goal

pub returns-in-Order : goal.returns-in-Order
returns-in-Order c = λ w is at. let e = c.in-Order in
    let x = order_known_then w e.mote e.number e.image e.version e.dt e.word c.args.mote c.knows.result (mote_in _ _ _ e.is at) (c.knows.ensures w is) in
    (λ y. subst (λ (z : Event). MakesKnown w z) (sym e.is) (x.0 y), λ y. x.1 (subst (λ (z : Event). MakesKnown w z) e.is y))

pub returns-in-Inject : goal.returns-in-Inject
returns-in-Inject c = λ w is at. let e = c.in-Inject in
    let x = inject_known_then w e.mote e.image e.version e.dt e.word c.args.mote c.is_declared.result (mote_in _ _ _ e.is at) (c.is_declared.ensures w e.dt e.word is) in
    (λ y. subst (λ (z : Event). MakesKnown w z) (sym e.is) (x.0 y), λ y. x.1 (subst (λ (z : Event). MakesKnown w z) e.is y))

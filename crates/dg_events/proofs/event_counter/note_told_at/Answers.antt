use Rattle.std.proofs.Common.{sym, subst}
use Rattle.dg_events.specs.Noted.{IsOutcome}
use Rattle.dg_events.specs.declared.told.Told.{Told}
use Rattle.dg_events.proofs.ToldLemmas.{came_to}
use Rattle.dg_events.proofs.event_counter.note_told_at.Goals as goal

pub returns : goal.returns
returns c past p h all =
    c.note_at.ensures past p
    (subst (λ (t : Told). IsOutcome c.args.event.now t p) (sym c.told_by-told.ensures) (came_to c.args.event.now c.args.reports.now p h)) all

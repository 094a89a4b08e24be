use Rattle.std.proofs.Common.{subst, ◌∙◌}
use Rattle.dg_events.specs.Told.{told_by, nothing_told}
use Rattle.dg_events.specs.Noted.{IsOutcome}
use Rattle.dg_events.specs.declared.told.Told.{Told}
use Rattle.dg_events.proofs.CountLemmas.{all_more}
use Rattle.dg_events.proofs.ToldLemmas.{came_to}
use Rattle.dg_events.proofs.event_counter.EventCounter.note_quiet.Goals as goal

pub returns : goal.returns
returns c past p h is =
    let told : IsOutcome c.args.event.now (told_by c.args.reports.now) p = came_to c.args.event.now c.args.reports.now p h in
    let came : IsOutcome c.args.event.now nothing_told p = subst (λ (t : Told). IsOutcome c.args.event.now t p) c.requires.quiet told in
    record {
      all = all_more past told.x p c.args.self.now.all told.is is.all;
      motes = c.note_quiet_at.auto.motes ∙ is.motes;
      each = c.note_quiet_at.ensures past p came is.each;
    }

use Rattle.std.proofs.Common.{◌≡◌, [], List, sym, ap, subst, ◌∙◌}
use Rattle.std.proofs.lemmas.Bool.{eqb-true}
use Rattle.std.proofs.lemmas.List.{nil_from_length}
use Rattle.dg_events.specs.Told.{told_by, nothing_told}
use Rattle.dg_events.specs.Noted.{IsOutcome}
use Rattle.dg_events.specs.declared.told.Told.{Told}
use Rattle.dg_script.specs.declared.report.Report.{Report}
use Rattle.dg_events.proofs.CountLemmas.{all_more}
use Rattle.dg_events.proofs.ToldLemmas.{came_to}
use Rattle.dg_events.proofs.event_counter.EventCounter.note.Goals as goal

pub returns-then-is_empty : goal.returns-then-is_empty
returns-then-is_empty c past p h is =
    let nil : c.args.reports.now ≡ [] = nil_from_length c.args.reports.now (eqb-true _ _ (sym c.is_empty.ensures ∙ c.if-is_empty.true)) in
    let none : told_by c.args.reports.now ≡ nothing_told = ap (λ (rs : List Report). told_by rs) nil in
    let told : IsOutcome c.args.event.now (told_by c.args.reports.now) p = came_to c.args.event.now c.args.reports.now p h in
    let came : IsOutcome c.args.event.now nothing_told p = subst (λ (t : Told). IsOutcome c.args.event.now t p) none told in
    record {
      all = all_more past told.x p c.args.self.now.all told.is is.all;
      motes = c.note_quiet_at.auto.motes ∙ is.motes;
      each = c.note_quiet_at.ensures past p came is.each;
    }

pub returns-else-is_empty : goal.returns-else-is_empty
returns-else-is_empty c past p h is =
    let told : IsOutcome c.args.event.now (told_by c.args.reports.now) p = came_to c.args.event.now c.args.reports.now p h in
    record {
      all = all_more past told.x p c.args.self.now.all told.is is.all;
      motes = c.note_told_at.auto.motes ∙ is.motes;
      each = c.note_told_at.ensures past p h is.each;
    }

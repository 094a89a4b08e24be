use Rattle.std.proofs.Common.{ℕ, ap, sym, ◌∙◌}
use Rattle.dg_script.specs.declared.report.Report.{Report}
use Rattle.std.specs.Prelude.{List}
use Rattle.dg_rehearse.specs.Courses.{Agenda, agenda_of, with_progress}
use Rattle.dg_rehearse.proofs.NoteLemmas.{noted_event_by}
use Rattle.dg_rehearse.proofs.schedule.Schedule.note.Goals as goal

pub returns : goal.returns
returns c = λ boards n w is low.
    noted_event_by c.args.plan.now c.args.mote c.turn_after-moment.result w (agenda_of c.args.self.now) (with_progress (agenda_of c.args.self.now) c.note.new.self) (agenda_of c.set_turn.new.self) c.args.stage.now.reports.items _ c.deref.ensures.value (c.note.ensures (agenda_of c.args.self.now)) (c.turn_after-moment.ensures boards n w is low) c.set_turn.ensures

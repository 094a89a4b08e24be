use Rattle.std.proofs.Common.{sym, subst}
use Rattle.std.specs.Prelude.{map}
use Rattle.dg_base.specs.declared.events.Event.{Event}
use Rattle.dg_meter.specs.Meters.{metered_device}
use Rattle.dg_count.specs.Runs.{CountsEvent, NotesWholes}
use Rattle.dg_count.specs.Shown.{CountsFrames}
use Rattle.dg_count.proofs.counter.Counter.note_tick.Goals as goal

pub returns-clause-counts : goal.returns-clause-counts
returns-clause-counts g c =
    subst (λ (e : Event). CountsEvent c.args.self.now.events c.note_busy_tick.new.self.events e c.args.reports.now) (sym c.requires.is)
    c.note_busy_tick.ensures.counts

pub returns-clause-frames : goal.returns-clause-frames
returns-clause-frames g c =
    subst (λ (e : Event). CountsFrames c.args.self.now.frames c.note_busy_tick.new.self.frames c.args.world.now e c.args.reports.now) (sym c.requires.is)
    c.note_busy_tick.ensures.frames

pub returns-clause-wholes : goal.returns-clause-wholes
returns-clause-wholes g c =
    subst (λ (e : Event). NotesWholes c.args.self.now c.note_busy_tick.new.self (map (metered_device g.N.Nor.device) c.args.boards.now) e c.args.reports.now)
    (sym c.requires.is) c.note_busy_tick.ensures.wholes

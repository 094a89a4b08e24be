use Rattle.std.proofs.Common.{ℕ, subst}
use Rattle.std.specs.Prelude.{map}
use Rattle.dg_meter.specs.Meters.{metered_device}
use Rattle.dg_moments.specs.Telling.{BringsWholes}
use Rattle.dg_count.proofs.counter.Counter.note_told_hearing.Goals as goal

pub returns-clause-wholes : goal.returns-clause-wholes
returns-clause-wholes g c =
    subst (λ (m : ℕ). BringsWholes c.args.self.now.wholes c.note-3.new.self c.args.self.now.placed m (map (metered_device g.N.Nor.device) c.args.boards.now)
    c.args.reports.now (record { event = c.note.new.self.all; ms = c.note-2.new.self.ms })) c.requires.mote c.note-3.ensures.brings

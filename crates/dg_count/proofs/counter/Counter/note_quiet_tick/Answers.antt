use Rattle.std.proofs.Common.{ℕ, subst}
use Rattle.std.specs.Prelude.{map}
use Rattle.dg_meter.specs.Meters.{metered_device}
use Rattle.dg_moments.specs.Telling.{BringsWholes}
use Rattle.dg_count.proofs.FrameLemmas.{tick_brings}
use Rattle.dg_count.proofs.counter.Counter.note_quiet_tick.Goals as goal

pub count_sent-requires-clause-none : goal.count_sent-requires-clause-none
count_sent-requires-clause-none g c = tick_brings c.args.event.now c.requires.kind

pub returns-clause-times : goal.returns-clause-times
returns-clause-times g c past p h was is = c.note_quiet-2.ensures c.args.self.now.placed past c.args.event.now p c.requires.dt h was is

pub returns-clause-wholes : goal.returns-clause-wholes
returns-clause-wholes g c =
    subst (λ (m : ℕ). BringsWholes c.args.self.now.wholes c.note.new.self c.args.self.now.placed m (map (metered_device g.N.Nor.device) c.args.boards.now)
    c.args.reports.now (record { event = c.note_quiet.new.self.all; ms = c.note_quiet-2.new.self.ms })) c.requires.mote c.note.ensures.brings

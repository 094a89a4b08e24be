use Rattle.std.proofs.Common.{◌∷◌, ◌++◌, [], ℕ, subst}
use Rattle.std.specs.Prelude.{map}
use Rattle.dg_meter.specs.Meters.{metered_device}
use Rattle.dg_moments.specs.Telling.{BringsWholes}
use Rattle.dg_count.proofs.counter.Counter.note_quiet_hearing.Goals as goal

pub returns-clause-frames : goal.returns-clause-frames
returns-clause-frames g c past p shown has = c.note_hearing_cost.ensures (past ++ p ∷ []) (c.count_wide.ensures past p shown has)

pub returns-clause-times : goal.returns-clause-times
returns-clause-times g c past p h was is = c.note_quiet-2.ensures c.args.self.now.placed past c.args.event.now p c.requires.dt h was is

pub returns-in_default-clause-times : goal.returns-in_default-clause-times
returns-in_default-clause-times g c past p h was is = c.note_quiet-2.ensures c.args.self.now.placed past c.args.event.now p c.requires.dt h was is

pub returns-clause-wholes : goal.returns-clause-wholes
returns-clause-wholes g c =
    subst (λ (m : ℕ). BringsWholes c.args.self.now.wholes c.note.new.self c.args.self.now.placed m (map (metered_device g.N.Nor.device) c.args.boards.now)
    c.args.reports.now (record { event = c.note_quiet.new.self.all; ms = c.note_quiet-2.new.self.ms })) c.requires.mote c.note.ensures.brings

pub returns-in_default-clause-wholes : goal.returns-in_default-clause-wholes
returns-in_default-clause-wholes g c =
    subst (λ (m : ℕ). BringsWholes c.args.self.now.wholes c.note.new.self c.args.self.now.placed m (map (metered_device g.N.Nor.device) c.args.boards.now)
    c.args.reports.now (record { event = c.note_quiet.new.self.all; ms = c.note_quiet-2.new.self.ms })) c.requires.mote c.note.ensures.brings

use Rattle.std.proofs.Common.{arith}
use Rattle.dg_meter.proofs.CountLemmas.{meter_ran, meter_refilled}
use Rattle.dg_meter.proofs.meter.MeteredNor.program.Goals as goal

pub returns-clause-ran : goal.returns-clause-ran
returns-clause-ran g c part =
    meter_ran c.args.self.now.tally c.program-2.new.self c.in_ok-program.ensures.awake (c.program-2.ensures.rises (λ whole. omega (arith, part, whole)))
    (c.in_ok-program.ensures.ran part)

pub returns-clause-refilled : goal.returns-clause-refilled
returns-clause-refilled g c whole =
    meter_refilled c.args.self.now.tally c.program-2.new.self c.in_ok-program.ensures.awake (c.program-2.ensures.is.whole whole) (c.in_ok-program.ensures.refilled whole)

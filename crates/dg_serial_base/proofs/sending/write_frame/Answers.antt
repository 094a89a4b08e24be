use Rattle.std.proofs.Common.{refl}
use Rattle.dg_serial.specs.Line.{stuffed}
use Rattle.dg_serial_base.specs.inner.Standing.{SendEnds, WriteCounts}
use Rattle.dg_serial_base.proofs.ResultLemmas.{handed_memory}
use Rattle.dg_serial_base.proofs.sending.write_frame.Goals as goal

pub returns-in_err-stuff-clause-sends : goal.returns-in_err-stuff-clause-sends
returns-in_err-stuff-clause-sends g c = handed_memory (λ r. SendEnds r (stuffed c.args.frame.now) (g.K.Sink.written c.args.out.now) (g.K.Sink.written c.args.out.now)) c.from_residual.result c.from_residual.ensures refl

pub returns-in_err-stuff-clause-counts : goal.returns-in_err-stuff-clause-counts
returns-in_err-stuff-clause-counts g c = handed_memory (λ r. WriteCounts r (g.K.Sink.faults c.args.out.now) (g.K.Sink.faults c.args.out.now)) c.from_residual.result c.from_residual.ensures refl

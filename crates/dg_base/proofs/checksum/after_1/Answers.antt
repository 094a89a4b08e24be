use Rattle.std.proofs.Common.{arith}
use Rattle.dg_base.proofs.CrcLemmas.{after_1}
use Rattle.dg_base.proofs.checksum.after_1.Goals as goal

pub returns : goal.returns
returns c = after_1 c.args.byte (omega arith)

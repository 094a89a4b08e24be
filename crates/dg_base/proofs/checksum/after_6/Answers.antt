use Rattle.std.proofs.Common.{arith}
use Rattle.dg_base.proofs.CrcLemmas.{after_6}
use Rattle.dg_base.proofs.checksum.after_6.Goals as goal

pub returns : goal.returns
returns c = after_6 c.args.byte (omega arith)

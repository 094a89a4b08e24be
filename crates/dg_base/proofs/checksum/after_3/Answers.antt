use Rattle.std.proofs.Common.{arith}
use Rattle.dg_base.proofs.CrcLemmas.{after_3}
use Rattle.dg_base.proofs.checksum.after_3.Goals as goal

pub returns : goal.returns
returns c = after_3 c.args.byte (omega arith)

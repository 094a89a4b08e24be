use Rattle.std.proofs.Common.{arith}
use Rattle.dg_base.proofs.CrcLemmas.{after_7}
use Rattle.dg_base.proofs.checksum.after_7.Goals as goal

pub returns : goal.returns
returns c = after_7 c.args.byte (omega arith)

use Rattle.std.proofs.Common.{arith}
use Rattle.dg_base.proofs.CrcLemmas.{after_4}
use Rattle.dg_base.proofs.checksum.after_4.Goals as goal

pub returns : goal.returns
returns c = after_4 c.args.byte (omega arith)

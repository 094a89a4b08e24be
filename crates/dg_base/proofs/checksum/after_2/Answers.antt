use Rattle.std.proofs.Common.{arith}
use Rattle.dg_base.proofs.CrcLemmas.{after_2}
use Rattle.dg_base.proofs.checksum.after_2.Goals as goal

pub returns : goal.returns
returns c = after_2 c.args.byte (omega arith)

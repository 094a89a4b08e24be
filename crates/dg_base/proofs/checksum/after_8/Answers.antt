use Rattle.std.proofs.Common.{arith}
use Rattle.dg_base.proofs.CrcLemmas.{after_8}
use Rattle.dg_base.proofs.checksum.after_8.Goals as goal

pub returns : goal.returns
returns c = after_8 c.args.byte (omega arith)

use Rattle.std.proofs.Common.{arith}
use Rattle.dg_base.proofs.CrcLemmas.{after_5}
use Rattle.dg_base.proofs.checksum.after_5.Goals as goal

pub returns : goal.returns
returns c = after_5 c.args.byte (omega arith)

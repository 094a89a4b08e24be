use Rattle.std.proofs.Common.{◌<◌, sym, arith}
use Rattle.dg_xmss.specs.Functions.{to_byte}
use Rattle.dg_xmss.proofs.ByteLemmas.{to_byte-short}
use Rattle.dg_xmss.proofs.hashing.index_bytes.Goals as goal

pub returns : goal.returns
unfolding to_byte
returns c = let low : c.args.index < 65536 = omega arith in sym (to_byte-short c.args.index 30 low)

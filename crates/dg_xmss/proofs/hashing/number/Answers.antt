use Rattle.std.proofs.Common.{◌<◌, sym, arith}
use Rattle.dg_xmss.specs.Functions.{to_byte}
use Rattle.dg_xmss.proofs.ByteLemmas.{to_byte-small}
use Rattle.dg_xmss.proofs.hashing.number.Goals as goal

pub returns : goal.returns
unfolding to_byte
returns c = let low : c.args.value < 256 = omega arith in sym (to_byte-small c.args.value 31 low)

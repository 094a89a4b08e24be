use Rattle.std.proofs.Common.{arith}
use Rattle.dg_xmss.proofs.ByteLemmas.{masked_all}
use Rattle.dg_xmss.proofs.hashing.lay_over.Goals as goal

pub returns : goal.returns
returns c =
    masked_all c.args.node.now c.args.mask.now c.loop-i.mask c.told-node c.told-mask c.loop-i.invariant.size (λ k h. c.loop-i.invariant.done k (omega arith))

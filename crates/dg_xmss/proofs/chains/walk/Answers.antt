use Rattle.dg_xmss.proofs.ChainLemmas.{chain_none, chain_more}
use Rattle.dg_xmss.proofs.chains.walk.Goals as goal

pub loop-hash-init : goal.loop-hash-init
loop-hash-init c = chain_none c.args.prf.now.seed.now c.args.leaf c.args.number c.args.node.now c.args.digit

pub loop-hash-preserved : goal.loop-hash-preserved
loop-hash-preserved c =
    chain_more c.args.prf.now.seed.now c.args.leaf c.args.number c.args.node.now c.args.digit c.loop-hash.hash c.loop-hash.node c.step.result c.loop-hash.auto.hash c.loop-hash.invariant c.step.ensures

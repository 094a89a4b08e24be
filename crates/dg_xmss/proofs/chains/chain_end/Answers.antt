use Rattle.dg_xmss.proofs.ChainLemmas.{chain_end_is}
use Rattle.dg_xmss.proofs.chains.chain_end.Goals as goal

pub returns : goal.returns
returns c =
    let leaf = c.args.leaf.now in
    chain_end_is leaf.prf.now.seed.now leaf.index leaf.digest.now leaf.signature.now c.args.i c.from.result c.from-2.result c.digit-digit.result c.chain_value.new.node c.walk.new.node
    c.requires.known c.from.ensures c.from-2.ensures c.chain_value.ensures c.digit-digit.ensures.digit c.walk.ensures

use Rattle.std.proofs.Common.{rules}
use Rattle.dg_compare.proofs.RootLemmas.{not_chained, chained}
use Rattle.dg_compare.proofs.flaws.is_chained.Goals as goal

pub returns-in-None : goal.returns-in-None
returns-in-None c h shown = not_chained h c.args.seen.now c.in-Some.seen c.args.root.now c.in-Some.is c.in-None.is shown

pub returns-in-Some-chain : goal.returns-in-Some-chain
returns-in-Some-chain c h shown = chained h c.args.seen.now c.in-Some.seen c.in-Some-chain.chain c.args.root.now c.eq.result c.in-Some.is c.in-Some-chain.is (search rules) shown

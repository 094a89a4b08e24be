use Rattle.std.proofs.Common.{◌+◌, ◌*◌}
use Rattle.dg_xmss.proofs.ByteLemmas.{part_between}
use Rattle.dg_xmss.proofs.chains.chain_value.Goals as goal

pub returns : goal.returns
returns c = part_between c.args.signature.now c.copy_from_slice.new.self (36 + 32 * c.args.i) 32 c.copy_from_slice.ensures.after

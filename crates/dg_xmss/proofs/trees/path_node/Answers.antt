use Rattle.std.proofs.Common.{◌+◌, ◌*◌}
use Rattle.dg_xmss.proofs.ByteLemmas.{part_between}
use Rattle.dg_xmss.proofs.trees.path_node.Goals as goal

pub returns : goal.returns
returns c = part_between c.args.signature.now c.copy_from_slice.new.self (2180 + 32 * c.args.k) 32 c.copy_from_slice.ensures.after

use Rattle.std.proofs.Common.{arith}
use Rattle.dg_xmss.proofs.ByteLemmas.{front_of}
use Rattle.dg_xmss.proofs.verifying.index_of.Goals as goal

pub returns : goal.returns
returns c =
    let s = c.args.signature.now in
    omega (arith, c.from_be_bytes.ensures, front_of s 0 (omega arith), front_of s 1 (omega arith), front_of s 2 (omega arith), front_of s 3 (omega arith))

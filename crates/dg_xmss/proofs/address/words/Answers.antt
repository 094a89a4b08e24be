use Rattle.std.proofs.Common.{◌<◌, arith}
use Rattle.dg_xmss.proofs.ByteLemmas.{address_bytes}
use Rattle.dg_xmss.proofs.address.words.Goals as goal

pub returns : goal.returns
returns c =
    let kind : c.args.kind < 256 = omega arith in
    let first : c.args.first < 65536 = omega arith in
    let second : c.args.second < 65536 = omega arith in
    let third : c.args.third < 65536 = omega arith in
    let mask : c.args.key_and_mask < 256 = omega arith in
    address_bytes c.args.kind c.args.first c.args.second c.args.third c.args.key_and_mask c.high.result c.low.result c.high-2.result c.low-2.result c.high-3.result c.low-3.result
    kind first second third mask c.high.ensures c.low.ensures c.high-2.ensures c.low-2.ensures c.high-3.ensures c.low-3.ensures

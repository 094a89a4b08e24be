use Rattle.std.proofs.Common.{◌≡◌, ◌<◌, length, arith}
use Rattle.dg_xmss.specs.Wots.{wots_checksum, digits_of_bytes}
use Rattle.dg_xmss.proofs.DigitLemmas.{lacking_more, lacking_all}
use Rattle.dg_xmss.proofs.chains.checksum.Goals as goal

pub loop-byte-preserved : goal.loop-byte-preserved
loop-byte-preserved c =
    let within : c.loop-byte.byte-index < length c.args.digest.now = omega arith in
    record {
      value = lacking_more c.args.digest.now c.loop-byte.byte-index c.loop-byte.sum c.lacking-sum.result (wots_checksum (digits_of_bytes c.args.digest.now)) within c.lacking-sum.ensures.value c.loop-byte.invariant.value;
      most = omega arith;
    }

pub returns-clause-value : goal.returns-clause-value
returns-clause-value c =
    let end : c.loop-byte.byte-index ≡ 32 = omega arith in
    lacking_all c.args.digest.now c.loop-byte.sum c.loop-byte.byte-index c.told-digest end c.loop-byte.invariant.value

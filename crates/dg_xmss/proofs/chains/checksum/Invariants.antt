use Rattle.std.proofs.Common.{◌≡◌, ◌+◌, ◌*◌, ◌≤◌, drop}
use Rattle.dg_xmss.specs.Wots.{wots_checksum, digits_of_bytes}
use Rattle.dg_xmss.proofs.chains.checksum.Given as goal

abbrev pub invariant-loop-byte : goal.invariant-loop-byte
invariant-loop-byte l =
    record {
      value : l.sum + wots_checksum (digits_of_bytes (drop l.byte-index l.digest)) ≡ wots_checksum (digits_of_bytes l.digest);
      most : l.sum ≤ 30 * l.byte-index;
    }

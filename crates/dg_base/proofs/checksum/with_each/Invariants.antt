-- The checksum so far, continued with the bytes after it, is that of all bytes from `at` on.
use Rattle.std.proofs.Common.{◌≡◌, drop}
use Rattle.dg_base.specs.Crc.{crc_more}
use Rattle.dg_base.proofs.checksum.with_each.Given as goal

abbrev pub invariant-loop-next : goal.invariant-loop-next
invariant-loop-next l = crc_more l.crc (drop l.next l.bytes) ≡ crc_more l.before (drop l.at l.bytes)

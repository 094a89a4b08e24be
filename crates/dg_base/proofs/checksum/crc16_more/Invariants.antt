-- The checksum so far, continued with the bytes after it, is that of all bytes.
use Rattle.std.proofs.Common.{◌≡◌, ◌≤◌, ◌-◌, drop, length}
use Rattle.dg_base.specs.Crc.{crc_more}
use Rattle.dg_base.proofs.checksum.crc16_more.Given as goal

abbrev pub invariant-loop-at : goal.invariant-loop-at
invariant-loop-at l = (l.at ≤ length l.bytes) × (crc_more l.crc (drop l.at l.bytes) ≡ crc_more l.before l.bytes)

abbrev pub decreases-loop-at : goal.decreases-loop-at
decreases-loop-at l = length l.bytes - l.at

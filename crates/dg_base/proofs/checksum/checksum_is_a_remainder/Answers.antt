use Rattle.std.proofs.Common.{arith}
use Rattle.dg_base.proofs.CrcLemmas.{crc_more-append, crc_more-lt, crc_of-remainder}
use Rattle.dg_base.proofs.checksum.checksum_is_a_remainder.Goals as goal

pub returns-clause-remainder : goal.returns-clause-remainder
returns-clause-remainder c bytes h = crc_of-remainder bytes h

pub returns-clause-degree : goal.returns-clause-degree
returns-clause-degree c bytes h = crc_more-lt 0 bytes (omega arith) h

pub returns-clause-parts : goal.returns-clause-parts
returns-clause-parts c before xs ys = crc_more-append before xs ys

use Rattle.std.proofs.Common.{bit_xor, ap, ◌∙◌, ◌*◌, ◌%◌, ◌^◌, arith}
use Rattle.dg_base.proofs.CrcLemmas.{with_byte-table}
use Rattle.dg_base.proofs.checksum.with_byte.Goals as goal

pub returns : goal.returns
returns c = ap (λ t. bit_xor t (c.args.crc * 2 ^ 8 % 2 ^ 16)) c.after_1.ensures ∙ with_byte-table c.args.crc c.args.byte (omega arith) (omega arith)

use Rattle.std.proofs.Common.{sym, ap, ◌∙◌, drop, ◌+◌, arith}
use Rattle.dg_base.specs.Crc.{crc_more}
use Rattle.dg_base.proofs.CrcLemmas.{crc_more-drop, crc_more-drop_all}
use Rattle.dg_base.proofs.checksum.with_each.Goals as goal

pub loop-next-preserved : goal.loop-next-preserved
loop-next-preserved c =
    ap (λ r. crc_more r (drop (c.loop-next.next + 1) c.args.bytes.now)) c.with_byte-crc.ensures
    ∙ sym (crc_more-drop c.loop-next.crc c.args.bytes.now c.loop-next.next (omega arith)) ∙ c.loop-next.invariant

pub returns : goal.returns
returns c = sym (crc_more-drop_all c.loop-next.crc c.args.bytes.now c.loop-next.next (omega arith)) ∙ c.loop-next.invariant

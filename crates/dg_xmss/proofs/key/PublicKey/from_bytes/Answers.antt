use Rattle.dg_xmss.proofs.KeyLemmas.{key_read}
use Rattle.dg_xmss.proofs.key.PublicKey.from_bytes.Goals as goal

pub returns : goal.returns
returns c =
    key_read c.args.bytes.now c.copy_from_slice.new.self c.copy_from_slice-2.new.self c.from_be_bytes-number.result c.if-bytes-ne-KEY_SIZE.false c.if-number-ne-PARAMETER_SET.false
    c.from_be_bytes-number.ensures c.copy_from_slice.ensures.after c.copy_from_slice-2.ensures.after

use Rattle.std.proofs.Common.{refl, arith}
use Rattle.dg_breaks.proofs.ByteLemmas.{text_breaks, bits_rest}
use Rattle.dg_breaks.proofs.unfit.ledger_break.Goals as goal

pub returns-then-equal-lt-TEXT_SIZE : goal.returns-then-equal-lt-TEXT_SIZE
returns-then-equal-lt-TEXT_SIZE c = text_breaks c.args.text.now c.args.bits.now _ c.equal_bytes-equal.result (omega arith) refl c.equal_bytes-equal.ensures.fit (omega arith)

pub returns : goal.returns
returns c =
    let text = c.equal_bytes-equal.ensures.whole (omega arith) in
    bits_rest c.args.text.now c.args.bits.now _ c.from.result c.clear_bytes.result c.from.ensures (omega arith) refl text c.clear_bytes.ensures.within c.clear_bytes.ensures.before c.clear_bytes.ensures.here c.requires

use Rattle.std.proofs.Common.{◌≡◌, arith}
use Rattle.dg_slot.specs.Layout.{header_size}
use Rattle.dg_breaks.proofs.ByteLemmas.{head_breaks, gates_rest}
use Rattle.dg_breaks.proofs.unfit.header_break.Goals as goal

pub returns-then-spelled-lt-SIZE_OF_HEADER : goal.returns-then-spelled-lt-SIZE_OF_HEADER
returns-then-spelled-lt-SIZE_OF_HEADER c = head_breaks c.args.first.now c.args.gates.now c.args.image c.args.version c.spelled_bytes-spelled.result c.spelled_bytes-spelled.ensures.fit (omega arith)

pub returns : goal.returns
returns c =
    let within = c.spelled_bytes-spelled.ensures.fit.within in
    let whole : c.spelled_bytes-spelled.result ≡ header_size = omega (arith, within) in
    gates_rest c.args.first.now c.args.gates.now c.args.image c.args.version c.spelled_bytes-spelled.result c.from.result c.clear_bytes.result c.spelled_bytes-spelled.ensures.fit whole (c.spelled_bytes-spelled.ensures.whole whole) (c.spelled_bytes-spelled.ensures.fewest whole) (c.spelled_bytes-spelled.ensures.most whole)
    c.spelled_bytes-spelled.ensures.small c.from.ensures (omega arith) c.clear_bytes.ensures.within c.clear_bytes.ensures.before c.clear_bytes.ensures.here c.requires.none

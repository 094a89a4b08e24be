use Rattle.std.proofs.Common.{◌≡◌, rules, arith}
use Rattle.dg_slot.specs.Layout.{header_size}
use Rattle.dg_breaks.proofs.ByteLemmas.{golden_unlive, golden_head, golden_rest}
use Rattle.dg_breaks.proofs.unfit.golden_break.Goals as goal

pub returns-then-ne : goal.returns-then-ne
returns-then-ne c = golden_unlive c.args.slot c.args.first.now c.args.gates.now (search rules)

pub returns-then-spelled-lt-SIZE_OF_HEADER : goal.returns-then-spelled-lt-SIZE_OF_HEADER
returns-then-spelled-lt-SIZE_OF_HEADER c = golden_head c.args.slot c.args.first.now c.args.gates.now c.spelled_bytes-spelled.result (search rules) c.spelled_bytes-spelled.ensures.fit (omega arith)

pub returns : goal.returns
returns c =
    let within = c.spelled_bytes-spelled.ensures.fit.within in
    let whole : c.spelled_bytes-spelled.result ≡ header_size = omega (arith, within) in
    golden_rest c.args.slot c.args.first.now c.args.gates.now c.gates_of.result c.spelled_bytes-spelled.result c.equal_bytes.result (search rules) c.gates_of.ensures c.spelled_bytes-spelled.ensures.fit whole (c.spelled_bytes-spelled.ensures.whole whole) (c.spelled_bytes-spelled.ensures.fewest whole) (c.spelled_bytes-spelled.ensures.most whole)
    c.spelled_bytes-spelled.ensures.small (omega arith) c.equal_bytes.ensures.fit c.equal_bytes.ensures.whole c.requires

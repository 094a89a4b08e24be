use Rattle.std.proofs.Common.{rules, ◌+◌, ◌<◌, ◌%◌, get_or, ap, arith}
use Rattle.dg_script.proofs.NumberLineLemmas.{more_step}
use Rattle.dg_script.proofs.numbers.more_digits.Goals as goal

pub loop-count-preserved : goal.loop-count-preserved
loop-count-preserved c =
    let text = c.args.text.now in
    let i = c.loop-count.count in
    let byte : get_or text i 0 < 256 = search rules in
    more_step text c.args.first i c.loop-count.number ((c.from-digit.result + 4294967248) % 4294967296) c.requires c.loop-count-test.true c.loop-count.invariant.0 c.loop-count.invariant.1 byte
    (ap (λ b. (b + 4294967248) % 4294967296) c.from-digit.ensures) (omega (arith, c.if-digit-gt9.false))

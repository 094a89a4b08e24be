use Rattle.std.proofs.Common.{arith}
use Rattle.dg_base.specs.Hexadecimal.{hex_bytes}
use Rattle.dg_base.proofs.HexLemmas.{ahead_of-nil, read_on, read_all}
use Rattle.dg_base.proofs.hexadecimal.read_pairs.Goals as goal

pub loop-at-init : goal.loop-at-init
loop-at-init c = (ahead_of-nil (hex_bytes c.args.digits.now), tt)

pub loop-at-preserved : goal.loop-at-preserved
loop-at-preserved c =
    read_on c.args.digits.now c.loop-at.into c.loop-at.at c.value_of.result c.value_of-in-loop-at.result c.loop-at.all c.is_digit.result c.is_digit-in-loop-at.result
    (omega arith) (omega arith) c.is_digit.ensures c.value_of.ensures.value c.is_digit-in-loop-at.ensures c.value_of-in-loop-at.ensures.value c.loop-at.invariant

pub returns-clause-read : goal.returns-clause-read
returns-clause-read c = read_all c.args.digits.now c.loop-at.into c.loop-at.at c.loop-at.all (omega arith) (omega arith) c.loop-at.invariant

pub returns-clause-refused : goal.returns-clause-refused
returns-clause-refused c = c.loop-at.invariant.1

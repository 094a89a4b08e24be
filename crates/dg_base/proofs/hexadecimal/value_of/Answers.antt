use Rattle.std.proofs.Common.{arith}
use Rattle.dg_base.proofs.HexLemmas.{hex_value-by_bits}
use Rattle.dg_base.proofs.hexadecimal.value_of.Goals as goal

pub returns-clause-value : goal.returns-clause-value
returns-clause-value c v h = hex_value-by_bits c.args.digit v (omega arith) h

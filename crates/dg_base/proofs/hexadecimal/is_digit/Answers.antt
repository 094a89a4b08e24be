use Rattle.std.proofs.Common.{arith}
use Rattle.dg_base.proofs.HexLemmas.{is_digit-by_ranges}
use Rattle.dg_base.proofs.hexadecimal.is_digit.Goals as goal

pub returns : goal.returns
returns c = is_digit-by_ranges c.args.byte (omega arith)

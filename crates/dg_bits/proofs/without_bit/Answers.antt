use Rattle.std.proofs.Common.{w8}
use Rattle.std.proofs.lemmas.Nat.Bits.{bit_at_clear_same, bit_at_clear_other}
use Rattle.dg_bits.proofs.without_bit.Goals as goal

pub returns-clause-cleared : goal.returns-clause-cleared
returns-clause-cleared c = bit_at_clear_same w8 c.args.byte c.args.position c.requires

pub returns-clause-others : goal.returns-clause-others
returns-clause-others c = λ i lt other. bit_at_clear_other w8 c.args.byte c.args.position c.requires i lt other

use Rattle.std.proofs.Common.{◌-◌, ◌%◌, ap, eqb}
use Rattle.std.proofs.lemmas.Nat.Bits.{shr_and_one}
use Rattle.dg_bits.specs.ByteForm.{is_marked}
use Rattle.dg_bits.proofs.is_set.Goals as goal

pub returns : goal.returns
unfolding is_marked
returns c = ap (λ b. eqb b 1) (shr_and_one _ (7 - c.args.n % 8))

use Rattle.dg_bits.proofs.ByteFormLaws.{IsPacked-zeros, numbers_of-zeros}
use Rattle.dg_bits.proofs.PageBits.none.Goals as goal

pub invariant_of-result : goal.invariant_of-result
invariant_of-result g c = IsPacked-zeros g.row.N c.requires.some_size c.requires.fits

pub returns : goal.returns
returns g c = numbers_of-zeros 9

use Rattle.dg_words.proofs.BitsLemmas.{length-cleared_bits, bit_is_cleared}
use Rattle.dg_words.proofs.laws.a_bit_is_cleared_below_the_count.Goals as goal

pub returns : goal.returns
returns c = record { bytes = length-cleared_bits; bits = bit_is_cleared }

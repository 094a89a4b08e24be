use Rattle.std.proofs.Common.{◌≡◌}
use Rattle.dg_bits.specs.Sets.{below}
use Rattle.dg_bits.proofs.PageBits.all.Given as goal

abbrev pub invariant-loop-n : goal.invariant-loop-n
invariant-loop-n g l = l.every ≡ below l.n

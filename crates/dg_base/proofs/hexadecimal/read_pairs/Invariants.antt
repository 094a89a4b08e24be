use Rattle.dg_base.proofs.HexLemmas.{ReadTo}
use Rattle.dg_base.proofs.hexadecimal.read_pairs.Given as goal

abbrev pub invariant-loop-at : goal.invariant-loop-at
invariant-loop-at l = ReadTo l.digits l.into l.at l.all

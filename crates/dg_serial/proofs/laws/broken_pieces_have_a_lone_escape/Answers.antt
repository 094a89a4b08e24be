use Rattle.dg_serial.proofs.BreakLemmas.{broken}
use Rattle.dg_serial.proofs.laws.broken_pieces_have_a_lone_escape.Goals as goal

pub returns : goal.returns
returns c = broken

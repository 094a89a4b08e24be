use Rattle.dg_replay.proofs.WholeLemmas.{are_whole_lines}
use Rattle.dg_replay.proofs.laws.whole_lines_are_longest.Goals as goal

pub returns : goal.returns
returns c = λ bytes. are_whole_lines bytes

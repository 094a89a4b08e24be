use Rattle.std.proofs.Common.{length}
use Rattle.dg_story.proofs.ReadLemmas.{SoFar}
use Rattle.dg_story.proofs.reading.read_lines.Given as goal

abbrev pub invariant-loop-rest : goal.invariant-loop-rest
invariant-loop-rest l = SoFar l.bytes l.rest l.story.told.items l.story.last l.story.count l.timed

abbrev pub decreases-loop-rest : goal.decreases-loop-rest
decreases-loop-rest l = length l.rest

use Rattle.dg_base.proofs.LineLemmas.{first_at}
use Rattle.dg_story.proofs.ReadLemmas.{line_at}
use Rattle.dg_story.proofs.reading.first_line.Goals as goal

pub returns-in-Some-clause-first : goal.returns-in-Some-clause-first
returns-in-Some-clause-first c = line_at c.args.bytes.now c.in-Some.at (first_at _ _ c.in-Some.ensures)

use Rattle.dg_story.proofs.LineLemmas.{is_text}
use Rattle.dg_story.proofs.lines.number.Goals as goal

pub returns-in_default : goal.returns-in_default
returns-in_default c = λ n h e. absurd (c.in_default.ensures.cases.0 (is_text n c.args.bytes.now h e))

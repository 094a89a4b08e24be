use Rattle.dg_story.proofs.LineLemmas.{no_space_no_number}
use Rattle.dg_story.proofs.lines.take_number.Goals as goal

pub returns-in_default : goal.returns-in_default
returns-in_default c = no_space_no_number c.args.bytes.now c.in_default.ensures

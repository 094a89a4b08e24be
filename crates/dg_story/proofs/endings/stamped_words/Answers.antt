use Rattle.std.proofs.Common.{Some, refl}
use Rattle.dg_story.proofs.LineLemmas.{stamped_ending}
use Rattle.dg_story.proofs.endings.stamped_words.Goals as goal

pub returns : goal.returns
returns c =
    (Some c.in_ok-rest.field-0-0, refl, stamped_ending _ _ _ c.in_ok-rest.field-0-0 c.in_ok-rest.ensures c.in_ok-words.ensures.0, c.in_ok-words.ensures.1)

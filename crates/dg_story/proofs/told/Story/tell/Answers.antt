use Rattle.std.proofs.Common.{rules}
use Rattle.dg_story.proofs.ToldLemmas.{told_more}
use Rattle.dg_story.proofs.told.Story.tell.Goals as goal

pub returns : goal.returns
returns c = λ lines h. told_more lines c.args.line _ c.place_of-place.result _ _ _ _ h c.place_of-place.ensures c.in_ok-keep_told.ensures (search rules)

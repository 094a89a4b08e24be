use Rattle.std.proofs.Common.{ap, ◌∙◌}
use Rattle.dg_mote.specs.Summary.{entry_by}
use Rattle.dg_mote.proofs.KeepLemmas.{entry_is}
use Rattle.dg_mote.proofs.RulesLemmas.{advert_says, page_served, page_missing}
use Rattle.dg_mote.proofs.rules.pages_are_forwarded_before_the_image_is_whole.Goals as goal

pub returns-clause-advert : goal.returns-clause-advert
returns-clause-advert c = advert_says

pub returns-clause-entry : goal.returns-clause-entry
returns-clause-entry c wide s image h low high here = entry_is wide s image low high ∙ ap entry_by here

pub returns-clause-served : goal.returns-clause-served
returns-clause-served c = page_served

pub returns-clause-refused : goal.returns-clause-refused
returns-clause-refused c = page_missing

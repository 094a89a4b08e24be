use Rattle.std.proofs.Common.{sym}
use Rattle.dg_words.proofs.ListLemmas.{padded_none}
use Rattle.dg_object.specs.Sizes.{page_size}
use Rattle.dg_object.proofs.object.blank.Goals as goal

pub returns : goal.returns
returns c = sym (padded_none page_size 255)

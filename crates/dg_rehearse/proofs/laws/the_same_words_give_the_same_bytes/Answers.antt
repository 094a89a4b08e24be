use Rattle.dg_rehearse.proofs.SameLemmas.{same_by_cuts, same_uncut}
use Rattle.dg_rehearse.proofs.laws.the_same_words_give_the_same_bytes.Goals as goal

pub returns : goal.returns
returns c = record { uncut = same_uncut; cut = same_by_cuts }

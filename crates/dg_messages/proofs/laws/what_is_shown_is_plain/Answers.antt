use Rattle.dg_messages.proofs.ShowLemmas.{shown_plain}
use Rattle.dg_messages.proofs.laws.what_is_shown_is_plain.Goals as goal

pub returns : goal.returns
returns c word = shown_plain 0 word

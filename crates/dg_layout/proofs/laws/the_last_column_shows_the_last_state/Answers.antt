use Rattle.dg_layout.proofs.LawLemmas.{last}
use Rattle.dg_layout.proofs.laws.the_last_column_shows_the_last_state.Goals as goal

pub returns : goal.returns
returns c = last

use Rattle.dg_replay.proofs.FrontLemmas.{whole_front_begins}
use Rattle.dg_replay.proofs.laws.first_lines_are_read_the_same.Goals as goal

pub returns : goal.returns
returns c = λ front more whole few. whole_front_begins front more whole few

use Rattle.dg_object.proofs.HeadLemmas.{one_head}
use Rattle.dg_object.proofs.laws.a_head_is_read_in_one_way.Goals as goal

pub returns : goal.returns
returns c = one_head

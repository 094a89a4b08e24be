use Rattle.dg_object.proofs.RestLemmas.{descriptor_from_pieces, RestFits-more, head_of_descriptor, pieces_of_descriptor}
use Rattle.dg_object.proofs.laws.a_descriptor_is_read_in_pieces.Goals as goal

pub returns : goal.returns
returns c = record { parts = descriptor_from_pieces; more = RestFits-more; head = head_of_descriptor; pieces = pieces_of_descriptor }

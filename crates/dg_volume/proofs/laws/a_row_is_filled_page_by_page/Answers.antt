use Rattle.dg_volume.proofs.PartLemmas.{all_rest}
use Rattle.dg_volume.proofs.RowLemmas.{next_fits, rest_fit}
use Rattle.dg_volume.proofs.laws.a_row_is_filled_page_by_page.Goals as goal

pub returns-clause-next : goal.returns-clause-next
returns-clause-next c = next_fits c.a_descriptor_is_tested.ensures.described

pub returns-clause-rest : goal.returns-clause-rest
returns-clause-rest c = rest_fit c.a_descriptor_is_tested.ensures.described

pub returns-clause-part : goal.returns-clause-part
returns-clause-part c = all_rest (next_fits c.a_descriptor_is_tested.ensures.described)

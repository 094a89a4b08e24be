use Rattle.dg_nor.proofs.ReadLemmas.{read_after}
use Rattle.dg_inspect.proofs.pages.see_whole.Goals as goal

pub returns-clause-ends : goal.returns-clause-ends
returns-clause-ends g c = read_after c.see_pages.result _ _ _ c.in_ok-descriptor.ensures.ends c.see_pages.ensures.ends

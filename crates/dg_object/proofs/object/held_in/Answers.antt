use Rattle.dg_object.specs.Sizes.{page_size}
use Rattle.dg_object.proofs.PageLemmas.{held_part}
use Rattle.dg_object.proofs.object.held_in.Goals as goal

pub returns-clause-held : goal.returns-clause-held
returns-clause-held c = held_part page_size _ _ _ c.args.bytes.now (rw c.from.ensures at c.min.ensures) c.min-2.ensures

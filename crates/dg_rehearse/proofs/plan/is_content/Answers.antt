use Rattle.dg_words.proofs.CellLemmas.{AreBytes_fits}
use Rattle.dg_rehearse.proofs.plan.is_content.Goals as goal

pub returns-clause-bytes : goal.returns-clause-bytes
returns-clause-bytes c = AreBytes_fits c.args.bytes.now c.type_inv.bytes

use Rattle.dg_words.proofs.CellLemmas.{AreBytes_fits}
use Rattle.dg_frame.proofs.sent.bytes_fit_types.Goals as goal

pub returns : goal.returns
returns c = AreBytes_fits c.args.bytes.now c.type_inv.bytes

use Rattle.dg_volume.proofs.StoreLemmas.{one_store, tells_store}
use Rattle.dg_volume.proofs.laws.a_chip_stands_for_one_store.Goals as goal

pub returns : goal.returns
returns c = record { one = one_store; told = tells_store }

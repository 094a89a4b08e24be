use Rattle.std.proofs.Common.{Some}
use Rattle.dg_boot.proofs.CommitLemmas.{set_told}
use Rattle.dg_boot.proofs.committing.set.Goals as goal

pub commit-requires-clause-holds : goal.commit-requires-clause-holds
commit-requires-clause-holds g c = let h = c.requires.holds in (Some h.0, set_told h.0 c.args.image c.args.version h.1, h.2)

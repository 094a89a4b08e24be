use Rattle.std.proofs.Common.{subst}
use Rattle.dg_netcfg.specs.Readings.{IsProfileReading}
use Rattle.dg_netcfg.proofs.ReadingLemmas.{reads, is_read}
use Rattle.dg_netcfg.proofs.laws.one_profile.Goals as goal

pub returns : goal.returns
returns c b r told = (λ e. subst (IsProfileReading b) e (reads b), is_read b r told)

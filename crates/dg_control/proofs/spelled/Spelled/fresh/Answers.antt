use Rattle.dg_control.proofs.SettingLemmas.{fresh_fits}
use Rattle.dg_control.proofs.spelled.Spelled.fresh.Goals as goal

pub invariant_of-result : goal.invariant_of-result
invariant_of-result c = record { fits = fresh_fits c.args.form c.fresh.result c.requires c.fresh.ensures }

use Rattle.dg_control.proofs.SettingLemmas.{today_fits}
use Rattle.dg_control.proofs.spelled.Spelled.today.Goals as goal

pub invariant_of-result : goal.invariant_of-result
invariant_of-result c = record { fits = today_fits c.args.snapshot }

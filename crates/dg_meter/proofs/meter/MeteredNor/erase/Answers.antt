use Rattle.dg_meter.proofs.CountLemmas.{meter_ran}
use Rattle.dg_meter.proofs.meter.MeteredNor.erase.Goals as goal

pub returns-clause-ran : goal.returns-clause-ran
returns-clause-ran g c = meter_ran c.args.self.now.tally c.erase-2.new.self c.in_ok-erase.ensures.awake c.erase-2.ensures.rises c.in_ok-erase.ensures.ran

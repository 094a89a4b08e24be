use Rattle.std.proofs.Common.{refl}
use Rattle.dg_meter.proofs.CountLemmas.{erases_rise}
use Rattle.dg_meter.proofs.tally.Tally.erase.Goals as goal

pub returns-clause-rises : goal.returns-clause-rises
returns-clause-rises c = erases_rise c.args.self.now (record c.args.self.now { erases = c.note.new.self }) refl c.note.ensures.rises

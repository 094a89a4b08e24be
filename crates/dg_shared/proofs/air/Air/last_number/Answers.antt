use Rattle.std.proofs.Common.{sym, arith}
use Rattle.dg_shared.proofs.AirLemmas.{last_unknown}
use Rattle.dg_shared.proofs.air.Air.last_number.Goals as goal

pub returns-else-by-lt16 : goal.returns-else-by-lt16
returns-else-by-lt16 c sent carries =
    sym (last_unknown c.args.self.now sent c.args.by (omega (arith, c.if-by-lt16.false, c.from-by.ensures)) carries)

use Rattle.std.proofs.Common.{sym, subst}
use Rattle.dg_nor.specs.Device.{PartsRise}
use Rattle.dg_meter.specs.Shares.{counts_in}
use Rattle.dg_meter.specs.declared.shares.Shares.{Shares}
use Rattle.dg_meter.proofs.CountLemmas.{programs_rise}
use Rattle.dg_meter.proofs.tally.Tally.program.Goals as goal

pub returns-clause-rises : goal.returns-clause-rises
returns-clause-rises c = λ _. programs_rise c.args.self.now c.note_program.new.self (c.note_program.ensures.erases)
    (subst (λ (p : Shares). PartsRise 1 (counts_in c.args.self.now.programs) (counts_in p)) (sym c.note_program.ensures.programs) c.note.ensures.rises)

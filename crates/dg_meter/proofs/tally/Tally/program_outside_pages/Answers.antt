use Rattle.std.proofs.Common.{sym, subst}
use Rattle.dg_nor.specs.Device.{PartsRise}
use Rattle.dg_meter.specs.Shares.{counts_in}
use Rattle.dg_meter.specs.declared.shares.Shares.{Shares}
use Rattle.dg_meter.proofs.CountLemmas.{programs_rise}
use Rattle.dg_meter.proofs.tally.Tally.program_outside_pages.Goals as goal

pub returns-then-bytes-eq-HEADER_SIZE-clause-rises : goal.returns-then-bytes-eq-HEADER_SIZE-clause-rises
returns-then-bytes-eq-HEADER_SIZE-clause-rises c =
    programs_rise c.args.self.now c.note_program.new.self c.note_program.ensures.erases
    (subst (λ (p : Shares). PartsRise 1 (counts_in c.args.self.now.programs) (counts_in p)) (sym c.note_program.ensures.programs) c.note.ensures.rises)

pub returns-else-eq-clause-rises : goal.returns-else-eq-clause-rises
returns-else-eq-clause-rises c =
    programs_rise c.args.self.now c.note_program.new.self c.note_program.ensures.erases
    (subst (λ (p : Shares). PartsRise 1 (counts_in c.args.self.now.programs) (counts_in p)) (sym c.note_program.ensures.programs) c.note.ensures.rises)

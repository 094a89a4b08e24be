use Rattle.std.proofs.Common.{sym, refl, subst}
use Rattle.dg_ihex.specs.declared.record.Record.TheVariants as records
use Rattle.dg_ihex.specs.Windows.{Holds}
use Rattle.dg_ihex.proofs.FileLemmas.{steps_open, blocks_same, end_same, base_next}
use Rattle.dg_ihex.proofs.reader.Reader.take_start.Goals as goal

pub returns : goal.returns
returns c before h =
    steps_open c.check_open.result before records.Start c.args.self.now.has_ended _ refl h.window.close (sym h.has_ended)
    (record {
      base = base_next before records.Start c.args.self.now.base _ h.base refl;
      has_ended = end_same before records.Start c.args.self.now.has_ended h.has_ended refl;
      window = subst (Holds c.args.self.now.window) (blocks_same before records.Start refl) h.window;
    })
    c.check_open.ensures

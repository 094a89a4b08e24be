use Rattle.std.proofs.Common.{sym, refl, ◌∙◌, subst, rules}
use Rattle.std.proofs.lemmas.Result.{err_from_is_err_and}
use Rattle.dg_ihex.specs.declared.record.Record.TheVariants as records
use Rattle.dg_ihex.specs.Windows.{Holds}
use Rattle.dg_ihex.proofs.FileLemmas.{no_byte, refused_end, blocks_same, end_same, base_next}
use Rattle.dg_ihex.proofs.reader.Reader.take_linear.Goals as goal

pub returns-in_err-check_open : goal.returns-in_err-check_open
returns-in_err-check_open c before h =
    let p = err_from_is_err_and c.from_residual.result c.from_residual.ensures.1 in
    rw (p.1, p.2) (refused_end _ before (records.Linear c.args.units) c.args.self.now.has_ended (no_byte before (records.Linear c.args.units) _ refl h.window.close (sym h.has_ended)) c.in_err-check_open.ensures)

pub returns : goal.returns
returns c before h = (
  no_byte before (records.Linear c.args.units) c.args.self.now.has_ended refl h.window.close (sym h.has_ended) ∙ c.in_ok-check_open.ensures.0,
  record {
    base = base_next before (records.Linear c.args.units) c.args.self.now.base _ h.base (search rules);
    has_ended = end_same before (records.Linear c.args.units) c.args.self.now.has_ended h.has_ended refl;
    window = subst (Holds c.args.self.now.window) (blocks_same before (records.Linear c.args.units) refl) h.window;
  },
)

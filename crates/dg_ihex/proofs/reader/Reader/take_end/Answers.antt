use Rattle.std.proofs.Common.{sym, refl, ◌∙◌, subst}
use Rattle.std.proofs.lemmas.Result.{err_from_is_err_and}
use Rattle.dg_ihex.specs.declared.record.Record.TheVariants as records
use Rattle.dg_ihex.specs.Windows.{Holds}
use Rattle.dg_ihex.proofs.FileLemmas.{no_byte, refused_end, blocks_same, end_now, base_next}
use Rattle.dg_ihex.proofs.reader.Reader.take_end.Goals as goal

pub returns-in_err-check_open : goal.returns-in_err-check_open
returns-in_err-check_open c before h =
    let p = err_from_is_err_and c.from_residual.result c.from_residual.ensures.1 in
    rw (p.1, p.2) (refused_end _ before (records.End) c.args.self.now.has_ended (no_byte before (records.End) _ refl h.window.close (sym h.has_ended)) c.in_err-check_open.ensures)

pub returns : goal.returns
returns c before h = (
  no_byte before (records.End) c.args.self.now.has_ended refl h.window.close (sym h.has_ended) ∙ c.in_ok-check_open.ensures.0,
  record {
    base = base_next before (records.End) c.args.self.now.base _ h.base refl;
    has_ended = end_now before;
    window = subst (Holds c.args.self.now.window) (blocks_same before (records.End) refl) h.window;
  },
)

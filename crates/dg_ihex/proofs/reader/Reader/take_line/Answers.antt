use Rattle.std.proofs.lemmas.Result.{err_from_is_err_and}
use Rattle.std.proofs.Common.{subst, length, ◌++◌, ◌∷◌, []}
use Rattle.dg_ihex.specs.Files.{cause_of, records_of}
use Rattle.dg_ihex.specs.Readers.{ReaderStands}
use Rattle.dg_ihex.proofs.FileLemmas.{blank_line, record_line, refused_line, steps_moved, some_bytes, no_bytes}
use Rattle.dg_ihex.proofs.reader.Reader.take_line.Goals as goal

pub returns-then-is_empty : goal.returns-then-is_empty
returns-then-is_empty c before h =
    let blank = blank_line before c.args.text.now (no_bytes c.args.text.now c.is_empty.result c.is_empty.ensures c.if-is_empty.true) in
    (blank.0, subst (ReaderStands c.args.self.now) blank.1 h)

pub returns : goal.returns
returns c before h =
    let text = c.args.text.now in
    let line = record_line before text c.in_ok-record.record (some_bytes (length text) c.is_empty.result c.is_empty.ensures c.if-is_empty.false) c.in_ok-record.ensures in
    steps_moved c.take.result _ (cause_of before text) _ (ReaderStands c.take.new.self (records_of (before ++ text ∷ []))) line.0 (subst (ReaderStands c.take.new.self) line.1) (c.take.ensures (records_of before) h)

pub returns-in_err-record : goal.returns-in_err-record
returns-in_err-record c before h =
    let text = c.args.text.now in
    let p = err_from_is_err_and c.from_residual.result c.from_residual.ensures.1 in
    rw (p.1, p.2) (refused_line before text _ (some_bytes (length text) c.is_empty.result c.is_empty.ensures c.if-is_empty.false) c.in_err-record.ensures)

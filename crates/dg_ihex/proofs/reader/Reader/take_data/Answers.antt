use Rattle.std.proofs.Common.{◌≡◌, ◌+◌, [], length, true, false, sym, refl, ap, ◌∙◌, subst, arith}
use Rattle.std.proofs.lemmas.Result.{err_from_is_err_and}
use Rattle.dg_ihex.specs.declared.record.Record.TheVariants as records
use Rattle.dg_ihex.specs.Blocks.{Block}
use Rattle.dg_ihex.specs.Files.{base_of, block_of, blocks_of}
use Rattle.dg_ihex.specs.Windows.{Holds}
use Rattle.dg_ihex.proofs.FileLemmas.{with_block, no_bytes, steps_open, refused_end, blocks_same, data_block, some_bytes, span_fits, span_exceeds, blocks_next, end_same, base_next}
use Rattle.dg_ihex.proofs.reader.Reader.take_data.Goals as goal

pub returns-then-is_empty : goal.returns-then-is_empty
returns-then-is_empty c before h =
    let empty = no_bytes c.args.bytes.now c.is_empty.result c.is_empty.ensures c.if-is_empty.true in
    let next = records.Data c.args.offset c.args.bytes.now in
    let none : block_of (base_of before) next ≡ [] = ap (λ bytes. block_of (base_of before) (records.Data c.args.offset bytes)) empty in
    steps_open c.check_open.result before next c.args.self.now.has_ended _ none h.window.close (sym h.has_ended)
    (record {
      base = base_next before next c.args.self.now.base _ h.base refl;
      has_ended = end_same before next c.args.self.now.has_ended h.has_ended refl;
      window = subst (Holds c.args.self.now.window) (blocks_same before next none) h.window;
    })
    c.check_open.ensures

pub returns-then-overlaps : goal.returns-then-overlaps
returns-then-overlaps c before h =
    let next = records.Data c.args.offset c.args.bytes.now in
    let address = c.args.self.now.base + c.from.result in
    let block : Block = record { address = address; bytes = c.args.bytes.now } in
    let is : address ≡ base_of before + c.args.offset = omega (arith, h.base, c.from.ensures) in
    let own = data_block (base_of before) c.args.offset address c.args.bytes.now is (some_bytes (length c.args.bytes.now) c.is_empty.result c.is_empty.ensures c.if-is_empty.false) in
    let again = sym (c.overlaps.ensures (blocks_of before) h.window) in
    with_block before next block true _ _ own (again ∙ c.if-overlaps.true) refl refl

pub returns-then-span_with-gt-LONGEST_IMAGE : goal.returns-then-span_with-gt-LONGEST_IMAGE
returns-then-span_with-gt-LONGEST_IMAGE c before h =
    let next = records.Data c.args.offset c.args.bytes.now in
    let address = c.args.self.now.base + c.from.result in
    let block : Block = record { address = address; bytes = c.args.bytes.now } in
    let is : address ≡ base_of before + c.args.offset = omega (arith, h.base, c.from.ensures) in
    let own = data_block (base_of before) c.args.offset address c.args.bytes.now is (some_bytes (length c.args.bytes.now) c.is_empty.result c.is_empty.ensures c.if-is_empty.false) in
    let again = sym (c.overlaps.ensures (blocks_of before) h.window) in
    let span = c.span_with.ensures (blocks_of before) h.window in
    with_block before next block false true _ own (again ∙ c.if-overlaps.false) (span_exceeds _ _ span c.if-span_with-gt-LONGEST_IMAGE.true) refl

pub returns-in_err-check_open : goal.returns-in_err-check_open
returns-in_err-check_open c before h =
    let next = records.Data c.args.offset c.args.bytes.now in
    let address = c.args.self.now.base + c.from.result in
    let block : Block = record { address = address; bytes = c.args.bytes.now } in
    let is : address ≡ base_of before + c.args.offset = omega (arith, h.base, c.from.ensures) in
    let own = data_block (base_of before) c.args.offset address c.args.bytes.now is (some_bytes (length c.args.bytes.now) c.is_empty.result c.is_empty.ensures c.if-is_empty.false) in
    let again = sym (c.overlaps.ensures (blocks_of before) h.window) in
    let span = c.span_with.ensures (blocks_of before) h.window in
    let is = with_block before next block false false c.args.self.now.has_ended own (again ∙ c.if-overlaps.false) (span_fits _ _ span c.if-span_with-gt-LONGEST_IMAGE.false) (sym h.has_ended) in
    let p = err_from_is_err_and c.from_residual.result c.from_residual.ensures.1 in
    rw (p.1, p.2) (refused_end _ before next c.args.self.now.has_ended is c.in_err-check_open.ensures)

pub returns : goal.returns
returns c before h =
    let next = records.Data c.args.offset c.args.bytes.now in
    let address = c.args.self.now.base + c.from.result in
    let block : Block = record { address = address; bytes = c.args.bytes.now } in
    let is : address ≡ base_of before + c.args.offset = omega (arith, h.base, c.from.ensures) in
    let own = data_block (base_of before) c.args.offset address c.args.bytes.now is (some_bytes (length c.args.bytes.now) c.is_empty.result c.is_empty.ensures c.if-is_empty.false) in
    let again = sym (c.overlaps.ensures (blocks_of before) h.window) in
    let span = c.span_with.ensures (blocks_of before) h.window in
    let apart = again ∙ c.if-overlaps.false in (
      with_block before next block false false c.args.self.now.has_ended own apart (span_fits _ _ span c.if-span_with-gt-LONGEST_IMAGE.false) (sym h.has_ended) ∙ c.in_ok-check_open.ensures.0,
      record {
        base = base_next before next c.args.self.now.base _ h.base refl;
        has_ended = end_same before next c.args.self.now.has_ended h.has_ended refl;
        window = subst (Holds c.give.new.self) (blocks_next before next block own) (c.in_ok-give.ensures (blocks_of before) h.window apart (omega (arith, span, c.if-span_with-gt-LONGEST_IMAGE.false)));
      },
    )

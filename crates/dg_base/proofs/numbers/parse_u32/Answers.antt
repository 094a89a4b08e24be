use Rattle.std.proofs.Common.{◌≡◌, get_or, Some, None, sym, ap, ◌∙◌, arith}
use Rattle.std.proofs.lemmas.Bool.{eqb-true, eqb-false}
use Rattle.std.proofs.lemmas.List.{drop_all}
use Rattle.dg_base.specs.Numbers.{with_digit}
use Rattle.dg_base.proofs.NumberLemmas.{number_of-empty, number_of-one_zero, number_of-zeros, number_of-digits, read_on, read_on-stops}
use Rattle.dg_base.proofs.numbers.parse_u32.Goals as goal

pub returns-then-is_empty : goal.returns-then-is_empty
returns-then-is_empty c = number_of-empty c.args.bytes.now (eqb-true _ _ (sym c.is_empty.ensures ∙ c.if-is_empty.true))

pub returns-then-bytes-eq1 : goal.returns-then-bytes-eq1
returns-then-bytes-eq1 c = number_of-one_zero c.args.bytes.now c.if-bytes-eq1.true c.if-bytes-eq48.true

pub returns-else-bytes-eq1 : goal.returns-else-bytes-eq1
returns-else-bytes-eq1 c = number_of-zeros c.args.bytes.now (eqb-false _ _ (sym c.is_empty.ensures ∙ c.if-is_empty.false)) c.if-bytes-eq1.false c.if-bytes-eq48.true

pub returns-in_err-number : goal.returns-in_err-number
returns-in_err-number c =
    let stop : with_digit c.loop-byte.number (get_or c.args.bytes.now c.loop-byte.byte-index 0) ≡ None = sym c.with_digit.ensures ∙ c.in_err-number.was in
    c.from_residual.ensures ∙ sym (read_on-stops c.args.bytes.now c.loop-byte.byte-index c.loop-byte.number (omega arith) stop) ∙ c.loop-byte.invariant
    ∙ number_of-digits c.args.bytes.now (eqb-false _ _ (sym c.is_empty.ensures ∙ c.if-is_empty.false)) c.if-bytes-eq48.false

pub returns : goal.returns
returns c =
    ap (λ cs. read_on cs (Some c.loop-byte.number)) (sym (drop_all c.loop-byte.byte-index c.args.bytes.now (omega arith))) ∙ c.loop-byte.invariant
    ∙ number_of-digits c.args.bytes.now (eqb-false _ _ (sym c.is_empty.ensures ∙ c.if-is_empty.false)) c.if-bytes-eq48.false

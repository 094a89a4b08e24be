use Rattle.std.proofs.Common.{arith, refl, sym, ◌∙◌}
use Rattle.std.proofs.lemmas.Result.{IfOk-weaker}
use Rattle.dg_ihex.specs.Streams.{ReadsAlike}
use Rattle.dg_ihex.proofs.LongLemmas.{digits_front, broken_front}
use Rattle.dg_ihex.proofs.stream.short_front.Goals as goal

pub returns-then-are_digits : goal.returns-then-are_digits
returns-then-are_digits c =
    let front = c.args.front.now in
    IfOk-weaker c.bytes_of.result _ (λ short. ReadsAlike short.items front)
    (λ short is. digits_front front short.items _ (sym c.are_digits.ensures ∙ c.if-are_digits.true) refl is c.requires.long c.requires.pairs) c.bytes_of.ensures

pub returns : goal.returns
returns c =
    let front = c.args.front.now in
    IfOk-weaker c.bytes_of-2.result _ (λ short. ReadsAlike short.items front)
    (λ short is. broken_front front short.items _ (sym c.are_digits.ensures ∙ c.if-are_digits.false) refl is (omega (arith, c.requires.long))) c.bytes_of-2.ensures

use Rattle.std.proofs.Common.{◌<◌, length, sym, arith}
use Rattle.dg_script.proofs.WordLemmas.{halves_of-none, halves_found}
use Rattle.dg_script.proofs.words.halves.Goals as goal

pub returns-then-length-text : goal.returns-then-length-text
returns-then-length-text c =
    sym (halves_of-none c.args.text.now (λ k below. c.length_before-length.ensures.word k (omega (arith, below))))

pub returns : goal.returns
returns c =
    let text = c.args.text.now in
    let within : c.length_before-length.result < length text = omega arith in
    halves_found text c.length_before-length.result within c.length_before-length.ensures.word (c.length_before-length.ensures.stops within)

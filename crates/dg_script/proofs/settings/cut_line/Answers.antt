use Rattle.std.proofs.Common.{rules, ◌≡◌, Ok, sym}
use Rattle.dg_script.specs.Words.{words_of, two_of}
use Rattle.dg_script.proofs.FieldLemmas.{cut_of-read}
use Rattle.dg_script.proofs.settings.cut_line.Goals as goal

pub returns : goal.returns
returns c =
    let operation = c.in_ok-operation.operation.now in
    let digits = c.in_ok-operation.word.now in
    let words : two_of (words_of c.args.fields.now) ≡ Ok (operation, digits) = search rules in
    cut_of-read c.args.place.now (words_of c.args.fields.now) operation digits _ words (sym c.in_ok-stand.ensures) (sym c.in_ok-after.ensures.read) c.in_ok-mask.ensures.read

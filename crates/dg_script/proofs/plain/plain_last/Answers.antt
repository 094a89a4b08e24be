use Rattle.std.proofs.Common.{sym, ◌∙◌}
use Rattle.dg_script.specs.Words.{words_of}
use Rattle.dg_script.proofs.NumberLineLemmas.{last_stands}
use Rattle.dg_script.proofs.plain.plain_last.Goals as goal

pub returns-in-Ok-other_with-clause-event : goal.returns-in-Ok-other_with-clause-event
returns-in-Ok-other_with-clause-event c =
    last_stands c.args.place.now (words_of c.args.fields.now) c.in_ok-first.first c.in_ok-first.second c.in_ok-first.dt c.in_ok-first.word c.in-Ok.from c.in-Ok-other_with.to c.stand.result
    c.in_ok-first.ensures.numbers c.stand.ensures (sym c.is_err.ensures.value ∙ c.if-is_err.false) c.in-Ok.ensures c.in-Ok-other_with.ensures

use Rattle.std.proofs.Common.{sym, ◌∙◌}
use Rattle.dg_script.specs.Words.{words_of}
use Rattle.dg_script.proofs.NumberLineLemmas.{tick_stands}
use Rattle.dg_script.proofs.plain.plain_tick.Goals as goal

pub returns-in-Ok-clause-event : goal.returns-in-Ok-clause-event
returns-in-Ok-clause-event c =
    tick_stands c.args.place.now (words_of c.args.fields.now) c.in_ok-at.at c.in_ok-at.dt c.in_ok-at.word c.in-Ok.mote c.stand.result c.in_ok-at.ensures.numbers c.stand.ensures
    (sym c.is_err.ensures.value ∙ c.if-is_err.false) c.in-Ok.ensures

use Rattle.std.proofs.Common.{◌<◌, min, ap, ◌∙◌, arith}
use Rattle.dg_mote.proofs.DueLemmas.{tick_rests, due_is}
use Rattle.dg_mote.proofs.mote.Mote.due.Goals as goal

pub returns-clause-rests : goal.returns-clause-rests
returns-clause-rests c = λ d m s mote now word l.
    let a : now < c.clearing_due.result = omega arith in
    let b : now < c.mode_due.result = omega arith in
    tick_rests m s now word (c.clearing_due.ensures.rests m s now mote.since mote.mounted.tells a) (c.mode_due.ensures.rests d m s now word mote b)

pub returns-clause-value : goal.returns-clause-value
returns-clause-value c = λ d m s mote.
    c.min.ensures ∙ due_is m s c.clearing_due.result c.mode_due.result (c.clearing_due.ensures.value m s mote.since mote.mounted.tells) (c.mode_due.ensures.value d m s mote)

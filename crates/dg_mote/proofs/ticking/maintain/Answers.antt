use Rattle.std.proofs.Common.{refl, sym, ◌∙◌}
use Rattle.dg_mote.proofs.ShowLemmas.{restart_shows}
use Rattle.dg_mote.proofs.ticking.maintain.Goals as goal

pub returns-then-order_waits : goal.returns-then-order_waits
returns-then-order_waits c m s id alike is tells =
    restart_shows m s c.args.trickle.now c.args.trickle.now c.args.now c.args.word c.args.out.now is refl (sym (c.order_waits.ensures s tells) ∙ c.if-order_waits.true) c.requires.empty

pub advertise-requires-clause-none : goal.advertise-requires-clause-none
advertise-requires-clause-none c = λ s tells. sym (c.order_waits.ensures s tells) ∙ c.if-order_waits.false

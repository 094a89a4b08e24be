use Rattle.std.proofs.Common.{sym, ◌∙◌}
use Rattle.dg_mote.proofs.DueLemmas.{due_of_timer, maintain_due}
use Rattle.dg_mote.proofs.mote.Mote.mode_due.Goals as goal

pub returns-else-order_waits-clause-value : goal.returns-else-order_waits-clause-value
returns-else-order_waits-clause-value c = λ d m s mote.
    maintain_due d c.args.self.now.volume s c.args.self.now.mode c.in-Maintain.trickle m.mode c.due.result c.in-Maintain.is mote.mode (sym (c.order_waits.ensures s mote.mounted.tells) ∙ c.if-order_waits.false)
    (due_of_timer c.in-Maintain.trickle c.due.result c.due.ensures.waits c.due.ensures.acts)
